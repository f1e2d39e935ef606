-- The rows for the order of the spread, `spread_plates`: which neighbour bears the odd units, place by place.
use Rattle.std.specs.Prelude.{Bool, List, [], ◌∷◌, map, ℕ, replicate, pos}
use Rattle.definition.specs.Diffusion.{plain, ribbed, kernel_of, diffuse}
use Rattle.definition.specs.Refusals.{Row}
use Rattle.definition.specs.PlateTools.{same_z, minus}

-- on a map of side 4, spreading d around a cell takes this from each cell, by row
unfoldable pub spreads : ℕ → ℕ → ℕ → ℕ → List ℕ → Bool
spreads knit row column d taken =
    same_z (diffuse (kernel_of knit) 2 row column d 9 (replicate 16 (pos 0))) (map minus taken)

unfoldable pub spread_plates : List Row
spread_plates =
    -- inside plain cloth the sums of the weights are 1, 2, 3, 4, 6, 8, 10, 12 of 12. Of 1, only the last is a whole one
    -- (S 3.6, S 3.7)
    (
      99,
      spreads plain 1 1 1
          (0 ∷ 0 ∷ 0 ∷ 0
          ∷ 0 ∷ 0 ∷ 0 ∷ 0
          ∷ 0 ∷ 1 ∷ 0 ∷ 0
          ∷ 0 ∷ 0 ∷ 0 ∷ 0 ∷ []),
    )
    -- of 2, 3, 4 and 6 one more at each half, third, fourth and sixth: no two neighbours bear the same of all of these
    ∷ (
      99,
      spreads plain 1 1 2
          (0 ∷ 1 ∷ 0 ∷ 0
          ∷ 0 ∷ 0 ∷ 0 ∷ 0
          ∷ 0 ∷ 1 ∷ 0 ∷ 0
          ∷ 0 ∷ 0 ∷ 0 ∷ 0 ∷ []),
    )
    ∷ (
      99,
      spreads plain 1 1 3
          (0 ∷ 0 ∷ 0 ∷ 0
          ∷ 1 ∷ 0 ∷ 0 ∷ 0
          ∷ 0 ∷ 1 ∷ 1 ∷ 0
          ∷ 0 ∷ 0 ∷ 0 ∷ 0 ∷ []),
    )
    ∷ (
      99,
      spreads plain 1 1 4
          (0 ∷ 1 ∷ 0 ∷ 0
          ∷ 0 ∷ 0 ∷ 1 ∷ 0
          ∷ 1 ∷ 1 ∷ 0 ∷ 0
          ∷ 0 ∷ 0 ∷ 0 ∷ 0 ∷ []),
    )
    ∷ (
      99,
      spreads plain 1 1 6
          (0 ∷ 1 ∷ 1 ∷ 0
          ∷ 1 ∷ 0 ∷ 1 ∷ 0
          ∷ 0 ∷ 1 ∷ 1 ∷ 0
          ∷ 0 ∷ 0 ∷ 0 ∷ 0 ∷ []),
    )
    -- on its right side 1, 2, 4, 6, 8 of 8: above left, below left, up, left, down; in its lower left corner 1, 3, 5 of
    -- 5 (S 3.6, S 3.5)
    ∷ (
      100,
      spreads plain 1 3 4
          (0 ∷ 0 ∷ 0 ∷ 1
          ∷ 0 ∷ 0 ∷ 1 ∷ 0
          ∷ 0 ∷ 0 ∷ 1 ∷ 1
          ∷ 0 ∷ 0 ∷ 0 ∷ 0 ∷ []),
    )
    ∷ (
      100,
      spreads plain 3 0 3
          (0 ∷ 0 ∷ 0 ∷ 0
          ∷ 0 ∷ 0 ∷ 0 ∷ 0
          ∷ 1 ∷ 0 ∷ 0 ∷ 0
          ∷ 0 ∷ 2 ∷ 0 ∷ 0 ∷ []),
    )
    -- inside ribbed cloth 1, 2, 3, 4 of 4: of 1 the last, of 2 each second one, of 3 all but the first (S 3.6)
    ∷ (
      101,
      spreads ribbed 1 1 1
          (0 ∷ 0 ∷ 0 ∷ 0
          ∷ 0 ∷ 0 ∷ 0 ∷ 0
          ∷ 0 ∷ 1 ∷ 0 ∷ 0
          ∷ 0 ∷ 0 ∷ 0 ∷ 0 ∷ []),
    )
    ∷ (
      101,
      spreads ribbed 1 1 2
          (0 ∷ 0 ∷ 0 ∷ 0
          ∷ 1 ∷ 0 ∷ 0 ∷ 0
          ∷ 0 ∷ 1 ∷ 0 ∷ 0
          ∷ 0 ∷ 0 ∷ 0 ∷ 0 ∷ []),
    )
    ∷ (
      101,
      spreads ribbed 1 1 3
          (0 ∷ 0 ∷ 0 ∷ 0
          ∷ 1 ∷ 0 ∷ 1 ∷ 0
          ∷ 0 ∷ 1 ∷ 0 ∷ 0
          ∷ 0 ∷ 0 ∷ 0 ∷ 0 ∷ []),
    )
    ∷ []
