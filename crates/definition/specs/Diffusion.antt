-- The spread around a hole, diffusion in the code: the neighbours of a cell (`on_map`), their weights by the knit
-- (`weights_of`), the order in which they come (`places_in_turn`), their shares (`share`) and level r with these taken
-- off (`diffuse`).
use Rattle.std.specs.Prelude.{Bool, true, false, cond, ◌&&◌, List, [], ◌∷◌, ℕ, zero, suc, ◌+◌, ◌*◌, ◌-◌, ◌/◌, ◌%◌, ◌^◌}
use Rattle.std.specs.Prelude.{leb, eqb, get_or, set, ℤ, pos, ◌-ℤ◌}
use Rattle.definition.specs.Lists.{sum_to}
use Rattle.definition.specs.Pyramid.{place_in, in_level}

-- A knit's filter of diffusion: a table of three by three weights, by row then column, where place 4 is the cell
-- itself; and the place that comes in turn n.
pub record Kernel : Type 0 where
  pub weight : ℕ → ℕ
  pub turn : ℕ → ℕ

-- the knits of cloth, by number (S 2.8)
abbrev pub plain : ℕ
plain = 0

abbrev pub ribbed : ℕ
ribbed = 1

-- The weights for a knit: on plain cloth a straight neighbour weighs 2 and a diagonal one 1, on ribbed cloth 1 and 0
-- (S 3.5). Calls refuse a knit that is neither.
unfoldable pub weights_of : ℕ → List ℕ
weights_of zero = 1 ∷ 2 ∷ 1 ∷ 2 ∷ 0 ∷ 2 ∷ 1 ∷ 2 ∷ 1 ∷ []
weights_of (suc n) = 0 ∷ 1 ∷ 0 ∷ 1 ∷ 0 ∷ 1 ∷ 0 ∷ 1 ∷ 0 ∷ []

-- On either cloth the diagonal neighbours come first, by row and column, and then those above, left, right and below
-- (S 3.6). The cell itself, which weighs nothing, is named last.
unfoldable pub places_in_turn : List ℕ
places_in_turn = 0 ∷ 2 ∷ 6 ∷ 8 ∷ 1 ∷ 3 ∷ 5 ∷ 7 ∷ 4 ∷ []

-- the filter for a knit (S 3.5, S 3.6)
unfoldable pub kernel_of : ℕ → Kernel
kernel_of knit = record { weight = λ p. get_or (weights_of knit) p 0; turn = λ n. get_or places_in_turn n 4 }

-- Place p of the nine around cell (row, column) has these, counted from one before the map, so that no number is
-- negative.
abbrev pub row_near : ℕ → ℕ → ℕ
row_near row p = row + p / 3

abbrev pub column_near : ℕ → ℕ → ℕ
column_near column p = column + p % 3

-- whether a row or column so counted lies on a map of side 2^r
unfoldable pub within : ℕ → ℕ → Bool
within r x = leb 1 x && leb x (2 ^ r)

-- whether place p lies on the map: of the eight around a cell, those that do are its neighbours (S 3.5)
unfoldable pub on_map : ℕ → ℕ → ℕ → ℕ → Bool
on_map r row column p = within r (row_near row p) && within r (column_near column p)

-- the weight of the place in turn n around cell (row, column): 0 off the map (S 3.5)
unfoldable pub weight_at : Kernel → ℕ → ℕ → ℕ → ℕ → ℕ
weight_at kernel r row column n = let p = kernel.turn n in cond (on_map r row column p) (kernel.weight p) 0

-- The share of d that falls to turn n: the whole part of d × c / D less that of d × c' / D, with c the sum of the
-- weights up to and with this turn and c' the sum before it (S 3.7). D is the sum of the first m weights; all nine come
-- inside the map, on a side and in a corner to 12, 8 and 5 on plain cloth, and to 4, 3 and 2 on ribbed (S 3.5).
unfoldable pub share : ℕ → (ℕ → ℕ) → ℕ → ℕ → ℕ
share m weight d n = d * sum_to (suc n) weight / sum_to m weight - d * sum_to n weight / sum_to m weight

-- level r with d spread around cell (row, column) over the first n turns; a place of weight 0 is passed over (S 3.7)
unfoldable pub diffuse : Kernel → ℕ → ℕ → ℕ → ℕ → ℕ → List ℤ → List ℤ
diffuse kernel r row column d zero cells = cells
diffuse kernel r row column d (suc n) cells =
    let before = diffuse kernel r row column d n cells in
    let p = kernel.turn n in
    let x = row_near row p - 1 in
    let y = column_near column p - 1 in
    elim (eqb (weight_at kernel r row column n) 0) [
      | true ↦ before
      | false ↦ set before (place_in r x y) (in_level r before x y -ℤ pos (share 9 (weight_at kernel r row column) d n))
    ]
