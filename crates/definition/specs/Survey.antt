-- The calls Tally and Levels, which count and measure any serials: `tally_of` and `levels_of`, for every side and all
-- lists lent.
use Rattle.std.specs.Prelude.{cond, List, [], ◌∷◌, ℕ, zero, suc, ◌*◌, ◌^◌, leb, length, replicate, ℤ, pos, ◌-ℤ◌}
use Rattle.std.specs.Prelude.{nat_abs}
use Rattle.definition.specs.Lists.{sum_to, tabulate}
use Rattle.definition.specs.Answers.{Said, returned, refused}
use Rattle.definition.specs.Blocks.{block_sum_z, grey_at, burnt_at, dots_in}
use Rattle.definition.specs.Refusals.{power_of, side_unknown, greys_short, sheet_short, block_unknown, lowest}

-- Tally's checks, 1, 4, 6, from the side's power, the length lent, and the aligned square (S 5.2)
unfoldable pub tally_refusal : ℕ → ℕ → ℕ → ℕ → ℕ → ℕ
tally_refusal r serials k a b = lowest (side_unknown r ∷ sheet_short r serials ∷ block_unknown r k a b ∷ [])

-- Tally: the dots of an aligned square (S 8.1)
unfoldable pub tally_of : ℕ → List ℕ → ℕ → ℕ → ℕ → Said
tally_of side serials k a b =
    let r = power_of side in
    elim (tally_refusal r (length serials) k a b) [
      | zero ↦ returned (dots_in r serials k a b ∷ [])
      | suc n ↦ refused (suc n)
    ]

-- the error of a cell: its grey, less 255 if it is burnt (S 8.2)
unfoldable pub error_at : ℕ → List ℕ → List ℕ → ℕ → ℕ → ℤ
error_at r greys serials row column = pos (grey_at r greys row column) -ℤ pos (255 * burnt_at r serials row column)

unfoldable pub squared : ℤ → ℕ
squared z = nat_abs z * nat_abs z

-- the sum, over the aligned squares of level k, of the square of their summed errors; it is not divided by N² (S 8.2)
unfoldable pub level_sum : ℕ → List ℕ → List ℕ → ℕ → ℕ
level_sum r greys serials k =
    sum_to (2 ^ k) (λ a. sum_to (2 ^ k) (λ b. squared (block_sum_z r (error_at r greys serials) k a b)))

-- the nine sums, and what is said beside them
pub record LevelsOutcome : Type 0 where
  pub sums : List ℕ
  pub said : Said

-- Levels' checks, 1, 2, 4, from the side's power and the lengths lent (S 5.2)
unfoldable pub levels_refusal : ℕ → ℕ → ℕ → ℕ
levels_refusal r greys serials = lowest (side_unknown r ∷ greys_short r greys ∷ sheet_short r serials ∷ [])

-- Levels: a sum for each of the levels 0 to 8, where those that the map hasn't are 0; all are 0 where it refuses
-- (S 8.2)
unfoldable pub levels_of : ℕ → List ℕ → List ℕ → LevelsOutcome
levels_of side greys serials =
    let r = power_of side in
    elim (levels_refusal r (length greys) (length serials)) [
      | zero ↦ record { sums = tabulate 9 (λ k. cond (leb k r) (level_sum r greys serials k) 0); said = returned [] }
      | suc n ↦ record { sums = replicate 9 0; said = refused (suc n) }
    ]
