-- What the functions of this crate are asked and told (`MacroblockAsked`, `LargeSheet`, `Seen`).
use Rattle.std.specs.Prelude.{◌≡◌, Bool, cond, List, ℕ, ◌+◌, ◌-◌, ◌^◌, ◌≤◌, ◌<◌, length, ℤ, pos}
use Rattle.std.specs.Int.Signed.{le_z}
use Rattle.definition.specs.Pyramid.{half_dot, start, needed, entry}
use Rattle.definition.specs.Quarters.{interleaved}
use Rattle.definition.specs.Descent.{first_of_equals, largest}
use Rattle.definition.specs.Model.{Halftone}
use Rattle.dots.proofs.Steps.{Sheet}
use Rattle.heads.specs.TwoHeads.{block_sums, macroblock_sum}
use Rattle.pyramid.specs.PyramidPart.{Within, SmallPyramid}
use Rattle.macroblock.specs.declared.Block.{Block}

-- a block of a map of power r, whose pyramid has just the needed length
pub record BlockAsked (pyramid : List ℤ) (r a b : ℕ) : Type 0 where
  pub least : 4 ≤ r
  pub most : r ≤ 8
  pub row : a < 2 ^ (r - 2)
  pub column : b < 2 ^ (r - 2)
  pub whole : length pyramid ≡ needed r

-- a macroblock of such a map; no sum of the pyramid is large
pub record MacroblockAsked (pyramid : List ℤ) (r a b : ℕ) : Type 0 where
  pub least : 4 ≤ r
  pub most : r ≤ 8
  pub row : a + 1 < 2 ^ (r - 2)
  pub column : b + 1 < 2 ^ (r - 2)
  pub whole : length pyramid ≡ needed r
  pub small : SmallPyramid pyramid

-- a sheet of just the needed lengths, sound, of a map that has room for macroblocks
pub record LargeSheet (r : ℕ) (s : Halftone) : Type 0 where
  pub least : 4 ≤ r
  pub most : r ≤ 8
  pub sheet : Sheet r s

-- four numbers far from overflow
pub record SmallSums (first second third fourth : ℤ) : Type 0 where
  pub one : Within (2 ^ 40) first
  pub two : Within (2 ^ 40) second
  pub three : Within (2 ^ 40) third
  pub four : Within (2 ^ 40) fourth

-- block (a, b) of a pyramid row after row, with its place by quarters
abbrev pub block_of : ℕ → List ℤ → ℕ → ℕ → Block
block_of r rows a b =
    record {
      row = a;
      column = b;
      at = start (r - 2) + interleaved (r - 2) a b;
      sum = entry rows (r - 2) a b;
    }

-- the better of two, and the largest of four
unfoldable pub better_of : Block → Block → Block
better_of best next = cond (first_of_equals best.sum next.sum) next best

unfoldable pub largest_of : Block → Block → Block → Block → Block
largest_of first second third fourth = better_of (better_of (better_of first second) third) fourth

-- whether macroblock (a, b) owes half a dot or more, and its block that owes most, with its place by quarters
pub record Seen (r : ℕ) (rows : List ℤ) (a b : ℕ) (due : Bool) (row column at : ℕ) : Type 0 where
  pub due_is : due ≡ le_z (pos half_dot) (macroblock_sum r rows (a, b))
  pub row_is : row ≡ a + (largest first_of_equals (block_sums r rows (a, b)) 0 0).row
  pub column_is : column ≡ b + (largest first_of_equals (block_sums r rows (a, b)) 0 0).column
  pub place_is : at ≡ start (r - 2) + interleaved (r - 2) row column
