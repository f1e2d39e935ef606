-- What the functions of this crate are asked and told, in terms of places (`FourAsked`, `Taken`, `DescentAsked`).
use Rattle.std.specs.Prelude.{◌≡◌, Bool, cond, List, ℕ, ◌+◌, ◌*◌, ◌/◌, ◌%◌, ◌^◌, ◌≤◌, ◌<◌, length, get_or, ℤ, pos}
use Rattle.definition.specs.Pyramid.{cell_number, start, needed}
use Rattle.definition.specs.Quarters.{interleaved}
use Rattle.definition.specs.Descent as definition
use Rattle.definition.specs.Descent.{of_equals}
use Rattle.pyramid.specs.PyramidPart.{SmallPyramid}
use Rattle.descent.specs.declared.Candidate.{Candidate}

-- a candidate of the code among the four below entry (a, b), as the definition has it
unfoldable pub shown : ℕ → ℕ → Candidate → definition.Candidate
shown a b c = record { row = 2 * a + c.quarter / 2; column = 2 * b + c.quarter % 2; sum = c.sum }

-- one of the four entries from a place on; the better of two; the largest of the four
abbrev pub candidate_at : List ℤ → ℕ → ℕ → Candidate
candidate_at pyramid first quarter = record { quarter = quarter; sum = get_or pyramid (first + quarter) (pos 0) }

unfoldable pub better_of : Bool → Candidate → Candidate → Candidate
better_of last best next = cond (of_equals last best.sum next.sum) next best

unfoldable pub largest_of : Bool → List ℤ → ℕ → Candidate
largest_of last pyramid first =
    better_of last
    (better_of last (better_of last (candidate_at pyramid first 0) (candidate_at pyramid first 1))
    (candidate_at pyramid first 2))
    (candidate_at pyramid first 3)

-- four entries from a place on, in a pyramid whose entries are small
pub record FourAsked (pyramid : List ℤ) (first : ℕ) : Type 0 where
  pub room : first + 3 < length pyramid
  pub small : SmallPyramid pyramid

-- which of the four is a largest
pub record Taken (last : Bool) (pyramid : List ℤ) (first quarter : ℕ) : Type 0 where
  pub one : quarter < 4
  pub is : quarter ≡ (largest_of last pyramid first).quarter

-- an entry (a, b) of level k to start from, at its place, in a pyramid of power r, of just the needed length
pub record DescentAsked (pyramid : List ℤ) (r k at a b : ℕ) : Type 0 where
  pub most : r ≤ 8
  pub level : k ≤ r
  pub row : a < 2 ^ k
  pub column : b < 2 ^ k
  pub whole : length pyramid ≡ needed r
  pub small : SmallPyramid pyramid
  pub place : at ≡ start k + interleaved k a b

-- the number of a cell, by row and column
abbrev pub number_of : ℕ → ℕ × ℕ → ℕ
number_of r cell = cell_number r cell.0 cell.1
