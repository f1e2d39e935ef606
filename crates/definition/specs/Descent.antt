-- The walk from the top to the neediest cell, a descent in the code: `largest` finds the next of four entries,
-- `descend` goes through the levels, and `choice_of` says which of equal entries is taken.
use Rattle.std.specs.Prelude.{Bool, cond, List, ℕ, zero, suc, ◌+◌, ◌*◌, ◌%◌, eqb, ℤ}
use Rattle.std.specs.Int.Signed.{lt_z, le_z}
use Rattle.definition.specs.Pyramid.{entry}

-- an entry that may be taken: its row, its column and its sum
pub record Candidate : Type 0 where
  pub row : ℕ
  pub column : ℕ
  pub sum : ℤ

unfoldable pub candidate : (ℕ → ℕ → ℤ) → ℕ → ℕ → Candidate
candidate below a b = record { row = a; column = b; sum = below a b }

-- A rule of choice: whether a later entry, with the second sum, is taken in place of the best so far, with the first
-- sum.
abbrev pub Choice : Type 0
Choice = ℤ → ℤ → Bool

-- the first of equal largest ones: a later one is taken only where it is larger (S 3.3)
unfoldable pub first_of_equals : Choice
first_of_equals best next = lt_z best next

-- the last of them: a later one is taken also where it is as large (S 3.3)
unfoldable pub last_of_equals : Choice
last_of_equals best next = le_z best next

-- the last of equals, or the first
unfoldable pub of_equals : Bool → Choice
of_equals last = cond last last_of_equals first_of_equals

-- the choice for the dot with this serial: of equals the last if it is even, the first if it is odd (S 3.3)
unfoldable pub choice_of : ℕ → Choice
choice_of serial = of_equals (eqb (serial % 2) 0)

-- the one that is taken of two
unfoldable pub better : Choice → Candidate → Candidate → Candidate
better takes best next = cond (takes best.sum next.sum) next best

-- of the four entries below (a, b), compared from the top left to the bottom right row by row: one with the largest sum
-- (S 3.2, S 3.3)
unfoldable pub largest : Choice → (ℕ → ℕ → ℤ) → ℕ → ℕ → Candidate
largest takes below a b =
    let top_left = candidate below (2 * a) (2 * b) in
    let top_right = candidate below (2 * a) (2 * b + 1) in
    let bottom_left = candidate below (2 * a + 1) (2 * b) in
    let bottom_right = candidate below (2 * a + 1) (2 * b + 1) in
    better takes (better takes (better takes top_left top_right) bottom_left) bottom_right

-- the row and column reached from entry (a, b) of level k, where each of `left` steps goes to a largest of the four
-- below; the whole walk, from the top to a cell, is k = 0, a = b = 0 and left = r (S 3.2)
unfoldable pub descend : Choice → List ℤ → ℕ → ℕ → ℕ → ℕ → ℕ × ℕ
descend takes pyramid zero k a b = (a, b)
descend takes pyramid (suc left) k a b =
    let next = largest takes (entry pyramid (suc k)) a b in
    descend takes pyramid left (suc k) next.row next.column
