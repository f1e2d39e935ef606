-- The calls Compare, `compare_of`, on two plates of one side, and Shelf, `shelf_of`, which puts plates in order.
-- `compared` says how two plates stand by their burnt cells, and `in_order` lists a shelf.
use Rattle.std.specs.Prelude.{Bool, true, false, List, [], ◌∷◌, ◌++◌, ℕ, zero, suc, ◌*◌, ltb, length, get_or, take}
use Rattle.std.specs.Prelude.{drop}
use Rattle.definition.specs.Answers.{
  Said,
  returned,
  comparison,
  refused,
  Compared,
  before,
  before_at,
  same,
  after_at,
  after,
}
use Rattle.definition.specs.Pyramid.{cell_count, row_at, column_at}
use Rattle.definition.specs.Blocks.{burnt, all_dots}
use Rattle.definition.specs.Refusals.{Row, power_of, side_unknown, sheet_short, output_short, lowest}

-- ---- two plates
-- what is compared of a plate, its pattern: 1 for a burnt cell, 0 for an unburnt one, by cell number; which serial it
-- is does not count (S 11.1)
unfoldable pub pattern : List ℕ → ℕ → ℕ
pattern serials i = burnt (get_or serials i 0)

-- Of two patterns the first cell at which they differ, sought from cell i on through `count` cells. Cell numbers go row
-- by row, and in a row column by column. The plate that is unburnt there comes first (S 11.1).
unfoldable pub first_difference : ℕ → ℕ → ℕ → (ℕ → ℕ) → (ℕ → ℕ) → Compared
first_difference r zero i f g = same
first_difference r (suc count) i f g =
    elim (ltb (f i) (g i)) [
      | true ↦ before_at (row_at r i) (column_at r i)
      | false ↦ elim (ltb (g i) (f i)) [
        | true ↦ after_at (row_at r i) (column_at r i)
        | false ↦ first_difference r count (suc i) f g
      ]
    ]

-- The plate with fewer holes comes first; only where both have as many, the first difference decides, and is named
-- (S 11.1).
unfoldable pub compared : ℕ → List ℕ → List ℕ → Compared
compared r left right =
    let m = all_dots r left in
    let n = all_dots r right in
    elim (ltb m n) [
      | true ↦ before
      | false ↦ elim (ltb n m) [
        | true ↦ after
        | false ↦ first_difference r (cell_count r) 0 (pattern left) (pattern right)
      ]
    ]

-- the checks 1, then 4 for either sheet: from the side's power and the lengths lent (S 5.2)
unfoldable pub compare_refusal : ℕ → ℕ → ℕ → ℕ
compare_refusal r left right = lowest (side_unknown r ∷ sheet_short r left ∷ sheet_short r right ∷ [])

-- the call Compare (S 11.1)
unfoldable pub compare_of : ℕ → List ℕ → List ℕ → Said
compare_of side left right =
    let r = power_of side in
    elim (compare_refusal r (length left) (length right)) [
      | zero ↦ comparison (compared r left right)
      | suc n ↦ refused (suc n)
    ]

-- ---- the shelf
-- plate number i of a shelf, where the plates stand one after the other (S 11.2)
unfoldable pub plate_at : ℕ → List ℕ → ℕ → List ℕ
plate_at r plates i = take (cell_count r) (drop (i * cell_count r) plates)

-- whether the left plate comes before the right one (S 11.1)
unfoldable pub is_before : Compared → Bool
is_before before = true
is_before (before_at row column) = true
is_before same = false
is_before (after_at row column) = false
is_before after = false

-- plate x put into a list that is in order: in front of the first plate that it comes before, so behind all its equals
-- (S 11.2)
unfoldable pub insert : ℕ → List ℕ → ℕ → List ℕ → List ℕ
insert r plates x [] = x ∷ []
insert r plates x (y ∷ ys) =
    elim (is_before (compared r (plate_at r plates x) (plate_at r plates y))) [
      | true ↦ x ∷ y ∷ ys
      | false ↦ y ∷ insert r plates x ys
    ]

-- the numbers of the first n plates in order, equal plates as they stood: each plate in turn put among those before it
-- (S 11.2)
unfoldable pub in_order : ℕ → List ℕ → ℕ → List ℕ
in_order r plates zero = []
in_order r plates (suc n) = insert r plates n (in_order r plates n)

-- 4: a shelf shorter than n × N² (S 11.2)
abbrev pub shelf_short : ℕ → ℕ → ℕ → Row
shelf_short r n lent = (4, ltb lent (n * cell_count r))

-- the checks 1, then 4 for the shelf, then 8 for a list shorter than n: from the side's power, n and the lengths lent
-- (S 5.2)
unfoldable pub shelf_refusal : ℕ → ℕ → ℕ → ℕ → ℕ
shelf_refusal r n plates list = lowest (side_unknown r ∷ shelf_short r n plates ∷ output_short n list ∷ [])

-- what is said, and the list afterwards
pub record ShelfOutcome : Type 0 where
  pub said : Said
  pub list : List ℕ

-- the call Shelf; the places past the n-th stay, and all of them where it refuses (S 11.2)
unfoldable pub shelf_of : ℕ → ℕ → List ℕ → List ℕ → ShelfOutcome
shelf_of side n plates list =
    let r = power_of side in
    elim (shelf_refusal r n (length plates) (length list)) [
      | zero ↦ record { said = returned []; list = in_order r plates n ++ drop n list }
      | suc k ↦ record { said = refused (suc k); list = list }
    ]
