-- The pyramid by quarters, Morton order: where each entry lies (`interleaved`, `quarter_entry`), and a pyramid written
-- row after row and back (`as_rows`, `as_quarters`). The other definitions read a pyramid row after row; `ByQuarters`
-- has the calls.
use Rattle.std.specs.Prelude.{true, false, List, ◌++◌, ℕ, zero, suc, ◌+◌, ◌*◌, ◌/◌, ◌%◌, ◌^◌, ltb, length, get_or, drop}
use Rattle.std.specs.Prelude.{ℤ, pos}
use Rattle.definition.specs.Lists.{tabulate, joined}
use Rattle.definition.specs.Pyramid.{start, needed, level_of, entry}

-- The place of entry (a, b) within level k: the k bits of a and of b in turn, the lowest bit of b being the lowest
-- (S 2.5).
unfoldable pub interleaved : ℕ → ℕ → ℕ → ℕ
interleaved zero a b = 0
interleaved (suc k) a b = 4 * interleaved k (a / 2) (b / 2) + (2 * (a % 2) + b % 2)

-- back from a place within level k: its row and its column (S 2.5)
unfoldable pub row_of : ℕ → ℕ → ℕ
row_of zero i = 0
row_of (suc k) i = 2 * row_of k (i / 4) + i / 2 % 2

unfoldable pub column_of : ℕ → ℕ → ℕ
column_of zero i = 0
column_of (suc k) i = 2 * column_of k (i / 4) + i % 2

-- entry (a, b) of level k of a pyramid by quarters; each level begins where it does row after row (S 2.5, S 2.6)
unfoldable pub quarter_entry : List ℤ → ℕ → ℕ → ℕ → ℤ
quarter_entry pyramid k a b = get_or pyramid (start k + interleaved k a b) (pos 0)

-- a level by quarters by itself: the one with f a b as its entry (a, b)
unfoldable pub quarter_level : ℕ → (ℕ → ℕ → ℤ) → List ℤ
quarter_level k f = tabulate (2 ^ k * 2 ^ k) (λ i. f (row_of k i) (column_of k i))

-- a pyramid of power r by quarters, written row after row; and one row after row, written by quarters (S 2.6)
unfoldable pub rows_from : ℕ → List ℤ → List ℤ
rows_from r pyramid = joined (suc r) (λ k. level_of k (quarter_entry pyramid k))

unfoldable pub quarters_from : ℕ → List ℤ → List ℤ
quarters_from r pyramid = joined (suc r) (λ k. quarter_level k (entry pyramid k))

-- the same of a lent pyramid: what lies past the needed length stays, and one that is shorter stays whole (S 2.9)
unfoldable pub relaid : (ℕ → List ℤ → List ℤ) → ℕ → List ℤ → List ℤ
relaid from r pyramid =
    elim (ltb (length pyramid) (needed r)) [
      | true ↦ pyramid
      | false ↦ from r pyramid ++ drop (needed r) pyramid
    ]

unfoldable pub as_rows : ℕ → List ℤ → List ℤ
as_rows r pyramid = relaid rows_from r pyramid

unfoldable pub as_quarters : ℕ → List ℤ → List ℤ
as_quarters r pyramid = relaid quarters_from r pyramid
