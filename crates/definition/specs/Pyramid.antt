-- The pyramid of debts, row after row: its levels, the place of each entry (`start`, `place_in`, `entry`), its needed
-- length (`needed`), and the sums of four (`four`, `coarser`, `pyramid_over`). Cells are numbered by `cell_number`.
use Rattle.std.specs.Prelude.{List, ◌++◌, ℕ, zero, suc, ◌+◌, ◌*◌, ◌-◌, ◌/◌, ◌%◌, ◌^◌, get_or, ℤ, pos, ◌+ℤ◌}
use Rattle.definition.specs.Lists.{tabulate}

-- what one hole is worth, 255 × 256, in the unit of the cells' debts; a debt, a residual in the code, is a whole number
-- that may be negative (S 2.4)
abbrev pub one_dot : ℕ
one_dot = 65280

-- half of it: from here on a hole is due (S 3.1)
abbrev pub half_dot : ℕ
half_dot = 32640

-- the cells of a map of side N = 2^r, which are N² (S 2.1)
abbrev pub cell_count : ℕ → ℕ
cell_count r = 2 ^ r * 2 ^ r

-- the number of the cell in this row and column, both counted from 0 at the top left; greys, serial sheet and order
-- list go by it (S 2.3)
abbrev pub cell_number : ℕ → ℕ → ℕ → ℕ
cell_number r row column = row * 2 ^ r + column

-- where level k begins (S 2.5)
unfoldable pub start : ℕ → ℕ
start k = (4 ^ k - 1) / 3

-- how long a pyramid has to be: 5 places at side 2, 87,381 at side 256 (S 2.5)
abbrev pub needed : ℕ → ℕ
needed r = start (suc r)

-- the place of entry (a, b) within level k, which has 2^k rows of 2^k entries, row after row (S 2.6); and the row and
-- column of a place
unfoldable pub place_in : ℕ → ℕ → ℕ → ℕ
place_in k a b = a * 2 ^ k + b

unfoldable pub row_at : ℕ → ℕ → ℕ
row_at k i = i / 2 ^ k

unfoldable pub column_at : ℕ → ℕ → ℕ
column_at k i = i % 2 ^ k

-- a level by itself: the one with f a b as its entry (a, b), and its entry (a, b)
unfoldable pub level_of : ℕ → (ℕ → ℕ → ℤ) → List ℤ
level_of k f = tabulate (2 ^ k * 2 ^ k) (λ i. f (row_at k i) (column_at k i))

unfoldable pub in_level : ℕ → List ℤ → ℕ → ℕ → ℤ
in_level k level a b = get_or level (place_in k a b) (pos 0)

-- entry (a, b) of level k of a pyramid (S 2.6)
unfoldable pub entry : List ℤ → ℕ → ℕ → ℕ → ℤ
entry pyramid k a b = get_or pyramid (start k + place_in k a b) (pos 0)

-- the sum of the four entries that lie below (a, b), `below` being their level (S 2.4)
unfoldable pub four : (ℕ → ℕ → ℤ) → ℕ → ℕ → ℤ
four below a b =
    below (2 * a) (2 * b) +ℤ below (2 * a) (2 * b + 1) +ℤ below (2 * a + 1) (2 * b) +ℤ below (2 * a + 1) (2 * b + 1)

-- level k, from level k + 1 below it: each entry the sum of its four (S 2.4)
unfoldable pub coarser : ℕ → List ℤ → List ℤ
coarser k below = level_of k (four (in_level (suc k) below))

-- the pyramid over the debts of the cells, which are level r: level 0 first, whose one entry is the sum of all (S 2.4)
unfoldable pub pyramid_over : ℕ → List ℤ → List ℤ
pyramid_over zero cells = cells
pyramid_over (suc k) cells = pyramid_over k (coarser k cells) ++ cells
