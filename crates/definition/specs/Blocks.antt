-- The aligned squares of a map (blocks in the code): sums over the cells of one, `block_sum` and `block_sum_z`, its
-- greys and its dots, `grey_sum` and `dots_in`. `total_of` says how many dots a map comes to.
use Rattle.std.specs.Prelude.{cond, List, ℕ, ◌+◌, ◌*◌, ◌/◌, ◌^◌, eqb, get_or, ℤ}
use Rattle.definition.specs.Lists.{sum_to, sum_z_to}
use Rattle.definition.specs.Pyramid.{cell_number}

-- the side of an aligned square of level k (S 2.10)
abbrev pub block_side : ℕ → ℕ → ℕ
block_side r k = 2 ^ r / 2 ^ k

-- the sum of f over the rows and columns of the cells of a square, which are those that entry (a, b) of level k sums up
-- (S 2.10)
unfoldable pub block_sum : ℕ → (ℕ → ℕ → ℕ) → ℕ → ℕ → ℕ → ℕ
block_sum r f k a b = let s = block_side r k in sum_to s (λ x. sum_to s (λ y. f (a * s + x) (b * s + y)))

-- the same in integers
unfoldable pub block_sum_z : ℕ → (ℕ → ℕ → ℤ) → ℕ → ℕ → ℕ → ℤ
block_sum_z r f k a b = let s = block_side r k in sum_z_to s (λ x. sum_z_to s (λ y. f (a * s + x) (b * s + y)))

-- the grey of a cell, from 0, which asks for no hole, up to 255 (S 2.2)
unfoldable pub grey_at : ℕ → List ℕ → ℕ → ℕ → ℕ
grey_at r greys row column = get_or greys (cell_number r row column) 0

-- 1 for the serial of a hole, 0 for that of an unburnt cell; and so at a cell (S 2.7)
unfoldable pub burnt : ℕ → ℕ
burnt serial = cond (eqb serial 0) 0 1

unfoldable pub burnt_at : ℕ → List ℕ → ℕ → ℕ → ℕ
burnt_at r serials row column = burnt (get_or serials (cell_number r row column) 0)

-- the grey sum of a square (S 2.10)
unfoldable pub grey_sum : ℕ → List ℕ → ℕ → ℕ → ℕ → ℕ
grey_sum r greys k a b = block_sum r (grey_at r greys) k a b

-- that of the whole map, which is G (S 2.2)
unfoldable pub grey_total : ℕ → List ℕ → ℕ
grey_total r greys = grey_sum r greys 0 0 0

-- the dots of the finished map, from the sum of its greys (S 15.3)
abbrev pub total_of : ℕ → ℕ
total_of G = (2 * G + 255) / 510

-- the dots of a square: its cells whose serial isn't 0; and those of the whole map (S 2.10)
unfoldable pub dots_in : ℕ → List ℕ → ℕ → ℕ → ℕ → ℕ
dots_in r serials k a b = block_sum r (burnt_at r serials) k a b

unfoldable pub all_dots : ℕ → List ℕ → ℕ
all_dots r serials = dots_in r serials 0 0 0
