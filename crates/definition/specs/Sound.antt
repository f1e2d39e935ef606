-- A sound sheet: `is_sound`, a test that is computed, on any numbers, and `Sound`, the same as a record of conditions.
use Rattle.std.specs.Prelude.{◌≡◌, Bool, cond, not, ◌&&◌, ◌||◌, List, ℕ, suc, ◌*◌, ◌-◌, ◌^◌, ◌≤◌, ◌<◌, leb, ltb, eqb}
use Rattle.std.specs.Prelude.{get_or, ℤ, pos, neg_ℤ, ◌≤ℤ◌}
use Rattle.std.specs.Int.Signed.{le_z}
use Rattle.definition.specs.Lists.{sum_to, all_to, eq_z}
use Rattle.definition.specs.Pyramid.{one_dot, cell_count, entry, four}
use Rattle.definition.specs.Blocks.{burnt, burnt_at}
use Rattle.definition.specs.Diffusion.{row_near, column_near, on_map}
use Rattle.definition.specs.Model.{Halftone}

-- how many of the neighbours are burnt: of all eight, whatever their weight (S 4.7)
unfoldable pub burnt_near : ℕ → List ℕ → ℕ → ℕ → ℕ
burnt_near r serials row column =
    sum_to 9 (λ p. cond (not (eqb p 4) && on_map r row column p)
    (burnt_at r serials (row_near row p - 1) (column_near column p - 1)) 0)

-- a test at every entry of level k; the cells are those of level r
unfoldable pub every_entry : ℕ → (ℕ → ℕ → Bool) → Bool
every_entry k test = all_to (2 ^ k) (λ a. all_to (2 ^ k) (λ b. test a b))

-- no more dots than cells (S 4.1)
unfoldable pub few_dots : ℕ → ℕ → Bool
few_dots r dots = leb dots (cell_count r)

-- the order place of each dot has a cell of the map, and the serial there is the dot's; i is one less than the serial
-- (S 4.2)
unfoldable pub numbered : ℕ → List ℕ → List ℕ → ℕ → Bool
numbered r serials order dots =
    all_to dots (λ i. let cell = get_or order i 0 in ltb cell (cell_count r) && eqb (get_or serials cell 0) (suc i))

-- as many cells are burnt as there are dots (S 4.3)
unfoldable pub counted : ℕ → List ℕ → ℕ → Bool
counted r serials dots = eqb (sum_to (cell_count r) (λ i. burnt (get_or serials i 0))) dots

-- no order place behind those of the dots is used (S 4.4)
unfoldable pub unused : ℕ → List ℕ → ℕ → Bool
unused r order dots = all_to (cell_count r) (λ i. ltb i dots || eqb (get_or order i 0) 0)

-- each entry above the cells is the sum of its four (S 4.5)
unfoldable pub summed : ℕ → List ℤ → Bool
summed r pyramid = all_to r (λ k. every_entry k (λ a b. eq_z (entry pyramid k a b) (four (entry pyramid (suc k)) a b)))

-- no cell owes more than a dot, and no burnt cell more than nothing (S 4.6)
unfoldable pub bounded : ℕ → List ℤ → List ℕ → Bool
bounded r pyramid serials =
    every_entry r
    (λ x y. le_z (entry pyramid r x y) (pos one_dot)
    && (eqb (burnt_at r serials x y) 0 || le_z (entry pyramid r x y) (pos 0)))

-- no cell is further below 0 than a dot for each burnt neighbour (S 4.7)
unfoldable pub owing : ℕ → List ℤ → List ℕ → Bool
owing r pyramid serials =
    every_entry r (λ x y. le_z (neg_ℤ (pos (one_dot * burnt_near r serials x y))) (entry pyramid r x y))

-- all of these, however the sheet came about (S 4.1, S 4.2, S 4.3, S 4.4, S 4.5, S 4.6, S 4.7)
unfoldable pub is_sound : ℕ → Halftone → Bool
is_sound r s =
    few_dots r s.dots
    && numbered r s.serials s.order s.dots
    && counted r s.serials s.dots
    && unused r s.order s.dots
    && summed r s.pyramid
    && bounded r s.pyramid s.serials
    && owing r s.pyramid s.serials

-- the same as a record of conditions
pub record Sound (r : ℕ) (s : Halftone) : Type 0 where
  -- no more dots than cells (S 4.1)
  pub few_dots_lem : s.dots ≤ cell_count r
  -- the order place and the serial of each dot (S 4.2)
  pub in_order : (j : ℕ) → 1 ≤ j → j ≤ s.dots
      → (get_or s.order (j - 1) 0 < cell_count r) × (get_or s.serials (get_or s.order (j - 1) 0) 0 ≡ j)
  -- the burnt cells (S 4.3)
  pub count : sum_to (cell_count r) (λ i. burnt (get_or s.serials i 0)) ≡ s.dots
  -- the order places that are left (S 4.4)
  pub unused_zero : (i : ℕ) → s.dots ≤ i → i < cell_count r → get_or s.order i 0 ≡ 0
  -- the entries above the cells (S 4.5)
  pub sums : (k a b : ℕ) → k < r → a < 2 ^ k → b < 2 ^ k
      → entry s.pyramid k a b ≡ four (entry s.pyramid (suc k)) a b
  -- what a cell may owe (S 4.6)
  pub at_most : (x y : ℕ) → x < 2 ^ r → y < 2 ^ r → entry s.pyramid r x y ≤ℤ pos one_dot
  -- and what a burnt one may (S 4.6)
  pub burnt_at_most : (x y : ℕ) → x < 2 ^ r → y < 2 ^ r → burnt_at r s.serials x y ≡ 1
      → entry s.pyramid r x y ≤ℤ pos 0
  -- how far below 0 a cell may be (S 4.7)
  pub at_least : (x y : ℕ) → x < 2 ^ r → y < 2 ^ r
      → neg_ℤ (pos (one_dot * burnt_near r s.serials x y)) ≤ℤ entry s.pyramid r x y
