-- What placing a dot does to the lists: each residual falls by what the dot takes there, the cell's own to 0
-- (`placed_falls`); its serial is the next number, and the order list has its cell number at the next place; lengths
-- stay (`placed_sized`), and the pyramid is summed anew (`placed_summed`).
use Rattle.std.specs.Prelude.{◌≡◌, ◌⊎◌, List, set, drop, ℤ, ◌-ℤ◌}
use Rattle.std.proofs.Math.Path.{sym, ap}
use Rattle.std.proofs.Common.{◌∙◌, inl, inr, arith, add-zero, one-mul, zero-mul, length-drop, get_or-set_same, eq-eqb}
use Rattle.std.proofs.Common.{ne_eqb}
use Prim.Native.Nat.{ℕ, zero, suc, ◌+◌, ◌*◌, ◌-◌, ◌^◌, ◌≤◌, ◌<◌}
use Rattle.std.proofs.Math.Nat.{mul-zero}
use Rattle.std.proofs.Math.Decide.{ℕ_discrete}
use Rattle.std.proofs.Math.ListN.{length, get_or, length-set}
use Rattle.std.proofs.Math.Seq.{get_or-set_other}
use Rattle.std.proofs.Math.IntN.{pos, nat_abs}
use Rattle.definition.specs.Lists.{sum_to}
use Rattle.definition.specs.Pyramid.{one_dot, cell_count, cell_number, start, needed, place_in, in_level, entry}
use Rattle.definition.specs.Pyramid.{pyramid_over}
use Rattle.definition.specs.Diffusion.{Kernel, row_near, column_near, weight_at, share, diffuse}
use Rattle.definition.specs.Model.{Halftone, missing, place_dot}
use Rattle.integers.specs.Linear.{zz, ints}
use Rattle.quadtree.specs.Points.{δ, hit, δδ_same}
use Rattle.quadtree.specs.Levels.{start_suc, place_lt, place_same}
use Rattle.quadtree.specs.Pyramids.{length_pyramid, pyramid_cells, pyramid_summed, entry_drop, Summed}
use Rattle.shares.specs.Shares.{share_none}
use Rattle.shares.specs.Neighbours.{weight_on_map, spread, fall}

-- each buffer has just its needed length
pub record Sized (r : ℕ) (s : Halftone) : Type 0 where
  pub pyramid : length s.pyramid ≡ needed r
  pub serials : length s.serials ≡ cell_count r
  pub order : length s.order ≡ cell_count r

-- two cells that the point's function tells apart
apart : (row column x y : ℕ) → δ row x * δ column y ≡ 0 → (x ≡ row) × (y ≡ column) → ⊥
apart row column x y z e = omega (arith, δδ_same row column, rw (e.0, e.1) at z)

less_zero : (z : ℤ) → z -ℤ pos 0 ≡ z
less_zero z = simp zz (omega arith)

less_less : (z : ℤ) (a b : ℕ) → z -ℤ pos a -ℤ pos b ≡ z -ℤ pos (a + b)
less_less z a b = simp zz (omega arith)

-- ---- one residual falls by v
module _ (r : ℕ) (cells : List ℤ) (long : length cells ≡ cell_count r) (row column v : ℕ) (i : row < 2 ^ r)
    (j : column < 2 ^ r) where
  level_fall : (x y : ℕ) → x < 2 ^ r → y < 2 ^ r
      → in_level r (set cells (place_in r row column) (in_level r cells row column -ℤ pos v)) x y ≡ in_level r cells x y
      -ℤ pos (δ row x * δ column y * v)
  unfolding in_level
  level_fall x y p q = go (hit row column x y)
    where
      go : ((row ≡ x) × (column ≡ y)) ⊎ (δ row x * δ column y ≡ 0)
          → get_or (set cells (place_in r row column) (get_or cells (place_in r row column) (pos 0) -ℤ pos v))
          (place_in r x y)
          (pos 0) ≡ get_or cells (place_in r x y) (pos 0) -ℤ pos (δ row x * δ column y * v)
      go (inl e) =
          rw (← e.0, ← e.1, δδ_same row column, one-mul)
          (get_or-set_same cells (place_in r row column) _ (pos 0) (omega (arith, place_lt r row column i j)))
      go (inr z) =
          get_or-set_other cells (place_in r row column) (place_in r x y) _ (pos 0)
          (λ e. apart row column x y z (place_same r x y row column q j e))
          ∙ sym (rw (z, zero-mul) (less_zero (get_or cells (place_in r x y) (pos 0))))

-- ---- the spread
module _ (kernel : Kernel) (r row column d : ℕ) (cells : List ℤ) (long : length cells ≡ cell_count r)
    (some : 0 < sum_to 9 (weight_at kernel r row column)) where
  abbrev taken : ℕ → ℕ → ℕ → ℕ
  taken n x y =
      sum_to n (λ m. δ (row_near row (kernel.turn m) - 1) x * δ (column_near column (kernel.turn m) - 1) y
      * share 9 (weight_at kernel r row column) d m)

  record Taken (n : ℕ) (after : List ℤ) : Type 0 where
    long' : length after ≡ cell_count r
    at : (x y : ℕ) → x < 2 ^ r → y < 2 ^ r → in_level r after x y ≡ in_level r cells x y -ℤ pos (taken n x y)

  diffuse_taken : (n : ℕ) → Taken n (diffuse kernel r row column d n cells)
  unfolding diffuse sum_to
  diffuse_taken zero = record { long' = long; at = λ x y p q. sym (less_zero (in_level r cells x y)) }
  diffuse_taken (suc n) = go (ℕ_discrete (weight_at kernel r row column n) 0) (diffuse_taken n)
    where
      go : Dec (weight_at kernel r row column n ≡ 0) → Taken n (diffuse kernel r row column d n cells)
          → Taken (suc n) (diffuse kernel r row column d (suc n) cells)
      go (yes z) h =
          rw (eq-eqb (weight_at kernel r row column n) 0 z, diffuse)
          (record {
            long' = h.long';
            at =
                λ x y p q. h.at x y p q
                ∙ rw (share_none 9 (weight_at kernel r row column) some d n z, mul-zero, add-zero);
          })
      go (no z) h =
          let o = weight_on_map kernel r row column n z in
          rw (ne_eqb (weight_at kernel r row column n) 0 z, diffuse)
          (record {
            long' = simp length-set h.long';
            at = λ x y p q.
                level_fall r _ h.long' _ _ (share 9 (weight_at kernel r row column) d n) (omega arith) (omega arith) x
                y p q
                ∙ ap (λ (e : ℤ). e -ℤ pos
                (δ (row_near row (kernel.turn n) - 1) x * δ (column_near column (kernel.turn n) - 1) y
                * share 9 (weight_at kernel r row column) d n)) (h.at x y p q)
                ∙ less_less (in_level r cells x y) (taken n x y) _;
          })

-- ---- the dot
module _ (kernel : Kernel) (r : ℕ) (s : Halftone) (sized : Sized r s) (row column w : ℕ) (i : row < 2 ^ r)
    (j : column < 2 ^ r)
    (some : 0 < sum_to 9 (weight_at kernel r row column)) (owes : entry s.pyramid r row column ≡ pos w)
    (most : w ≤ one_dot) where
  abbrev placed : Halftone
  placed = place_dot kernel r s (row, column)

  abbrev before : List ℤ
  before = drop (start r) s.pyramid

  long : length before ≡ cell_count r
  long = omega (arith, length-drop (start r) s.pyramid, sized.pyramid, start_suc r)

  missing_is : missing (in_level r before row column) ≡ one_dot - w
  unfolding missing
  missing_is =
      let e : pos one_dot -ℤ pos w ≡ pos (one_dot - w) = simp zz (omega ints) in
      ap (λ (z : ℤ). nat_abs (pos one_dot -ℤ z)) (entry_drop s.pyramid r row column ∙ owes) ∙ ap nat_abs e

  -- the cells after the dot
  abbrev after : List ℤ
  after = diffuse kernel r row column (one_dot - w) 9 (set before (place_in r row column) (pos 0))

  abbrev cleared : List ℤ
  cleared = set before (place_in r row column) (pos 0)

  spread_taken : Taken kernel r row column (one_dot - w) cleared
      (length-set before (place_in r row column) (pos 0) ∙ long) some 9 after
  spread_taken =
      diffuse_taken kernel r row column (one_dot - w) cleared (length-set before (place_in r row column) (pos 0) ∙ long)
      some 9

  after_at : (x y : ℕ) → x < 2 ^ r → y < 2 ^ r
      → in_level r after x y ≡ entry s.pyramid r x y -ℤ pos (fall kernel r row column w x y)
  unfolding fall spread
  after_at x y p q =
      let zero_is : in_level r before row column -ℤ pos w
      ≡ pos 0 = rw (entry_drop s.pyramid r row column, owes) (simp zz (omega ints)) in
      spread_taken.at x y p q
      ∙ ap (λ (z : ℤ). z -ℤ pos (spread kernel r row column (one_dot - w) x y))
      (rw zero_is at (level_fall r before long row column w i j x y p q))
      ∙ less_less (in_level r before x y) (δ row x * δ column y * w) (spread kernel r row column (one_dot - w) x y)
      ∙ ap (λ (z : ℤ). z -ℤ pos (δ row x * δ column y * w + spread kernel r row column (one_dot - w) x y))
      (entry_drop s.pyramid r x y)

  pyramid_is : placed.pyramid ≡ pyramid_over r after
  unfolding place_dot
  pyramid_is = rw missing_is

  -- ---- what the dot leaves
  pub placed_sized : Sized r placed
  unfolding place_dot
  placed_sized =
      record {
        pyramid = ap length pyramid_is ∙ length_pyramid r after spread_taken.long';
        serials = length-set s.serials (cell_number r row column) (suc s.dots) ∙ sized.serials;
        order = length-set s.order s.dots (cell_number r row column) ∙ sized.order;
      }

  pub placed_summed : Summed r placed.pyramid
  placed_summed = rw pyramid_is (pyramid_summed r after)

  pub placed_falls : (x y : ℕ) → x < 2 ^ r → y < 2 ^ r
      → entry placed.pyramid r x y ≡ entry s.pyramid r x y -ℤ pos (fall kernel r row column w x y)
  placed_falls x y p q = rw pyramid_is (pyramid_cells r after x y ∙ after_at x y p q)
