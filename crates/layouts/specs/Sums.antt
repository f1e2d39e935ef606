-- The pyramid over cells that lie by quarters: the entry at place i of a level is the sum of those at the places 4i to
-- 4i + 3 of the next finer one (`four_places`). Row after row, it is the definition's pyramid over these cells
-- (`rows_over`).
use Rattle.std.specs.Prelude.{◌≡◌, List, ◌++◌, ℕ, zero, suc, ◌+◌, ◌*◌, ◌^◌, ◌<◌, length, get_or, ℤ, pos}
use Rattle.std.proofs.Math.Path.{refl, ap₂}
use Rattle.std.proofs.Common.{sym, ap, ◌∙◌, arith, length-append}
use Rattle.std.proofs.Math.Nat.{pow-succ'}
use Rattle.std.proofs.Math.IntN.{◌+ℤ◌}
use Rattle.definition.specs.Lists.{tabulate, joined}
use Rattle.definition.specs.Pyramid.{start, in_level, four, coarser, pyramid_over}
use Rattle.definition.specs.Quarters.{interleaved, quarter_entry, rows_from}
use Rattle.integers.specs.Lists.{length_tabulate, get_d_tabulate}
use Rattle.quadtree.specs.Levels.{start_thrice, start_suc}
use Rattle.quadtree.specs.Renewal.{level_ext}
use Rattle.layouts.specs.Interleaved.{quarter, interleaved_lt}
use Rattle.layouts.specs.Cells.{rows_level, rows_in, rows_up, rows_append}

-- the sum of four entries from place 4i on; the next coarser level; all levels
unfoldable pub four_from : List ℤ → ℕ → ℤ
four_from below i =
    get_or below (4 * i) (pos 0) +ℤ get_or below (4 * i + 1) (pos 0)
    +ℤ get_or below (4 * i + 2) (pos 0) +ℤ get_or below (4 * i + 3) (pos 0)

unfoldable pub coarser_from : ℕ → List ℤ → List ℤ
coarser_from k below = tabulate (2 ^ k * 2 ^ k) (four_from below)

unfoldable pub quarters_over : ℕ → List ℤ → List ℤ
quarters_over zero cells = cells
quarters_over (suc k) cells = quarters_over k (coarser_from k cells) ++ cells

-- ---- one level
module _ (k : ℕ) (below : List ℤ) (a b : ℕ) (p : a < 2 ^ k) (q : b < 2 ^ k) where
  -- one of the four
  one : (i j x y n : ℕ) → i < 2 → j < 2 → x ≡ 2 * a + i → y ≡ 2 * b + j
      → n ≡ 4 * interleaved k a b + (2 * i + j)
      → get_or below n (pos 0) ≡ in_level (suc k) (rows_level (suc k) below) x y
  one i j x y n u v ex ey en =
      ap (λ (m : ℕ). get_or below m (pos 0))
      (en ∙ sym (quarter k a b i j u v) ∙ sym (ap₂ (interleaved (suc k)) ex ey))
      ∙ sym (rows_in (suc k) below x y (rw (pow-succ' 2 k) (omega arith)) (rw (pow-succ' 2 k) (omega arith)))

  pub four_places : four_from below (interleaved k a b) ≡ four (in_level (suc k) (rows_level (suc k) below)) a b
  unfolding four_from four
  four_places =
      let nw = one 0 0 (2 * a) (2 * b) (4 * interleaved k a b)
      (omega arith) (omega arith) (omega arith) (omega arith) (omega arith) in
      let ne = one 0 1 (2 * a) (2 * b + 1) (4 * interleaved k a b + 1)
      (omega arith) (omega arith) (omega arith) (omega arith) (omega arith) in
      let sw = one 1 0 (2 * a + 1) (2 * b) (4 * interleaved k a b + 2)
      (omega arith) (omega arith) (omega arith) (omega arith) (omega arith) in
      let se = one 1 1 (2 * a + 1) (2 * b + 1) (4 * interleaved k a b + 3)
      (omega arith) (omega arith) (omega arith) (omega arith) (omega arith) in
      ap₂ ◌+ℤ◌ (ap₂ ◌+ℤ◌ (ap₂ ◌+ℤ◌ nw ne) sw) se

rows_coarser : (k : ℕ) (below : List ℤ)
    → rows_level k (coarser_from k below) ≡ coarser k (rows_level (suc k) below)
unfolding rows_level coarser coarser_from
rows_coarser k below =
    level_ext k _ _ (λ a b p q.
    get_d_tabulate (2 ^ k * 2 ^ k) (four_from below) (interleaved k a b) (pos 0) (interleaved_lt k a b)
    ∙ four_places k below a b p q)

length_coarser : (k : ℕ) (below : List ℤ) → length (coarser_from k below) ≡ 2 ^ k * 2 ^ k
unfolding coarser_from
length_coarser k below = length_tabulate 0 (2 ^ k * 2 ^ k) (four_from below)

-- ---- all levels
pub length_over : (r : ℕ) (cells : List ℤ) → length cells ≡ 2 ^ r * 2 ^ r
    → length (quarters_over r cells) ≡ start (suc r)
unfolding quarters_over
length_over zero cells h = h ∙ omega (arith, start_thrice 1)
length_over (suc r) cells h =
    omega (
      arith,
      length-append (quarters_over r (coarser_from r cells)) cells,
      length_over r (coarser_from r cells) (length_coarser r cells),
      start_suc (suc r),
      h,
    )

pub rows_over : (r : ℕ) (cells : List ℤ) → length cells ≡ 2 ^ r * 2 ^ r
    → rows_from r (quarters_over r cells) ≡ pyramid_over r (rows_level r cells)
unfolding quarters_over pyramid_over
rows_over zero cells h = unfold rows_from joined quarter_entry rows_level start interleaved in refl
rows_over (suc r) cells h =
    rows_append (suc r) (quarters_over r (coarser_from r cells)) cells
    (length_over r (coarser_from r cells) (length_coarser r cells))
    ∙ ap (λ (l : List ℤ). l ++ rows_level (suc r) cells)
    (rows_up r (quarters_over r (coarser_from r cells))
    ∙ rows_over r (coarser_from r cells) (length_coarser r cells)
    ∙ ap (pyramid_over r) (rows_coarser r cells))
