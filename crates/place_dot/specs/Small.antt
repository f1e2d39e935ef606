-- The entries of a sound sheet are small (`sound_small`, `all_small`): no cell has more than nine burnt neighbours, and
-- the others are sums over cells.
use Rattle.std.specs.Prelude.{◌≡◌, List, ℕ, zero, suc, ◌+◌, ◌*◌, ◌-◌, ◌^◌, ◌≤◌, ◌<◌, length, get_or, ℤ, pos}
use Rattle.std.proofs.Common.{ap, mul-le-mul, mul-le-mul_left, pow_mono}
use native.Mathlib.Omega.{arith}
use Rattle.std.proofs.Math.Decide.{dec_lt}
use Rattle.std.proofs.Math.ListN.{get_or-eq_default}
use Rattle.definition.specs.Pyramid.{cell_count, start, row_at, column_at, in_level, entry}
use Rattle.definition.specs.Quarters.{interleaved, row_of, column_of, quarter_entry, rows_from}
use Rattle.definition.specs.Model.{Halftone}
use Rattle.definition.specs.Sound.{Sound}
use Rattle.integers.specs.Linear.{zz, ints}
use Rattle.quadtree.specs.Levels.{quadruple, start_suc, start_thrice, place_row_column, row_lt, column_lt}
use Rattle.quadtree.specs.Pyramids.{Summed}
use Rattle.layouts.specs.Interleaved.{interleaved_of, row_of_lt, column_of_lt}
use Rattle.layouts.specs.Relaid.{rows_entry}
use Rattle.pyramid.specs.PyramidPart.{Within}
use Rattle.pyramid.specs.Four.{within_mono}
use Rattle.pyramid.specs.Small.{zero_within, four_small}
use Rattle.dots.specs.Near.{burnt_near_most}

-- nine dots
abbrev pub most_residual : ℕ
most_residual = 587520

pub sound_small : (r : ℕ) (s : Halftone) → Sound r s
    → (x y : ℕ) → x < 2 ^ r → y < 2 ^ r → Within most_residual (entry s.pyramid r x y)
sound_small r s sound x y p q =
    let n = burnt_near_most r s.serials x y in
    let l = sound.at_least x y p q in
    let h = sound.at_most x y p q in
    record { low = simp zz (omega (ints, simp zz at l)); high = simp zz (omega ints) }

-- a level by quarters whose entries are small, place by place
pub places_small : (r bound : ℕ) (cells : List ℤ) → length cells ≡ cell_count r
    → ((x y : ℕ) → x < 2 ^ r → y < 2 ^ r → Within bound (get_or cells (interleaved r x y) (pos 0)))
    → (i : ℕ) → Within bound (get_or cells i (pos 0))
places_small r bound cells long h i = go (dec_lt i (cell_count r))
  where
    go : Dec (i < cell_count r) → Within bound (get_or cells i (pos 0))
    go (yes lt) = rw (interleaved_of r i lt) at (h (row_of r i) (column_of r i) (row_of_lt r i) (column_of_lt r i))
    go (no ge) = rw (get_or-eq_default cells (pos 0) {n = i} (omega arith)) (zero_within bound)

-- one row after row likewise
pub rows_small : (r bound : ℕ) (cells : List ℤ) → length cells ≡ cell_count r
    → ((x y : ℕ) → x < 2 ^ r → y < 2 ^ r → Within bound (in_level r cells x y))
    → (i : ℕ) → Within bound (get_or cells i (pos 0))
unfolding in_level
rows_small r bound cells long h i = go (dec_lt i (cell_count r))
  where
    go : Dec (i < cell_count r) → Within bound (get_or cells i (pos 0))
    go (yes lt) = rw (place_row_column r i) at (h (row_at r i) (column_at r i) (row_lt r i lt) (column_lt r i))
    go (no ge) = rw (get_or-eq_default cells (pos 0) {n = i} (omega arith)) (zero_within bound)

-- ---- all levels of a pyramid by quarters, which is summed row after row
module _ (r : ℕ) (pyramid : List ℤ) (bound : ℕ) (summed : Summed r (rows_from r pyramid))
    (cells : (x y : ℕ) → x < 2 ^ r → y < 2 ^ r → Within bound (entry (rows_from r pyramid) r x y)) where
  abbrev rows : List ℤ
  rows = rows_from r pyramid

  -- j levels above the cells
  entry_small : (j k a b : ℕ) → j + k ≡ r → a < 2 ^ k → b < 2 ^ k
      → Within (bound * (2 ^ j * 2 ^ j)) (entry rows k a b)
  entry_small zero k a b e p q =
      let z : k ≡ r = omega arith in within_mono bound _ _ (omega arith) (rw z (cells a b (rw z at p) (rw z at q)))
  entry_small (suc j) k a b e p q =
      rw (summed.sums k a b (omega arith) p q)
      (within_mono _ _ _ (omega (arith, ap (λ (n : ℕ). bound * n) (quadruple j)))
      (four_small (bound * (2 ^ j * 2 ^ j)) k (entry rows (suc k)) (λ x y. entry_small j (suc k) x y (omega arith))
      a b p q))

  within_all : (k a b : ℕ) → k ≤ r → a < 2 ^ k → b < 2 ^ k
      → Within (bound * (2 ^ r * 2 ^ r)) (entry rows k a b)
  within_all k a b le p q =
      let j = r - k in
      let m : 2 ^ j ≤ 2 ^ r = pow_mono {i = j} {j = r} (omega arith) in
      within_mono _ _ _ (mul-le-mul_left bound (mul-le-mul m m)) (entry_small j k a b (omega arith) p q)

  -- so every place of a level, and of all levels
  place_of : (k i : ℕ) → k ≤ r → start k ≤ i → i < start (suc k)
      → Within (bound * (2 ^ r * 2 ^ r)) (get_or pyramid i (pos 0))
  unfolding quarter_entry
  place_of k i le p q =
      let j = i - start k in
      let e : start k + j ≡ i = omega arith in
      let lt : j < 2 ^ k * 2 ^ k = omega (arith, start_suc k) in
      let a = row_of_lt k j in
      let b = column_of_lt k j in
      rw (rows_entry r pyramid k (row_of k j) (column_of k j) le a b, interleaved_of k j lt, e) at
      (within_all k (row_of k j) (column_of k j) le a b)

  up_to : (k i : ℕ) → k ≤ r → i < start (suc k) → Within (bound * (2 ^ r * 2 ^ r)) (get_or pyramid i (pos 0))
  up_to zero i le lt = place_of 0 i le (omega (arith, start_thrice 0)) lt
  up_to (suc k) i le lt =
      elim (dec_lt i (start (suc k))) [
        | yes h ↦ up_to k i (omega arith) h
        | no h ↦ place_of (suc k) i le (omega arith) lt
      ]

  pub all_small : length pyramid ≡ start (suc r)
      → (i : ℕ) → Within (bound * (2 ^ r * 2 ^ r)) (get_or pyramid i (pos 0))
  all_small long i = go (dec_lt i (start (suc r)))
    where
      go : Dec (i < start (suc r)) → Within (bound * (2 ^ r * 2 ^ r)) (get_or pyramid i (pos 0))
      go (yes h) = up_to r i (omega arith) h
      go (no h) =
          rw (get_or-eq_default pyramid (pos 0) {n = i} (omega arith)) (zero_within (bound * (2 ^ r * 2 ^ r)))
