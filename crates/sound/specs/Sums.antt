-- The test of the sums as one of each place of a level (`level_every`), and of one place (`sum_by_rows`,
-- `sum_by_quarters`).
use Rattle.std.specs.Prelude.{◌≡◌, refl, Bool, List, ℕ, suc, ◌+◌, ◌*◌, ◌/◌, ◌%◌, ◌^◌, ◌≤◌, ◌<◌, eqb, ℤ, pos}
use Rattle.std.proofs.Math.Path.{sym, ap, ap₂}
use Rattle.std.proofs.Common.{◌∙◌, arith, add-one, div-lt_iff_lt-mul, mod-lt, mul-le-mul, mul-le-mul_right, add-mul}
use Rattle.std.proofs.Common.{add_assoc, pow_pos, pow_mono, eqb→eq, SFits, of_z}
use Rattle.std.proofs.Math.Bool.{true, false}
use Rattle.std.proofs.Math.Nat.{pow-succ'}
use Rattle.std.proofs.Math.ListN.{get_or}
use Rattle.std.specs.Int.Signed.{mag}
use Rattle.std.specs.Int.{w64}
use Rattle.std.proofs.Math.IntN.{◌+ℤ◌}
use Rattle.definition.specs.Lists.{eq_z}
use Rattle.definition.specs.Pyramid.{cell_count, start, place_in, row_at, column_at, entry, four}
use Rattle.definition.specs.Quarters.{interleaved, row_of, column_of, quarter_entry}
use Rattle.definition.specs.Sound.{every_entry}
use Rattle.integers.specs.Tests.{eq→eqb, eq_z_eq, eq_eq_z, same_test}
use Rattle.integers.specs.Machine.{ok64, eq_back}
use Rattle.quadtree.specs.Levels.{quadruple, start_thrice, start_suc, start_mono}
use Rattle.layouts.specs.Interleaved.{quarter, interleaved_of}
use Rattle.pyramid.specs.PyramidPart.{four_at}
use Rattle.sound.specs.OnePlace.{entry_in, SumAsked, SidesAsked, LevelAsked, below_place, sum_holds, row_sum_at, sum_at}
use Rattle.sound.specs.OnePlace.{level_summed}
use Rattle.integers.specs.Loops.{Every}
use Rattle.sound.specs.Either.{row_in, column_in, every_in, all_to_ext, entry_at}

-- ════ one place

module _ {side i : ℕ} (some : 0 < side) (lt : i < side * side) where
  -- the four below place i lie in the next level
  below_inside : (i / side < side)
      × (2 * (i / side) * (2 * side) + 2 * (i % side) + 2 * side + 1 < 2 * side * (2 * side))
  below_inside =
      let a : i / side < side = (div-lt_iff_lt-mul some).1 lt in
      let b : i % side < side = mod-lt i some in
      (a, omega (arith, mul-le-mul_right (2 * side) (double (i / side) side a), add-mul (2 * (i / side)) 2 (2 * side)))
    where
      double : (a s : ℕ) → a < s → 2 * a + 2 ≤ 2 * s
      double a s q = omega arith

-- the numbers on the way to a place are small
pub record Below (side next i : ℕ) : Type 0 where
  pub row : i / side < side
  pub place : 2 * (i / side) * (2 * side) + 2 * (i % side) ≤ 65536
  pub column : i % side < side
  pub start : next ≤ 87381

module _ {pyramid : List ℤ} {off next side i : ℕ} (h : SidesAsked pyramid off next side) (lt : i < side * side) where
  pub below : Below side next i
  below =
      record {
        row = (below_inside h.some lt).0;
        place = omega (arith, below_inside h.some lt, mul-le-mul (double h.most) (double h.most));
        column = mod-lt i h.some;
        start = h.low;
      }
    where
      double : {s : ℕ} → s ≤ 128 → 2 * s ≤ 256
      double q = omega arith

  pub sum_asked : SumAsked pyramid (off + i) (below_place next side i) (2 * side)
  sum_asked =
      let k = (below_inside h.some lt).1 in
      let x = 2 * (i / side) * (2 * side) + 2 * (i % side) in
      record {
        room = omega (arith, h.room, h.whole);
        below = record {
          room = omega (arith, h.whole);
          first = h.small x (omega arith);
          second = rw (add_assoc next x 1) (h.small (x + 1) (omega arith));
          third = rw (add_assoc next x (2 * side)) (h.small (x + 2 * side) (omega arith));
          fourth =
              rw (add_assoc next x (2 * side), add_assoc next (x + 2 * side) 1)
              (h.small (x + 2 * side + 1) (omega arith));
        };
      }

  -- by quarters they lie side by side
  pub quarter_asked : SumAsked pyramid (off + i) (next + 4 * i) 2
  quarter_asked =
      let k : 4 * i + 3 < 2 * side * (2 * side) = omega arith in
      record {
        room = omega (arith, h.room, h.whole);
        below = record {
          room = omega (arith, h.whole);
          first = h.small (4 * i) (omega arith);
          second = rw (add_assoc next (4 * i) 1) (h.small (4 * i + 1) (omega arith));
          third = rw (add_assoc next (4 * i) 2) (h.small (4 * i + 2) (omega arith));
          fourth = rw (add_assoc next (4 * i) 2, add_assoc next (4 * i + 2) 1) (h.small (4 * i + 2 + 1) (omega arith));
        };
      }

-- a place in either layout
module _ {rows : Bool} (pyramid : List ℤ) (off next side i : ℕ) {b : Bool} where
  pub sum_by_rows : rows ≡ true → b ≡ row_sum_at pyramid off next side i
      → b ≡ sum_at rows pyramid off next side i
  sum_by_rows e q = rw e (unfold sum_at in q)

  pub sum_by_quarters : rows ≡ false → b ≡ sum_holds pyramid (off + i) (next + 4 * i) 2
      → b ≡ sum_at rows pyramid off next side i
  sum_by_quarters e q = rw e (unfold sum_at in q)

-- two words are the same where their numbers are
pub same_word : (x y : ℤ) → mag x < 2 ^ 63 → SFits w64 y → eqb (of_z w64 x) (of_z w64 y) ≡ eq_z x y
same_word x y h k =
    same_test (eqb (of_z w64 x) (of_z w64 y)) (eq_z x y)
    (λ t. eq_eq_z x y (eq_back (ok64 x h) k (eqb→eq (of_z w64 x) (of_z w64 y) t)))
    (λ t. eq→eqb (of_z w64 x) (of_z w64 y) (ap (of_z w64) (eq_z_eq x y t)))

pub sum_told : (pyramid : List ℤ) (at top wide : ℕ) (sum : ℤ) → mag (get_or pyramid at (pos 0)) < 2 ^ 63 → SFits w64 sum
    → sum ≡ four_at pyramid top wide
    → eqb (of_z w64 (get_or pyramid at (pos 0))) (of_z w64 sum) ≡ sum_holds pyramid at top wide
sum_told pyramid at top wide sum h k e =
    same_word (get_or pyramid at (pos 0)) sum h k ∙ ap (eq_z (get_or pyramid at (pos 0))) e

-- ════ a level

pub in_square : (k : ℕ) {side size i : ℕ} → side ≡ 2 ^ k → size ≡ cell_count k → i < size → i < side * side
in_square k es ez lt = rw es (omega arith)

module _ (k : ℕ) {pyramid : List ℤ} {off next side : ℕ} (es : side ≡ 2 ^ k) (eo : off ≡ start k)
    (en : next ≡ start (k + 1)) where
  pub sides_asked : LevelAsked pyramid k → SidesAsked pyramid off next side
  sides_asked h =
      let one : start (k + 1) ≡ start k + 2 ^ k * 2 ^ k = rw (add-one k) (start_suc k) in
      let two : start (k + 2) ≡ start (k + 1) + 2 ^ (k + 1)
      * 2 ^ (k + 1) = rw (add-one k) (rw (two_more k) (start_suc (suc k))) in
      let wide : 2 ^ (k + 1) * 2 ^ (k + 1) ≡ 4 * (2 ^ k * 2 ^ k) = rw (add-one k) (quadruple k) in
      rw (es, eo, en)
      (record {
        some = pow_pos k;
        most = pow_mono {i = k} {j = 7} h.most;
        room = omega arith;
        whole = omega (arith, h.whole);
        low = omega (arith, start_mono (k + 1) 8 (omega (arith, h.most)), start_thrice 8);
        small = λ i lt. h.small i (omega arith);
      })
    where
      two_more : (n : ℕ) → n + 2 ≡ suc (suc n)
      two_more n = omega arith

module _ (k : ℕ) (pyramid : List ℤ) where
  finer_at : (x y j : ℕ) → j ≡ start (suc k) + (x * (2 * 2 ^ k) + y)
      → entry pyramid (suc k) x y ≡ get_or pyramid j (pos 0)
  unfolding entry place_in
  finer_at x y j e = ap (λ (m : ℕ). get_or pyramid m (pos 0)) (rw (pow-succ' 2 k) (sym e))

  four_place : (i : ℕ)
      → four (entry pyramid (suc k)) (row_at k i) (column_at k i)
      ≡ four_at pyramid (below_place (start (suc k)) (2 ^ k) i) (2 * 2 ^ k)
  unfolding four four_at row_at column_at
  four_place i =
      let a = i / 2 ^ k in
      let b = i % 2 ^ k in
      ap₂ ◌+ℤ◌
      (ap₂ ◌+ℤ◌ (ap₂ ◌+ℤ◌ (finer_at (2 * a) (2 * b) _ refl) (finer_at (2 * a) (2 * b + 1) _ (omega arith)))
      (finer_at (2 * a + 1) (2 * b) _ (omega arith)))
      (finer_at (2 * a + 1) (2 * b + 1) _ (omega arith))

  -- by quarters
  module _ (i : ℕ) (lt : i < 2 ^ k * 2 ^ k) where
    abbrev a : ℕ
    a = row_of k i

    abbrev b : ℕ
    b = column_of k i

    one : (x y u v n : ℕ) → x < 2 → y < 2 → u ≡ 2 * a + x → v ≡ 2 * b + y
        → n ≡ start (suc k) + (4 * i + (2 * x + y)) → quarter_entry pyramid (suc k) u v ≡ get_or pyramid n (pos 0)
    unfolding quarter_entry
    one x y u v n p q eu ev en =
        ap (λ (m : ℕ). get_or pyramid m (pos 0))
        (ap (λ (m : ℕ). start (suc k) + m)
        (ap₂ (interleaved (suc k)) eu ev ∙ quarter k a b x y p q
        ∙ ap (λ (m : ℕ). 4 * m + (2 * x + y)) (interleaved_of k i lt))
        ∙ sym en)

    four_quarter :
        four (quarter_entry pyramid (suc k)) (row_of k i) (column_of k i) ≡ four_at pyramid (start (suc k) + 4 * i) 2
    unfolding four four_at
    four_quarter =
        let nw = one 0 0 (2 * a) (2 * b) (start (suc k) + 4 * i)
        (omega arith) (omega arith) (omega arith) (omega arith) (omega arith) in
        let ne = one 0 1 (2 * a) (2 * b + 1) (start (suc k) + 4 * i + 1)
        (omega arith) (omega arith) (omega arith) (omega arith) (omega arith) in
        let sw = one 1 0 (2 * a + 1) (2 * b) (start (suc k) + 4 * i + 2)
        (omega arith) (omega arith) (omega arith) (omega arith) (omega arith) in
        let se = one 1 1 (2 * a + 1) (2 * b + 1) (start (suc k) + 4 * i + 2 + 1)
        (omega arith) (omega arith) (omega arith) (omega arith) (omega arith) in
        ap₂ ◌+ℤ◌ (ap₂ ◌+ℤ◌ (ap₂ ◌+ℤ◌ nw ne) sw) se

  -- either
  level_at : (rows : Bool) (i : ℕ) → i < 2 ^ k * 2 ^ k
      → level_summed rows pyramid k (row_in rows k i) (column_in rows k i)
      ≡ sum_at rows pyramid (start k) (start (suc k)) (2 ^ k) i
  unfolding sum_at
  level_at true i lt =
      ap₂ eq_z (entry_at true pyramid k i lt) (unfold entry_in row_in column_in in four_place i)
  level_at false i lt =
      ap₂ eq_z (entry_at false pyramid k i lt) (unfold entry_in row_in column_in in four_quarter i lt)

  pub level_every : (rows : Bool) {off next side size : ℕ} → side ≡ 2 ^ k → off ≡ start k
      → next ≡ start (k + 1) → size ≡ cell_count k
      → Every (every_entry k (level_summed rows pyramid k)) (sum_at rows pyramid off next side) size
  level_every rows es eo en ez =
      record {
        is = every_in rows k _
            ∙ rw (es, eo, en, ez, add-one k) (all_to_ext (cell_count k) _ _ (λ i lt. level_at rows i lt));
      }
