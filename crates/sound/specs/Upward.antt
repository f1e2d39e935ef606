-- The levels one after another, from the finest on (`Upward`, `turn`, `passes`): the entries of a level that holds are
-- sums of four, so that they stay far from overflow.
use Rattle.std.specs.Prelude.{◌≡◌, Bool, true, false, not, List, ℕ, zero, suc, ◌+◌, ◌*◌, ◌-◌, ◌^◌, ◌≤◌, ◌<◌, T, ℤ}
use Rattle.std.proofs.Common.{sym, ap, ap₂, ◌∙◌, arith, mul-le-mul, le_refl, pow_pos}
use Rattle.std.proofs.Math.Decide.{ℕ_discrete}
use Rattle.std.proofs.Math.Nat.{pow-succ'}
use Rattle.definition.specs.Lists.{all_to, eq_z}
use Rattle.definition.specs.Pyramid.{four}
use Rattle.definition.specs.Sound.{every_entry, summed}
use Rattle.integers.specs.Tests.{T_true, T_false, true_T, false_T, all_to_all, not_all_to, every_entry_at, eq_z_eq}
use Rattle.quadtree.specs.Levels.{quadruple, start_mono, cells_few}
use Rattle.quadtree.specs.Pyramids.{four_ext}
use Rattle.pyramid.specs.PyramidPart.{Within}
use Rattle.pyramid.specs.Four.{within_mono}
use Rattle.pyramid.specs.Small.{four_small}
use Rattle.sound.specs.OnePlace.{in_rows, entry_in, LevelAsked, SummedAsked, level_summed}
use Rattle.integers.specs.Loops.{held, failed}
use Rattle.sound.specs.Either.{row_in, column_in, layout, all_to_ext, every_ext, entry_at, in_rows_lem}

-- the levels from k on hold, and the entries of level k are small
pub record Upward (rows : Bool) (pyramid : List ℤ) (r k : ℕ) : Type 0 where
  pub most : k ≤ r
  pub held : (m : ℕ) → k ≤ m → m < r → T (every_entry m (level_summed rows pyramid m))
  pub bound : ℕ
  pub small : (x y : ℕ) → x < 2 ^ k → y < 2 ^ k → Within bound (entry_in rows pyramid k x y)
  pub room : bound * (2 ^ k * 2 ^ k) ≤ 2 ^ 36

module _ {rows : Bool} {pyramid : List ℤ} {r : ℕ} (h : SummedAsked rows pyramid r) where
  pub last_level : Upward rows pyramid r r
  last_level =
      record {
        most = omega arith;
        held = λ m p q. absurd (omega arith);
        bound = 2 ^ 20;
        small = h.small;
        room = omega (arith, cells_few r h.most);
      }

  level_asked : (k : ℕ) → Upward rows pyramid r (suc k) → LevelAsked pyramid k
  level_asked k u =
      let e : k + 1 ≡ suc k = omega arith in
      let f : k + 2 ≡ suc (suc k) = omega arith in
      record {
        most = omega (arith, u.most, h.most);
        whole = rw f (omega (arith, h.whole, start_mono (suc (suc k)) (suc r) (omega (arith, u.most))));
        small = rw e (λ i lt.
            rw (← entry_at rows pyramid (suc k) i lt)
            (within_mono _ _ _ few
            (u.small (row_in rows (suc k) i) (column_in rows (suc k) i) ((layout rows).row_in (suc k) i lt)
            ((layout rows).column_in_lem (suc k) i lt))));
      }
    where
      few : u.bound ≤ 2 ^ 60
      few = omega (arith, u.room, mul-le-mul (le_refl u.bound) (mul-le-mul (pow_pos (suc k)) (pow_pos (suc k))))

  pub next_asked : {k : ℕ} → Upward rows pyramid r k → 0 < k → LevelAsked pyramid (k - 1)
  next_asked {k = zero} u lt = absurd (omega arith)
  next_asked {k = suc k} u lt = let e : suc k - 1 ≡ k = omega arith in rw e (level_asked k u)

module _ {rows : Bool} {pyramid : List ℤ} {r : ℕ} where
  step : (k : ℕ) → Upward rows pyramid r (suc k) → T (every_entry k (level_summed rows pyramid k))
      → Upward rows pyramid r k
  step k u t =
      record {
        most = omega (arith, u.most);
        held = λ m p q. go m p q (ℕ_discrete m k);
        bound = 4 * u.bound;
        small = λ x y p q.
            rw (eq_z_eq (entry_in rows pyramid k x y) (four (entry_in rows pyramid (suc k)) x y)
            (every_entry_at k (level_summed rows pyramid k) t x y p q))
            (four_small u.bound k (entry_in rows pyramid (suc k)) u.small x y p q);
        room = omega (arith, u.room, ap (λ (n : ℕ). u.bound * n) (quadruple k));
      }
    where
      go : (m : ℕ) → k ≤ m → m < r → Dec (m ≡ k) → T (every_entry m (level_summed rows pyramid m))
      go m p q (yes e) = rw e t
      go m p q (no e) = u.held m (omega arith) q

  pub turn : {k : ℕ} {b : Bool} → Upward rows pyramid r k → 0 < k
      → b ≡ every_entry (k - 1) (level_summed rows pyramid (k - 1)) → not b ≡ false
      → Upward rows pyramid r (k - 1)
  turn {k = zero} u lt e f = absurd (omega arith)
  turn {k = suc k} u lt e f = let z : suc k - 1 ≡ k = omega arith in rw z (step k u (T_true _ (held (rw z at e) f)))

-- the definition's test
summed_in : (rows : Bool) (r : ℕ) (pyramid : List ℤ)
    → summed r (in_rows rows r pyramid) ≡ all_to r (λ m. every_entry m (level_summed rows pyramid m))
unfolding summed
summed_in rows r pyramid =
    all_to_ext r _ _ (λ m lt. every_ext m _ _ (λ a b p q.
    let two : 2 ^ suc m ≡ 2 * 2 ^ m = pow-succ' 2 m in
    ap₂ eq_z (in_rows_lem rows r pyramid m a b (omega arith) p q)
    (four_ext (2 ^ m) _ _ a b p q (λ x y u v. in_rows_lem rows r pyramid (suc m) x y lt (omega arith) (omega arith)))))

module _ {rows : Bool} {pyramid : List ℤ} {r : ℕ} where
  pub fails : {k : ℕ} {b : Bool} → Upward rows pyramid r k → 0 < k
      → b ≡ every_entry (k - 1) (level_summed rows pyramid (k - 1)) → not b ≡ true
      → false ≡ summed r (in_rows rows r pyramid)
  fails {k} u lt e f =
      sym (summed_in rows r pyramid
      ∙ false_T _ (not_all_to r (λ m. every_entry m (level_summed rows pyramid m)) (k - 1) (omega (arith, u.most))
      (T_false _ (failed e f))))

  pub passes : {k : ℕ} → Upward rows pyramid r k → k ≤ 0 → true ≡ summed r (in_rows rows r pyramid)
  passes u le =
      sym (summed_in rows r pyramid
      ∙ true_T _ (all_to_all r (λ m. every_entry m (level_summed rows pyramid m)) (λ m q. u.held m (omega arith) q)))
