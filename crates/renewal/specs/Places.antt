-- What one changed entry does to the entries (`elsewhere`) and to the sums of four (`below_changed`), by places of the
-- whole pyramid.
use Rattle.std.specs.Prelude.{◌≡◌, List, length, set, ℤ, pos, ◌+ℤ◌, ◌-ℤ◌}
use Rattle.std.proofs.Common.{ap, arith, get_or-set_same, get_or-set_other}
use Prim.Native.Nat.{ℕ, ◌+◌, ◌*◌, ◌-◌, ◌<◌}
use Rattle.std.proofs.Math.Decide.{ℕ_discrete}
use Rattle.integers.specs.Linear.{zz, ints}
use Rattle.pyramid.specs.PyramidPart.{four_at}
use Rattle.renewal.specs.OverPlaces.{at, below, over}

-- ---- what is below a place, after a change
module _ (p : List ℤ) (x : ℕ) (z : ℤ) where
  -- elsewhere nothing changes
  pub elsewhere : (i : ℕ) → (i ≡ x → ⊥) → at (set p x z) i ≡ at p i
  elsewhere i ne = get_or-set_other p x i z (pos 0) ne

-- a sum over the place changes with it
module _ (p : List ℤ) (x : ℕ) (z : ℤ) (some : 0 < x) (lt : x < length p) where
  abbrev changed : List ℤ
  changed = set p x z

  there : (i : ℕ) → i ≡ x → at changed i ≡ z
  there i e = rw e (get_or-set_same p x z (pos 0) lt)

  away : (i : ℕ) → (i ≡ x → ⊥) → at changed i ≡ at p i
  away = elsewhere p x z

  pub below_changed : below changed (over x) ≡ below p (over x) -ℤ at p x +ℤ z
  unfolding four_at
  below_changed = go (ℕ_discrete (x - 1) (4 * o)) (ℕ_discrete (x - 1) (4 * o + 1)) (ℕ_discrete (x - 1) (4 * o + 2))
    where
      o : ℕ
      o = over x

      go : Dec (x - 1 ≡ 4 * o) → Dec (x - 1 ≡ 4 * o + 1) → Dec (x - 1 ≡ 4 * o + 2)
          → at changed (4 * o + 1) +ℤ at changed (4 * o + 1 + 1) +ℤ at changed (4 * o + 1 + 2)
          +ℤ at changed (4 * o + 1 + 2 + 1)
          ≡ (at p (4 * o + 1) +ℤ at p (4 * o + 1 + 1) +ℤ at p (4 * o + 1 + 2) +ℤ at p (4 * o + 1 + 2 + 1))
          -ℤ at p x +ℤ z
      go (yes q) s t =
          let own : at p (4 * o + 1) ≡ at p x = ap (at p) (omega arith) in
          rw (
            there (4 * o + 1) (omega arith),
            away (4 * o + 1 + 1) (λ e. omega arith),
            away (4 * o + 1 + 2) (λ e. omega arith),
            away (4 * o + 1 + 2 + 1) (λ e. omega arith),
          )
          (simp zz (omega (ints, own)))
      go (no q) (yes s) t =
          let own : at p (4 * o + 1 + 1) ≡ at p x = ap (at p) (omega arith) in
          rw (
            away (4 * o + 1) (λ e. omega arith),
            there (4 * o + 1 + 1) (omega arith),
            away (4 * o + 1 + 2) (λ e. omega arith),
            away (4 * o + 1 + 2 + 1) (λ e. omega arith),
          )
          (simp zz (omega (ints, own)))
      go (no q) (no s) (yes t) =
          let own : at p (4 * o + 1 + 2) ≡ at p x = ap (at p) (omega arith) in
          rw (
            away (4 * o + 1) (λ e. omega arith),
            away (4 * o + 1 + 1) (λ e. omega arith),
            there (4 * o + 1 + 2) (omega arith),
            away (4 * o + 1 + 2 + 1) (λ e. omega arith),
          )
          (simp zz (omega (ints, own)))
      go (no q) (no s) (no t) =
          let own : at p (4 * o + 1 + 2 + 1) ≡ at p x = ap (at p) (omega arith) in
          rw (
            away (4 * o + 1) (λ e. omega arith),
            away (4 * o + 1 + 1) (λ e. omega arith),
            away (4 * o + 1 + 2) (λ e. omega arith),
            there (4 * o + 1 + 2 + 1) (omega arith),
          )
          (simp zz (omega (ints, own)))
