-- The power of a side: which sides have one, and which it is (`power_of_pow`, `side_pow`); it is at most 8
-- (`power_small`).
use Rattle.std.specs.Prelude.{◌≡◌, ℕ, zero, suc, ◌*◌, ◌^◌, ◌≤◌, ◌<◌}
use Rattle.std.proofs.Math.Path.{refl}
use Rattle.std.proofs.Common.{sym, ap, ◌∙◌, arith, pow_pos, pow_mono, eq-eqb, ne_eqb}
use Rattle.std.proofs.Math.Decide.{ℕ_discrete}
use Rattle.std.proofs.Math.Pow.{pow-lt}
use Rattle.definition.specs.Pyramid.{cell_count}
use Rattle.definition.specs.Refusals.{power_up_to, power_of}

power_up_to_here : (k side : ℕ) → side ≡ 2 ^ suc k → power_up_to (suc k) side ≡ suc k
unfolding power_up_to
power_up_to_here k side e = rw (eq-eqb side (2 ^ suc k) e, power_up_to)

power_up_to_below : (k side : ℕ) → (side ≡ 2 ^ suc k → ⊥) → power_up_to (suc k) side ≡ power_up_to k side
unfolding power_up_to
power_up_to_below k side n = rw (ne_eqb side (2 ^ suc k) n, power_up_to)

-- a side with a power r up to k is 2 ^ r
power_up_to_power : (k side r : ℕ) → power_up_to k side ≡ r → 0 < r → (side ≡ 2 ^ r) × (r ≤ k)
unfolding power_up_to
power_up_to_power zero side r e p = absurd (omega arith)
power_up_to_power (suc k) side r e p =
    elim (ℕ_discrete side (2 ^ suc k)) [
      | yes h ↦ let q : suc k ≡ r = sym (power_up_to_here k side h) ∙ e in (h ∙ ap (λ (j : ℕ). 2 ^ j) q, omega arith)
      | no h ↦ let t = power_up_to_power k side r (sym (power_up_to_below k side h) ∙ e) p in (t.0, omega arith)
    ]

-- and 2 ^ r has the power r
power_up_to_pow : (k r : ℕ) → 0 < r → r ≤ k → power_up_to k (2 ^ r) ≡ r
power_up_to_pow zero r p h = absurd (omega arith)
power_up_to_pow (suc k) r p h =
    elim (ℕ_discrete r (suc k)) [
      | yes e ↦ power_up_to_here k (2 ^ r) (ap (λ (j : ℕ). 2 ^ j) e) ∙ sym e
      | no n ↦ let l : r < suc k = omega arith in power_up_to_below k (2 ^ r) (λ e. omega (arith, pow-lt l))
          ∙ power_up_to_pow k r p (omega arith)
    ]

-- each of the eight sides has its power (S 2.1)
pub power_of_pow : (r : ℕ) → 0 < r → r ≤ 8 → power_of (2 ^ r) ≡ r
unfolding power_of
power_of_pow r p h = power_up_to_pow 8 r p h

-- no power is above 8
power_up_to_most : (k side : ℕ) → power_up_to k side ≤ k
unfolding power_up_to
power_up_to_most zero side = omega arith
power_up_to_most (suc k) side =
    elim (ℕ_discrete side (2 ^ suc k)) [
      | yes h ↦ omega (arith, power_up_to_here k side h)
      | no h ↦ omega (arith, power_up_to_below k side h, power_up_to_most k side)
    ]

pub power_of_small : (side : ℕ) → power_of side ≤ 8
unfolding power_of
power_of_small side = power_up_to_most 8 side

-- what the code has worked out for it
pub power_small : (side : ℕ) {r : ℕ} → r ≡ power_of side → r ≤ 8
power_small side e = rw e (power_of_small side)

module _ (side : ℕ) (one_of_eight : 0 < power_of side) where
  pub side_pow : side ≡ 2 ^ power_of side
  unfolding power_of
  side_pow = (power_up_to_power 8 side (power_of side) refl one_of_eight).0

  pub side_positive : 0 < side
  side_positive = omega (arith, side_pow, pow_pos (power_of side))

  pub side_most : side ≤ 256
  side_most = omega (arith, side_pow, pow_mono (power_of_small side))

  pub cell_count_side : cell_count (power_of side) ≡ side * side
  cell_count_side = rw (← side_pow)
