-- The shares of a number d by running floors, over any weights: none is negative (they are natural numbers), they sum
-- to d (`share_sum`), and if d is at most u for each unit of weight in all, then each share is at most u for each unit
-- of its weight (`share_bound`).
use Rattle.std.specs.Prelude.{◌≡◌}
use Rattle.std.proofs.Math.Path.{sym, ap}
use Rattle.std.proofs.Common.{◌∙◌, arith, div-mul-le_self, lt_of_mul-lt-mul_right, mul-le-mul_right, mul-div_cancel}
use Rattle.std.proofs.Common.{mul-zero, le-mul_of_pos_right}
use Prim.Native.Nat.{ℕ, zero, suc, ◌+◌, ◌*◌, ◌/◌, ◌≤◌, ◌<◌}
use Rattle.std.proofs.Math.Nat.{lt-div-mul-add, zero-div}
use Rattle.definition.specs.Lists.{sum_to}
use Rattle.definition.specs.Diffusion.{share}

-- one step of a running floor rises, and by at most u for each unit of weight
floor_mono : (D d c w : ℕ) → 0 < D → d * c / D ≤ d * (c + w) / D
floor_mono D d c w pos =
    let p : d * c / D * D ≤ d * c = div-mul-le_self (d * c) D in
    let q : d * (c + w) < d * (c + w) / D * D + D = lt-div-mul-add pos in
    let y : d * c / D < d * (c + w) / D + 1 = lt_of_mul-lt-mul_right D (omega arith) in
    omega arith

floor_step : (D u d c w : ℕ) → 0 < D → d ≤ D * u → d * (c + w) / D ≤ d * c / D + u * w
floor_step D u d c w pos h =
    let p : d * (c + w) / D * D ≤ d * (c + w) = div-mul-le_self (d * (c + w)) D in
    let q : d * c < d * c / D * D + D = lt-div-mul-add pos in
    let k : d * w ≤ D * u * w = mul-le-mul_right w h in
    let y : d * (c + w) / D < d * c / D + u * w + 1 = lt_of_mul-lt-mul_right D (omega arith) in
    omega arith

module _ (m : ℕ) (weight : ℕ → ℕ) (some : 0 < sum_to m weight) where
  pub share_bound : (u d n : ℕ) → d ≤ sum_to m weight * u → share m weight d n ≤ u * weight n
  unfolding share sum_to
  share_bound u d n h = omega (arith, floor_step (sum_to m weight) u d (sum_to n weight) (weight n) some h)

  -- the shares up to turn n
  share_run : (d n : ℕ) → sum_to n (share m weight d) ≡ d * sum_to n weight / sum_to m weight
  unfolding share sum_to
  share_run d zero = sym (zero-div (sum_to m weight)) ∙ ap (λ (k : ℕ). k / sum_to m weight) (sym (mul-zero d))
  share_run d (suc n) = omega (arith, share_run d n, floor_mono (sum_to m weight) d (sum_to n weight) (weight n) some)

  -- the shares sum to what is spread (S 3.7)
  pub share_sum : (d : ℕ) → sum_to m (share m weight d) ≡ d
  share_sum d = share_run d m ∙ mul-div_cancel d some

  -- no weight, no share
  pub share_none : (d n : ℕ) → weight n ≡ 0 → share m weight d n ≡ 0
  share_none d n z = omega (arith, rw z at (share_bound d d n (omega (arith, le-mul_of_pos_right d some))))
