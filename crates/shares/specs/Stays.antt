-- How much of a dot's worth stays in a square, from the weights and the shares alone (`stay_arith`).
use Rattle.std.specs.Prelude.{◌≡◌}
use Rattle.std.proofs.Common.{ap, ◌∙◌, mul-le-mul_left, mul-le-mul_right}
use Prim.Native.Nat.{ℕ, zero, suc, ◌+◌, ◌*◌, ◌-◌, ◌≤◌}
use native.Mathlib.Omega.{arith}
use Rattle.definition.specs.Lists.{sum_to}
use Rattle.definition.specs.Pyramid.{one_dot}
use Rattle.integers.specs.Sums.{sum_to_add, sum_to_mul, sum_to_mono, sum_to_ext}

-- ---- the arithmetic: shares s of at most u for each unit of the weights w, of which those with q stay inside
pub stay_arith : (w q s : ℕ → ℕ) (u t own : ℕ) → ((n : ℕ) → q n ≤ 1) → ((n : ℕ) → s n ≤ u * w n) → own + sum_to 9 s
    ≡ one_dot
    → sum_to 9 w * u ≡ one_dot
    → 3 * sum_to 9 (λ n. w n * (1 - q n)) ≤ sum_to 9 w * t → one_dot ≤ own + sum_to 9 (λ n. s n * q n) + 21760 * t
stay_arith w q s u t own bits bound total whole few =
    let parts : sum_to 9 s ≡ sum_to 9 (λ n. s n * q n) + sum_to 9 (λ n. s n * (1 - q n)) =
    sum_to_ext 9 s (λ n. s n * q n + s n * (1 - q n)) (λ n. split (s n) (q n) (bits n))
    ∙ sum_to_add 9 (λ n. s n * q n) (λ n. s n * (1 - q n)) in
    let out : sum_to 9 (λ n. s n * (1 - q n)) ≤ u * sum_to 9 (λ n. w n * (1 - q n)) =
    omega (
      arith,
      sum_to_mono 9 (λ n. s n * (1 - q n)) (λ n. u * (w n * (1 - q n)))
          (λ n. omega (arith, mul-le-mul_right (1 - q n) (bound n))),
      sum_to_mul 9 u (λ n. w n * (1 - q n)),
    ) in
    let k : u * (3 * sum_to 9 (λ n. w n * (1 - q n))) ≤ u * (sum_to 9 w * t) = mul-le-mul_left u few in
    let z : sum_to 9 w * u * t ≡ one_dot * t = ap (λ (m : ℕ). m * t) whole in
    omega arith
  where
    split : (x b : ℕ) → b ≤ 1 → x ≡ x * b + x * (1 - b)
    split x zero h = omega arith
    split x (suc zero) h = omega arith
    split x (suc (suc b)) h = omega arith
