-- Powers of two by shifting (`shifted`), and where a level begins (`shifted_start`).
use Rattle.std.specs.Prelude.{◌≡◌, refl, ℕ, zero, suc, ◌*◌, ◌-◌, ◌/◌, ◌%◌, ◌^◌, ◌≤◌}
use Rattle.std.proofs.Math.Path.{ap}
use Rattle.std.proofs.Common.{◌∙◌, arith, one-mul, shl_exact}
use Rattle.std.proofs.Math.Nat.{pow-succ'}
use Rattle.definition.specs.Pyramid.{start}

shifted : (k : ℕ) → k ≤ 18 → 1 * 2 ^ k % 2 ^ 64 ≡ 2 ^ k
shifted k h = shl_exact {a = 1} 1 k 64 (omega arith) (omega arith) ∙ one-mul (2 ^ k)

even_power : (k : ℕ) → 2 ^ (2 * k) ≡ 4 ^ k
even_power zero = refl
even_power (suc k) =
    let e : 2 * suc k ≡ suc (suc (2 * k)) = omega arith in
    rw (e, pow-succ' 2 (suc (2 * k)), pow-succ' 2 (2 * k), pow-succ' 4 k) (omega (arith, even_power k))

module _ (k : ℕ) (h : k ≤ 9) where
  shifted_twice : 1 * 2 ^ (2 * k) % 2 ^ 64 ≡ 4 ^ k
  shifted_twice = shifted (2 * k) (omega arith) ∙ even_power k

  pub shifted_start : (1 * 2 ^ (2 * k) % 2 ^ 64 - 1) / 3 ≡ start k
  unfolding start
  shifted_start = ap (λ (n : ℕ). (n - 1) / 3) shifted_twice
