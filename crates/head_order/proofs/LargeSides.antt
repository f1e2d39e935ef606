-- The sides whose power is 4 or more are 16 or more (`side_large`).
use Rattle.std.specs.Prelude.{ℕ, ◌≤◌}
use Rattle.std.proofs.Common.{arith, pow_mono}
use Rattle.definition.specs.Refusals.{power_of}
use Rattle.refusals.specs.Powers.{side_pow}

pub side_large : (side : ℕ) → 4 ≤ power_of side → 16 ≤ side
side_large side h = omega (arith, side_pow side (omega arith), pow_mono {i = 4} {j = power_of side} h)
