-- `diffusion::weight_sum`: after n turns the sum of the first n weights.
use mathlib.Core.Path.{◌≡◌}
use Prim.Native.Nat.{◌≤◌}
use Rattle.definition.specs.Lists.{sum_to}
use Rattle.definition.specs.Diffusion.{kernel_of, weight_at}
use Rattle.diffusion.proofs.weight_sum.Given as goal

abbrev pub invariant-loop-n : goal.invariant-loop-n
invariant-loop-n l = (l.n ≤ 9) × (l.sum ≡ sum_to l.n (weight_at (kernel_of l.knit) l.r l.row l.column))
