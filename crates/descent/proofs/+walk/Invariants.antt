-- `descent::walk`, by the levels that are left.
use Prim.Native.Nat.{◌-◌}
use Rattle.descent.proofs.+walk.Given as goal

abbrev pub decreases-walk : goal.decreases-walk
decreases-walk l = l.r - l.k
