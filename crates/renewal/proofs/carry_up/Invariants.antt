-- `renewal::carry_up`: after each turn the sum is one level further up.
use Prim.Native.Nat.{◌-◌}
use Rattle.renewal.specs.Upward.{Carrying}
use Rattle.renewal.proofs.carry_up.Given as goal

abbrev pub invariant-loop-up : goal.invariant-loop-up
invariant-loop-up l = Carrying l.initial.pyramid l.level l.place l.pyramid (l.level - l._up) l.i l.sum
