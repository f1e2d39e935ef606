-- `rounds::run`: after each turn one round more is made.
use Prim.Native.Nat.{◌-◌}
use Rattle.heads.specs.TwoHeads.{most_rounds}
use Rattle.rounds.specs.Run.{Going}
use Rattle.rounds.proofs.run.Given as goal

abbrev pub invariant-loop-idle : goal.invariant-loop-idle
invariant-loop-idle l = Going l.knit l.r l.initial.pyramid l.initial.serials l.initial.order l.pyramid l.serials l.order
    l.dots l.idle l.t

abbrev pub decreases-loop-idle : goal.decreases-loop-idle
decreases-loop-idle l = most_rounds l.r - l.t
