-- `renewal::renew_up`: after each turn the four places are one level further up.
use Rattle.renewal.specs.Upward.{Climbing}
use Rattle.renewal.proofs.renew_up.Given as goal

abbrev pub invariant-loop-at : goal.invariant-loop-at
invariant-loop-at l = Climbing l.initial.pyramid l.level l.fn.places.nw l.fn.places.ne l.fn.places.sw l.fn.places.se
    l.pyramid l.k l.at.nw l.at.ne l.at.sw l.at.se

abbrev pub decreases-loop-at : goal.decreases-loop-at
decreases-loop-at l = l.k
