-- `rounds::round`: after each turn one macroblock more is worked.
use Rattle.rounds.specs.Round.{Working}
use Rattle.rounds.proofs.round.Given as goal

abbrev pub invariant-loop-i : goal.invariant-loop-i
invariant-loop-i l = Working l.knit l.r l.t l.initial.pyramid l.initial.serials l.initial.order l.dots l.pyramid
    l.serials l.order l.after l.i
