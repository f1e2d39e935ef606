-- `dot_run::run`: after each turn the sheet holds one dot more.
use Rattle.dot_run.specs.Running.{Going}
use Rattle.dot_run.proofs.run.Given as goal

abbrev pub invariant-loop-made : goal.invariant-loop-made
invariant-loop-made l = Going l.knit l.r l.initial.pyramid l.initial.serials l.initial.order l.dots l.budget l.pyramid
    l.serials l.order l.made
