use borrow.Author.Rules.{rules}
use Rattle.rounds.specs.Run.{begins, over, next_fits, goes_on}
use Rattle.rounds.proofs.run.Goals as goal

pub loop-idle-init : goal.loop-idle-init
loop-idle-init c =
    search (begins, rules)

pub overflow_add-t : goal.overflow_add-t
overflow_add-t c =
    search (next_fits, rules)

pub loop-idle-preserved : goal.loop-idle-preserved
loop-idle-preserved c =
    search (goes_on, rules)

pub returns : goal.returns
returns c =
    search (over, rules)
