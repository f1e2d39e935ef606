use borrow.Author.Rules.{rules}
use Rattle.rounds.specs.Round.{begins}
use Rattle.rounds.specs.Round.{worked, goes_on}
use Rattle.rounds.proofs.round.Goals as goal

pub loop-i-init : goal.loop-i-init
loop-i-init c =
    search (begins, rules)

pub loop-i-preserved : goal.loop-i-preserved
loop-i-preserved c =
    search (goes_on, rules)

pub returns : goal.returns
returns c =
    search (worked, rules)
