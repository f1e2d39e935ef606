-- `rulmedei::rulmedei_tally`: the call's promise.
use borrow.Author.Rules.{rules}
use Rattle.rulmedei.specs.FromCalls.{tally_coded}
use Rattle.rulmedei.proofs.rulmedei_tally.Goals as goal

pub returns : goal.returns
returns c =
    search (tally_coded, rules)
