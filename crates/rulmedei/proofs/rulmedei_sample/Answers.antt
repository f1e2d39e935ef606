-- `rulmedei::rulmedei_sample`: the call's promise.
use borrow.Author.Rules.{rules}
use Rattle.rulmedei.specs.FromCalls.{greys_coded}
use Rattle.rulmedei.proofs.rulmedei_sample.Goals as goal

pub returns : goal.returns
returns c =
    search (greys_coded, rules)
