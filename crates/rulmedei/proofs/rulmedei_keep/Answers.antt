-- `rulmedei::rulmedei_keep`: the call's promise.
use borrow.Author.Rules.{rules}
use Rattle.rulmedei.specs.FromCalls.{keep_coded}
use Rattle.rulmedei.proofs.rulmedei_keep.Goals as goal

pub returns : goal.returns
returns c =
    search (keep_coded, rules)
