-- `rulmedei::rulmedei_load`: the call's promise.
use borrow.Author.Rules.{rules}
use Rattle.rulmedei.specs.FromCalls.{load_coded}
use Rattle.rulmedei.proofs.rulmedei_load.Goals as goal

pub returns : goal.returns
returns c =
    search (load_coded, rules)
