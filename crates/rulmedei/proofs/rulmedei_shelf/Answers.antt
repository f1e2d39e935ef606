-- `rulmedei::rulmedei_shelf`: the call's promise.
use borrow.Author.Rules.{rules}
use Rattle.rulmedei.specs.FromCalls.{shelf_coded}
use Rattle.rulmedei.proofs.rulmedei_shelf.Goals as goal

pub returns : goal.returns
returns c =
    search (shelf_coded, rules)
