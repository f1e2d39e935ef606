-- `rulmedei::rulmedei_restore`: the call's promise.
use borrow.Author.Rules.{rules}
use Rattle.rulmedei.specs.FromCalls.{restore_coded}
use Rattle.rulmedei.proofs.rulmedei_restore.Goals as goal

pub returns : goal.returns
returns c =
    search (restore_coded, rules)
