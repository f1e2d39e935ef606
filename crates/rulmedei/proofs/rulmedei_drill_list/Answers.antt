-- `rulmedei::rulmedei_drill_list`: the call's promise.
use borrow.Author.Rules.{rules}
use Rattle.rulmedei.specs.FromCalls.{text_coded}
use Rattle.rulmedei.proofs.rulmedei_drill_list.Goals as goal

pub returns : goal.returns
returns c =
    search (text_coded, rules)
