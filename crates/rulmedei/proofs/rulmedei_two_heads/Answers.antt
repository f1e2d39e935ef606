-- `rulmedei::rulmedei_two_heads`: the call's promise.
use borrow.Author.Rules.{rules}
use Rattle.rulmedei.specs.FromCalls.{two_heads_coded}
use Rattle.rulmedei.proofs.rulmedei_two_heads.Goals as goal

pub returns : goal.returns
returns c =
    search (two_heads_coded, rules)
