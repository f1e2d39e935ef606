-- `rulmedei::rulmedei_levels`: the call's promise.
use borrow.Author.Rules.{rules}
use Rattle.rulmedei.specs.FromCalls.{levels_coded}
use Rattle.rulmedei.proofs.rulmedei_levels.Goals as goal

pub returns : goal.returns
returns c =
    search (levels_coded, rules)
