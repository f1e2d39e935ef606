-- `rulmedei::rulmedei_map_text`: the call's promise.
use borrow.Author.Rules.{rules}
use Rattle.rulmedei.specs.FromCalls.{greys_coded}
use Rattle.rulmedei.proofs.rulmedei_map_text.Goals as goal

pub returns : goal.returns
returns c =
    search (greys_coded, rules)
