-- `rulmedei::rulmedei_lower_text`: the call's promise.
use borrow.Author.Rules.{rules}
use Rattle.rulmedei.specs.FromCalls.{lower_text_coded}
use Rattle.rulmedei.proofs.rulmedei_lower_text.Goals as goal

pub returns : goal.returns
returns c =
    search (lower_text_coded, rules)
