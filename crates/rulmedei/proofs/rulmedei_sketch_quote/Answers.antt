-- `rulmedei::rulmedei_sketch_quote`: the call's promise.
use borrow.Author.Rules.{rules}
use Rattle.rulmedei.specs.FromCalls.{sketch_coded}
use Rattle.rulmedei.proofs.rulmedei_sketch_quote.Goals as goal

pub returns : goal.returns
returns c =
    search (sketch_coded, rules)
