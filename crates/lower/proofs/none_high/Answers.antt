-- `lower::none_high`: what `all` answered of the greys.
use Rattle.std.proofs.Common.{rules, ◌∙◌, leb}
use borrow.Author.Tests.{tests}
use Rattle.std.proofs.lemmas.Iterator.{YieldsList-from_slice}
use Rattle.std.proofs.lemmas.Iterator.Search.{all_from_yields_List}
use Rattle.lower.specs.Loops.{all_low}
use Rattle.lower.proofs.none_high.Goals as goal

pub returns : goal.returns
returns c =
    all_from_yields_List (λ grey. leb grey 240) _ _ c.all.result c.all.ensures.ran
    (YieldsList-from_slice c.args.greys.now cc) (λ x b q k. search (rules, tests))
    ∙ all_low c.args.greys.now
