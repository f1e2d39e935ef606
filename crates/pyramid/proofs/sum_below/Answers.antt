-- `pyramid::sum_below`.
use mathlib.Core.Path.{◌∙◌}
use borrow.Author.Rules.{rules}
use Rattle.integers.specs.Machine.{back64}
use Rattle.pyramid.specs.Sums.{four_are, four_asked}
use Rattle.pyramid.proofs.sum_below.Goals as goal

pub sum_of_four-requires : goal.sum_of_four-requires
sum_of_four-requires c =
    search (four_asked, rules)

pub returns : goal.returns
returns c =
    back64 c.sum_of_four.result c.sum_of_four.type_inv ∙ c.sum_of_four.ensures ∙ four_are _ _ _
