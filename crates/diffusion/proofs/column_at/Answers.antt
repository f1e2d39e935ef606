-- `diffusion::column_at`.
use borrow.Author.Rules.{rules}
use Rattle.diffusion.specs.Inside.{three_first, three_second, three_third}
use Rattle.diffusion.proofs.column_at.Goals as goal

pub returns-in-0 : goal.returns-in-0
returns-in-0 c =
    search (three_first, rules)

pub returns-in-1 : goal.returns-in-1
returns-in-1 c =
    search (three_second, rules)

pub returns-in_default : goal.returns-in_default
returns-in_default c =
    search (three_third, rules)
