-- `diffusion::is_inside`: the column right decides where the rest lies on the map.
use borrow.Author.Rules.{rules}
use Rattle.diffusion.specs.Inside.{none_there, right_decides}
use Rattle.diffusion.proofs.is_inside.Goals as goal

pub returns-then-row-last : goal.returns-then-row-last
returns-then-row-last c =
    search (right_decides, rules)

pub returns-else-row-last : goal.returns-else-row-last
returns-else-row-last c =
    search (none_there, rules)
