-- `descent::descend`: the cell back from its number.
use borrow.Author.Rules.{rules}
use Rattle.descent.specs.Walk.{cell_is}
use Rattle.descent.proofs.descend.Goals as goal

pub returns : goal.returns
returns c =
    search (cell_is, rules)
