-- `sound::cell_held`: the bound from above, then that from below.
use borrow.Author.Rules.{rules}
use Rattle.sound.specs.Cells.{over, not_over}
use Rattle.sound.proofs.cell_held.Goals as goal

pub returns-else-cell_bounded : goal.returns-else-cell_bounded
returns-else-cell_bounded c =
    search (over, rules)

pub returns-then-cell_bounded : goal.returns-then-cell_bounded
returns-then-cell_bounded c =
    search (not_over, rules)
