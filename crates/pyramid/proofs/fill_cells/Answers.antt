use borrow.Author.Rules.{rules}
use Rattle.pyramid.specs.Cells.{rows_none, all_rows}
use Rattle.pyramid.proofs.fill_cells.Goals as goal

pub loop-row-init : goal.loop-row-init
loop-row-init c =
    search (rows_none, rules)

pub returns : goal.returns
returns c =
    search (all_rows, rules)
