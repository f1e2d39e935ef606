-- `text_cells::read_cell`: a sketch's pair, or a map's grey.
use borrow.Author.Rules.{rules}
use Rattle.text_cells.specs.Cell.{of_sketch, no_grey, grey_read}
use Rattle.text_cells.proofs.read_cell.Goals as goal

pub returns-then-pairs : goal.returns-then-pairs
returns-then-pairs c =
    search (of_sketch, rules)

pub returns-in_err-grey : goal.returns-in_err-grey
returns-in_err-grey c = rw c.from_residual.ensures (no_grey _ _ _ _ c.if-pairs.false c.in_err-grey.ensures)

pub returns : goal.returns
returns c = grey_read _ _ _ _ c.if-pairs.false _ c.in_ok-grey.ensures
