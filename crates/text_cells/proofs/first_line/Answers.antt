-- `text_cells::first_line`: what the line and the check say, told apart.
use borrow.Author.Rules.{rules}
use Rattle.refusals.specs.Powers.{power_small}
use Rattle.checks.specs.Checks.{gives_back}
use Rattle.text_cells.specs.FirstLine.{no_line, side_refused, side_good}
use Rattle.text_cells.proofs.first_line.Goals as goal

pub returns-in_err-line : goal.returns-in_err-line
returns-in_err-line c =
    rw (gives_back _ _ c.from_residual.ensures.1)
    (no_line _ _ c.read_number.ensures c.in_err-line.ensures.ok_part c.in_err-line.ensures.value)

pub check_greys-requires : goal.check_greys-requires
check_greys-requires c =
    search (power_small, rules)

pub returns-in_err-check_greys : goal.returns-in_err-check_greys
returns-in_err-check_greys c =
    rw (gives_back _ _ c.from_residual-in_err-check_greys.ensures.1)
    (side_refused _ _ _ (rw c.in_ok-line.ensures.ok_part at c.read_number.ensures) c.power_of.ensures _
    c.in_err-check_greys.ensures)

pub returns : goal.returns
returns c =
    side_good _ _ _ (rw c.in_ok-line.ensures.ok_part at c.read_number.ensures) c.power_of.ensures
    c.in_ok-check_greys.ensures
