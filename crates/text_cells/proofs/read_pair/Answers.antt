-- `text_cells::read_pair`: the low, then the high.
use Rattle.text_cells.specs.Cell.{no_low, no_high, pair_read}
use Rattle.text_cells.proofs.read_pair.Goals as goal

pub returns-in_err-low : goal.returns-in_err-low
returns-in_err-low c = rw c.from_residual.ensures (no_low _ _ _ _ c.in_err-low.ensures)

pub returns-in_err-high : goal.returns-in_err-high
returns-in_err-high c =
    rw c.from_residual-in_err-high.ensures (no_high _ _ _ _ _ c.in_ok-low.ensures c.in_err-high.ensures)

pub returns : goal.returns
returns c = pair_read _ _ _ _ _ c.in_ok-low.ensures _ c.in_ok-high.ensures
