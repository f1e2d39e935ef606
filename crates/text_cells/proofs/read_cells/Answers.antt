use Rattle.std.proofs.Common.{refl}
use Rattle.text_cells.specs.Cells.{left_less, low_fits, high_fits}
use Rattle.text_cells.proofs.read_cells.Goals as goal

pub overflow_cast-cell : goal.overflow_cast-cell
overflow_cast-cell c = low_fits c.requires _ _ _ _ _ c.in_ok-cell.ensures

pub overflow_cast-cell-in-loop-i : goal.overflow_cast-cell-in-loop-i
overflow_cast-cell-in-loop-i c = high_fits c.requires _ _ _ _ _ c.in_ok-cell.ensures

pub loop-i-preserved : goal.loop-i-preserved
loop-i-preserved c =
    left_less c.requires.some_side c.loop-i.invariant c.loop-i-test.true c.end_at.ensures c.in_ok-cell.ensures
    c.put_byte.ensures c.put_byte-in-loop-i.ensures refl
