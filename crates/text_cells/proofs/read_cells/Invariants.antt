-- `text_cells::read_cells`: what is left to read, from cell i on.
use Rattle.text_cells.specs.Cells.{CellsLeft}
use Rattle.text_cells.proofs.read_cells.Given as goal

abbrev pub invariant-loop-i : goal.invariant-loop-i
invariant-loop-i l = CellsLeft l.text l.from l.side l.pairs l.most l.initial.lows l.initial.highs l.at l.i l.lows
    l.highs l.rise
