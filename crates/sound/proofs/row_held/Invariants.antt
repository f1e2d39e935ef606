-- `sound::row_held`: the loop tests cell after cell.
use Rattle.sound.specs.OnePlace.{held_in}
use Rattle.integers.specs.Loops.{Held}
use Rattle.sound.proofs.row_held.Given as goal

abbrev pub invariant-loop-column : goal.invariant-loop-column
invariant-loop-column l = Held (held_in l.side l.first l.columns l.pyramid l.serials l.row) l.side l.column
