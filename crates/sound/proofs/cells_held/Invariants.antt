-- `sound::cells_held`: the loop tests row after row.
use Rattle.sound.specs.OnePlace.{held_row}
use Rattle.integers.specs.Loops.{Held}
use Rattle.sound.proofs.cells_held.Given as goal

abbrev pub invariant-loop-row : goal.invariant-loop-row
invariant-loop-row l = Held (held_row l.rows l.side l.off l.columns l.pyramid l.serials) l.side l.row
