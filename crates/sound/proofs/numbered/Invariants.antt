-- `sound::numbered`: the loop tests place after place.
use Rattle.sound.specs.OnePlace.{next_at}
use Rattle.integers.specs.Loops.{Held}
use Rattle.sound.proofs.numbered.Given as goal

abbrev pub invariant-loop-i : goal.invariant-loop-i
invariant-loop-i l = Held (next_at l.cells l.serials l.order) l.count l.i
