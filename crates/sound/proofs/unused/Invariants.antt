-- `sound::unused`: the loop tests place after place.
use Rattle.sound.specs.OnePlace.{free_at}
use Rattle.integers.specs.Loops.{Held}
use Rattle.sound.proofs.unused.Given as goal

abbrev pub invariant-loop-i : goal.invariant-loop-i
invariant-loop-i l = Held (free_at l.dots l.order) l.cells l.i
