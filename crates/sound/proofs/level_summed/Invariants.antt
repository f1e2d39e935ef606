-- `sound::level_summed`: the loop tests place after place.
use Rattle.sound.specs.OnePlace.{sum_at}
use Rattle.integers.specs.Loops.{Held}
use Rattle.sound.proofs.level_summed.Given as goal

abbrev pub invariant-loop-i : goal.invariant-loop-i
invariant-loop-i l = Held (sum_at l.rows l.pyramid l.off l.next l.side) l.size l.i
