-- `sound::summed`: level after level, from the finest on.
use Rattle.sound.specs.Upward.{Upward}
use Rattle.sound.proofs.summed.Given as goal

abbrev pub invariant-loop-k : goal.invariant-loop-k
invariant-loop-k l = Upward l.rows l.pyramid l.r l.k
