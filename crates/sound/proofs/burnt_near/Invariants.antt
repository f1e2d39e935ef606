-- `sound::burnt_near`: the loop adds up the sum of the definition.
use Rattle.std.proofs.Common.{◌*◌}
use Rattle.definition.specs.Lists.{sum_to}
use Rattle.integers.specs.Totals.{Total}
use Rattle.sound.specs.OnePlace.{near_at}
use Rattle.sound.proofs.burnt_near.Given as goal

abbrev pub invariant-loop-p : goal.invariant-loop-p
invariant-loop-p l = Total (sum_to l.p (near_at l.side l.serials l.row l.column)) (l.p * 1) l.sum
