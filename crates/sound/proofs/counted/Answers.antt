use Rattle.std.proofs.Common.{rules}
use Rattle.integers.specs.Totals.{none, turn}
use Rattle.sound.specs.Places.{counted_is}
use Rattle.sound.proofs.counted.Goals as goal

pub loop-serial-init : goal.loop-serial-init
loop-serial-init c = none _ 1

pub loop-serial-preserved : goal.loop-serial-preserved
loop-serial-preserved c = turn _ _ 1 c.loop-serial.invariant c.mark-sum.ensures

pub returns : goal.returns
returns c = search (counted_is, rules)
