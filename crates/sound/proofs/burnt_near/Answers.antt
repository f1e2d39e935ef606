use Rattle.integers.specs.Totals.{none, turn}
use Rattle.sound.proofs.burnt_near.Goals as goal

pub loop-p-init : goal.loop-p-init
loop-p-init c = none _ 1

pub loop-p-preserved : goal.loop-p-preserved
loop-p-preserved c = turn _ _ 1 c.loop-p.invariant c.near_mark-sum.ensures
