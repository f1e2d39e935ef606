use Rattle.std.proofs.Common.{◌*◌}
use Rattle.integers.specs.Totals.{none, turn}
use Rattle.blocks.specs.Squares.{square_row}
use Rattle.blocks.proofs.square_weight.Goals as goal

pub loop-x-init : goal.loop-x-init
loop-x-init g c = none _ (256 * g.T.Weighed.most)

pub row_weight-sum-requires : goal.row_weight-sum-requires
row_weight-sum-requires g c = (square_row c.requires c.loop-x-test.true).asked

pub loop-x-preserved : goal.loop-x-preserved
loop-x-preserved g c = turn _ _ (256 * g.T.Weighed.most) c.loop-x.invariant c.row_weight-sum.ensures
