use Rattle.std.proofs.Common.{arith}
use Rattle.sample_map.specs.Filled.{sampled_none, sampled_more}
use Rattle.sample_map.proofs.fill_greys.Goals as goal

pub loop-grey-init : goal.loop-grey-init
loop-grey-init c = sampled_none _ _

pub loop-grey-preserved : goal.loop-grey-preserved
loop-grey-preserved c =
    sampled_more c.loop-grey.invariant (omega arith) c.next_state-next.ensures c.grey_of.ensures
