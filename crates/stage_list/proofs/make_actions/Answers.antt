use Rattle.stage_list.specs.ManyItems.{begins, goes_on}
use Rattle.stage_list.proofs.make_actions.Goals as goal

pub loop-call-init : goal.loop-call-init
loop-call-init c = begins _ _ _

pub loop-call-preserved : goal.loop-call-preserved
loop-call-preserved c =
    goes_on _ _ _ c.loop-call.invariant c.loop-call-test.true _ c.one_action-latest.ensures
