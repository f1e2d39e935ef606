use Rattle.call_list.specs.PriceListOfCode.{begins, goes_on}
use Rattle.call_list.proofs.make_calls.Goals as goal

pub loop-call-init : goal.loop-call-init
loop-call-init c = begins _ _

pub loop-call-preserved : goal.loop-call-preserved
loop-call-preserved c =
    goes_on _ _ c.loop-call.invariant c.loop-call-test.true _ c.one_call-progress.ensures
