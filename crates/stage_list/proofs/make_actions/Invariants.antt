-- `stage_list::make_actions`: after so many turns the caller holds what so many calls leave.
use Rattle.stage_list.specs.Items.{caller_of}
use Rattle.stage_list.specs.ManyItems.{Acted}
use Rattle.stage_list.proofs.make_actions.Given as goal

abbrev pub invariant-loop-call : goal.invariant-loop-call
invariant-loop-call l =
    Acted l.greys (caller_of l.initial.latest l.initial.pyramid l.initial.serials l.initial.order) l.calls
    (caller_of l.latest l.pyramid l.serials l.order) l.call-index
