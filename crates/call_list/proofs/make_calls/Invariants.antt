-- `call_list::make_calls`: after so many turns the caller holds what so many calls leave.
use Rattle.call_list.specs.PriceListOfCode.{Called}
use Rattle.call_list.proofs.make_calls.Given as goal

abbrev pub invariant-loop-call : goal.invariant-loop-call
invariant-loop-call l =
    Called
    (record {
      progress = l.initial.progress;
      pyramid = l.initial.pyramid;
      serials = l.initial.serials;
      order = l.initial.order;
    })
    l.calls (record { progress = l.progress; pyramid = l.pyramid; serials = l.serials; order = l.order }) l.call-index
