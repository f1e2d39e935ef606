-- `call_list::one_call`: the parts lent come back in front of what was not lent.
use Rattle.call_list.specs.PriceListOfCode.{call_made, record_made, record_given}
use Rattle.call_list.proofs.one_call.Goals as goal

pub returns-in-Ok : goal.returns-in-Ok
returns-in-Ok c =
    let a = c.args in
    call_made a.progress a.call _ _ _ c.min-p.ensures c.min-s.ensures c.min-o.ensures _ c.in-Ok.ensures
    (record_made a.progress c.in-Ok.answer)

pub returns-in-Err : goal.returns-in-Err
returns-in-Err c =
    let a = c.args in
    call_made a.progress a.call _ _ _ c.min-p.ensures c.min-s.ensures c.min-o.ensures _ c.in-Err.ensures
    (record_given a.progress c.in-Err.field-0)
