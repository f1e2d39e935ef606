-- `stage_list::restore_lent`: the parts lent come back in front of what was not lent.
use Rattle.stage_list.specs.OneItem.{return_made}
use Rattle.stage_list.proofs.restore_lent.Goals as goal

pub returns : goal.returns
returns c =
    let a = c.args in
    return_made a.call a.latest _ _ _ _ c.min-g.ensures c.min-p.ensures c.min-s.ensures c.min-o.ensures
    c.restore.ensures
