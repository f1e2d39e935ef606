-- `stage_list::one_action`, by cases.
use Rattle.stage_list.specs.OneItem.{went_back, wrote_down, went_on}
use Rattle.stage_list.proofs.one_action.Goals as goal

pub returns-in-Advance : goal.returns-in-Advance
returns-in-Advance c = rw c.in-Advance.is (went_on c.args.latest _ _ _ _ _ c.one_call-after.ensures)

pub returns-in-Keep : goal.returns-in-Keep
returns-in-Keep c =
    rw (c.in-Keep.is, c.unwrap_or-with.ensures) (wrote_down c.args.latest _ _ _ _ _ _ c.keep.ensures)

pub returns-in-Restore : goal.returns-in-Restore
returns-in-Restore c =
    rw (c.in-Restore.is, c.unwrap_or.ensures)
    (went_back c.args.latest _ _ _ _ _ _ c.restore_lent-restored.ensures)
