-- `stage_list::run_stages`: what the calls leave after Load, and the promise of names of it.
use Rattle.stage_list.specs.ManyItems.{acted_on}
use Rattle.stage_list.proofs.run_stages.Goals as goal

pub returns : goal.returns
returns c =
    acted_on _ _ _ _ _ _ c.record_of-progress.ensures _ _ _ c.load.ensures c.no_names-checkpoints.ensures
    c.make_actions.ensures
