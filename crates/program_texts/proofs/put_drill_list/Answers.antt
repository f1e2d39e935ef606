-- `program_texts::put_drill_list`.
use Rattle.program_texts.specs.Listing.{finished_listed}
use Rattle.program_texts.proofs.put_drill_list.Goals as goal

pub returns-in_err-progress : goal.returns-in_err-progress
returns-in_err-progress c =
    absurd c.in_err-progress.ensures

pub returns : goal.returns
returns c =
    finished_listed _ _ c.requires.0 _ _ _ _ c.requires.1 c.in_ok-progress.ensures _ c.drill_list.ensures
