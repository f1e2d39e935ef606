-- `program_texts::run_map`.
use Rattle.std.proofs.Common.{arith}
use Rattle.program_texts.specs.Finished.{load_taken, advance_taken, map_finished}
use Rattle.program_texts.proofs.run_map.Goals as goal

pub returns-in_err-start : goal.returns-in_err-start
returns-in_err-start c =
    absurd (load_taken _ _ _ _ _ c.requires _ c.in_err-start.ensures)

pub returns-in_err-end : goal.returns-in_err-end
returns-in_err-end c =
    absurd (advance_taken _ _ _ _ _ c.requires _ c.in_ok-start.ensures _ (omega arith) _ c.in_err-end.ensures)

pub returns : goal.returns
returns c =
    map_finished _ _ _ _ _ c.requires _ c.in_ok-start.ensures _ (omega arith) _ c.in_ok-end.ensures
