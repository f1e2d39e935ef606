-- `program_texts::put_answer`.
use Rattle.program_texts.specs.Promised.{text_printed, line_printed}
use Rattle.program_texts.proofs.put_answer.Goals as goal

pub returns-in-Ok : goal.returns-in-Ok
returns-in-Ok c =
    λ text before a. text_printed (rw c.in-Ok.is at a)

pub returns-in-Err : goal.returns-in-Err
returns-in-Err c =
    λ text before a. line_printed _ (rw c.in-Err.is at a) (rw c.number_of.ensures at c.put_refused.ensures)
