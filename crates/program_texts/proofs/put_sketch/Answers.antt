-- `program_texts::put_sketch`.
use Rattle.checks.specs.Checks.{gives_back}
use Rattle.program_texts.specs.Promised.{refused_answered, answered_as}
use Rattle.program_texts.specs.FirstLine.{no_level, level_read}
use Rattle.program_texts.proofs.put_sketch.Goals as goal

pub returns-in_err-line : goal.returns-in_err-line
returns-in_err-line c =
    refused_answered _ (gives_back _ _ c.from_residual.ensures.1)
    (no_level _ _ c.read_number.ensures c.in_err-line.ensures.ok_part c.in_err-line.ensures.value)

pub returns : goal.returns
returns c =
    answered_as _ _ _ (level_read _ _ _ (rw c.in_ok-line.ensures.ok_part at c.read_number.ensures) c.min-from.ensures)
    c.put_sketch_of_text.ensures
