-- `program_texts::put_quote`.
use Rattle.checks.specs.Checks.{gives_back}
use Rattle.program_texts.specs.Promised.{refused_answered, answered_as}
use Rattle.program_texts.specs.FirstLine.{no_level, level_read}
use Rattle.program_texts.proofs.put_quote.Goals as goal

pub returns-in_err-level : goal.returns-in_err-level
returns-in_err-level c =
    refused_answered _ (gives_back _ _ c.from_residual.ensures.1)
    (no_level _ _ c.read_number.ensures c.in_err-level.ensures.ok_part c.in_err-level.ensures.value)

pub returns : goal.returns
returns c =
    answered_as _ _ _ (level_read _ _ _ (rw c.in_ok-level.ensures.ok_part at c.read_number.ensures) c.min-from.ensures)
    c.put_quote_of_text.ensures
