-- `program_texts::convert_text`.
use Rattle.decimals.specs.Printed.{printed_text, printed_in_lem}
use Rattle.program_texts.proofs.convert_text.Goals as goal

pub returns : goal.returns
returns c =
    printed_text (c.put_answer-length.ensures _ _ c.put_converted-answer.ensures)

pub invariant_of-result : goal.invariant_of-result
invariant_of-result c =
    record { fits = printed_in_lem (c.put_answer-length.ensures _ _ c.put_converted-answer.ensures) }
