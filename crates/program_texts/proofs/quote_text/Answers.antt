-- `program_texts::quote_text`.
use Rattle.decimals.specs.Printed.{printed_text}
use Rattle.program_texts.proofs.quote_text.Goals as goal

pub returns : goal.returns
returns c =
    printed_text (c.put_answer-length.ensures _ _ c.put_quote-answer.ensures)
