-- `two_heads_text::two_heads_text`.
use Rattle.decimals.specs.Printed.{printed_text}
use Rattle.two_heads_text.proofs.two_heads_text.Goals as goal

pub returns : goal.returns
returns c =
    printed_text (c.put_answer-length.ensures _ _ c.put_text-answer.ensures)
