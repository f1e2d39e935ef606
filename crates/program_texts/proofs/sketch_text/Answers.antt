-- `program_texts::sketch_text`.
use Rattle.decimals.specs.Printed.{printed_text}
use Rattle.program_texts.proofs.sketch_text.Goals as goal

pub returns : goal.returns
returns c =
    printed_text (c.put_answer-length.ensures _ _ c.put_sketch-answer.ensures)
