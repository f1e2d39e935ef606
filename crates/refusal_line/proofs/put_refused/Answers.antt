-- `refusal_line::put_refused`.
use Rattle.std.proofs.Common.{arith}
use Rattle.refusal_line.specs.Line.{line_printed}
use Rattle.refusal_line.proofs.put_refused.Goals as goal

pub returns : goal.returns
returns c =
    line_printed _ (omega arith) _ c.requires
    (rw (c.copy_from_slice.ensures.after, c.from.ensures) at c.put_field.ensures)
