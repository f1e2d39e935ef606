-- `program_texts::put_cap`: three columns.
use native.Mathlib.Omega.{arith}
use borrow.Author.Rules.{rules}
use Rattle.program_texts.specs.Sketching.{cap_wrote}
use Rattle.program_texts.proofs.put_cap.Goals as goal

pub returns : goal.returns
returns c =
    (search (cap_wrote, rules), omega arith)
