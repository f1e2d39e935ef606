-- `program_texts::put_totals`: two columns.
use native.Mathlib.Omega.{arith}
use borrow.Author.Rules.{rules}
use Rattle.program_texts.specs.Sketching.{totals_wrote}
use Rattle.program_texts.proofs.put_totals.Goals as goal

pub returns : goal.returns
returns c =
    (search (totals_wrote, rules), omega arith)
