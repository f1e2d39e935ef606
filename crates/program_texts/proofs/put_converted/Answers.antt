-- `program_texts::put_converted`.
use Rattle.std.proofs.Common.{arith}
use borrow.Author.Rules.{rules}
use Rattle.program_texts.specs.Converting.{convert_answered}
use Rattle.program_texts.proofs.put_converted.Goals as goal

pub returns : goal.returns
returns c =
    convert_answered _ _ _ (search rules) (omega arith) _ c.lower_text.ensures
