-- `program_texts::put_plate`.
use Rattle.std.proofs.Common.{refl, arith}
use borrow.Author.Rules.{rules}
use Rattle.checks.specs.Checks.{gives_back}
use Rattle.program_texts.specs.Promised.{refused_answered, answered_as}
use Rattle.program_texts.specs.Outputs.{long_text, refused_plate, side_asked, side_plate}
use Rattle.program_texts.proofs.put_plate.Goals as goal

pub returns-then-input-gt4099 : goal.returns-then-input-gt4099
returns-then-input-gt4099 c =
    refused_answered _ refl (long_text _ (omega arith))

pub returns-in_err-side : goal.returns-in_err-side
returns-in_err-side c =
    refused_answered _ (gives_back _ _ c.from_residual.ensures.1)
    (refused_plate _ _ (search rules) _ c.in_err-side.ensures (omega arith))

pub put_drill_list-requires : goal.put_drill_list-requires
put_drill_list-requires c =
    (side_asked _ _ (search rules) _ c.in_ok-side.ensures, search rules)

pub returns : goal.returns
returns c =
    answered_as _ _ _ (side_plate _ _ (search rules) _ c.in_ok-side.ensures (omega arith)) c.put_drill_list.ensures
