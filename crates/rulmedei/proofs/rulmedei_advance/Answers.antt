-- `rulmedei::rulmedei_advance`: the call's promise, case by case.
use Rattle.std.specs.Prelude.{refl}
use Rattle.definition.specs.Answers.{status_says}
use Rattle.rulmedei.specs.Codes.{code_of}
use Rattle.rulmedei.specs.FromCalls.{advance_coded, advance_refused}
use Rattle.rulmedei.proofs.rulmedei_advance.Goals as goal

pub returns-in-Finished : goal.returns-in-Finished
unfolding code_of status_says
returns-in-Finished c =
    advance_coded _ _ _ _ _ _ _ c.in-Ok.answer c.in-Ok.ensures c.in-Finished.is refl

pub returns-in-More : goal.returns-in-More
unfolding code_of status_says
returns-in-More c =
    advance_coded _ _ _ _ _ _ _ c.in-Ok.answer c.in-Ok.ensures c.in-More.is refl

pub returns-in-Err : goal.returns-in-Err
returns-in-Err c =
    advance_refused _ _ _ _ _ _ _ _ c.in-Err.ensures c.number_of.ensures
