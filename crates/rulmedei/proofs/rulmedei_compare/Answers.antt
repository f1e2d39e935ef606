-- `rulmedei::rulmedei_compare`: the call's promise, case by case.
use Rattle.std.specs.Prelude.{refl}
use Rattle.definition.specs.Answers.{stands, compare_says}
use Rattle.rulmedei.specs.Codes.{compared_code, code_of, cell_of}
use Rattle.rulmedei.specs.FromCalls.{compare_coded, compare_refused}
use Rattle.rulmedei.proofs.rulmedei_compare.Goals as goal

pub returns-in-Ok-Before : goal.returns-in-Ok-Before
unfolding compared_code code_of cell_of stands compare_says
returns-in-Ok-Before c =
    compare_coded c.in-Ok-Before.field-0 c.in-Ok-Before.ensures c.in-Ok-Before.field-0-is refl refl refl

pub returns-in-Ok-BeforeAt : goal.returns-in-Ok-BeforeAt
unfolding compared_code code_of cell_of stands compare_says
returns-in-Ok-BeforeAt c =
    compare_coded c.in-Ok-BeforeAt.field-0 c.in-Ok-BeforeAt.ensures c.in-Ok-BeforeAt.field-0-is refl refl refl

pub returns-in-Ok-Same : goal.returns-in-Ok-Same
unfolding compared_code code_of cell_of stands compare_says
returns-in-Ok-Same c =
    compare_coded c.in-Ok-Same.field-0 c.in-Ok-Same.ensures c.in-Ok-Same.field-0-is refl refl refl

pub returns-in-Ok-AfterAt : goal.returns-in-Ok-AfterAt
unfolding compared_code code_of cell_of stands compare_says
returns-in-Ok-AfterAt c =
    compare_coded c.in-Ok-AfterAt.field-0 c.in-Ok-AfterAt.ensures c.in-Ok-AfterAt.field-0-is refl refl refl

pub returns-in-Ok-After : goal.returns-in-Ok-After
unfolding compared_code code_of cell_of stands compare_says
returns-in-Ok-After c =
    compare_coded c.in-Ok-After.field-0 c.in-Ok-After.ensures c.in-Ok-After.field-0-is refl refl refl

pub returns-in-Err : goal.returns-in-Err
returns-in-Err c =
    compare_refused c.in-Err.why c.in-Err.ensures c.number_of.ensures
