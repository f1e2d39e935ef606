use Rattle.std.proofs.Common.{◌∙◌, arith}
use Rattle.decimals.specs.Reading.{is_next_digit_lem, digits_out, digits_end, digits_other, digits_more}
use Rattle.decimals.proofs.read_digits.Goals as goal

pub returns-then-b-end : goal.returns-then-b-end
returns-then-b-end c =
    digits_end _ _ _ _ _ c.loop-at-test.true c.if-b-end.true ∙ c.loop-at.invariant

pub returns-then-not-is_next_digit : goal.returns-then-not-is_next_digit
returns-then-not-is_next_digit c =
    digits_other _ _ _ _ _ c.loop-at-test.true c.if-b-end.false c.is_next_digit.ensures
    c.if-not-is_next_digit.true ∙ c.loop-at.invariant

pub overflow_mul-value : goal.overflow_mul-value
overflow_mul-value c =
    omega (arith, is_next_digit_lem _ _ _ c.is_next_digit.ensures c.if-not-is_next_digit.false)

pub overflow_sub-b : goal.overflow_sub-b
overflow_sub-b c =
    omega (arith, is_next_digit_lem _ _ _ c.is_next_digit.ensures c.if-not-is_next_digit.false)

pub overflow_add-value : goal.overflow_add-value
overflow_add-value c =
    omega (arith, c.from.ensures, is_next_digit_lem _ _ _ c.is_next_digit.ensures c.if-not-is_next_digit.false)

pub loop-at-preserved : goal.loop-at-preserved
loop-at-preserved c =
    rw c.from.ensures (digits_more _ _ _ _ _ c.loop-at-test.true c.if-b-end.false c.is_next_digit.ensures
    c.if-not-is_next_digit.false ∙ c.loop-at.invariant)

pub returns : goal.returns
returns c =
    digits_out _ _ _ _ _ c.loop-at-test.false ∙ c.loop-at.invariant
