use Rattle.std.proofs.Common.{◌∙◌}
use Rattle.decimals.specs.Reading.{field_out, field_other, field_digit}
use Rattle.decimals.proofs.read_number.Goals as goal

pub returns-in_err-b : goal.returns-in_err-b
returns-in_err-b c = rw c.from_residual.ensures (field_out _ _ _ _ c.in_err-b.ensures.lookup.0)

pub returns-then-not-is_ascii_digit : goal.returns-then-not-is_ascii_digit
returns-then-not-is_ascii_digit c =
    field_other _ _ _ _ c.in_ok-b.ensures.lookup.0 c.in_ok-b.ensures.lookup.1 c.is_ascii_digit.ensures.value
    c.if-not-is_ascii_digit.true

pub returns : goal.returns
returns c =
    rw c.from.ensures at c.read_digits.ensures
    ∙ field_digit _ _ _ _ c.in_ok-b.ensures.lookup.0 c.in_ok-b.ensures.lookup.1 c.is_ascii_digit.ensures.value
    c.if-not-is_ascii_digit.false
