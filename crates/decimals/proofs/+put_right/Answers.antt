use Rattle.std.proofs.Common.{arith}
use Rattle.decimals.specs.Writing.{one_digit, more_digits, right_end}
use Rattle.decimals.proofs.+put_right.Goals as goal

pub returns-then-n-lt10 : goal.returns-then-n-lt10
returns-then-n-lt10 t c =
    one_digit _ _ c.saturating_sub-before.ensures c.if-n-lt10.true c.put_spaces-digit.ensures c.put_byte.ensures

pub put_byte-requires-2 : goal.put_byte-requires-2
put_byte-requires-2 t c =
    omega (arith, right_end _ (omega arith) _ c.put_right-last.ensures, c.saturating_sub-before.ensures, c.requires)

pub returns : goal.returns
returns t c =
    more_digits _ _ c.saturating_sub-before.ensures c.if-n-lt10.false c.put_right-last.ensures c.put_byte-2.ensures
