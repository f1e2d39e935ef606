-- `survey::add_square`: by the laws on the square of a bounded number.
use native.Mathlib.Omega.{arith}
use Rattle.integers.specs.Totals.{square_cast, square_read}
use Rattle.survey.specs.Errors.{to_add, added_is}
use Rattle.survey.proofs.add_square.Goals as goal

pub overflow_cast-sums : goal.overflow_cast-sums
overflow_cast-sums c =
    square_cast (to_add c.requires) tt

pub overflow_add-sums : goal.overflow_add-sums
overflow_add-sums c =
    omega (arith, (square_read (to_add c.requires) tt).is, c.requires.fits)

pub returns : goal.returns
returns c =
    added_is _ _ (square_read (to_add c.requires) tt).is
