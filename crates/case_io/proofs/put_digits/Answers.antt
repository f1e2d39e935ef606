-- `case_io::put_digits`: a 64-bit number has at most 20 digits, and the buffer keeps its length.
use Rattle.std.proofs.Common.{arith}
use Rattle.decimals.specs.Writing.{number_end, wrote_length}
use Rattle.case_io.proofs.put_digits.Goals as goal

pub returns : goal.returns
returns c =
    let wrote = c.put_number.ensures in
    omega (arith, wrote_length wrote, number_end _ c.ranges.n.fits wrote)
