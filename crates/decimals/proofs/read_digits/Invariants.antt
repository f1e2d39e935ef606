-- `decimals::read_digits`: what is left to read is what there was to read.
use Rattle.std.proofs.Common.{◌≡◌, drop}
use Rattle.definition.specs.Text.{digits_then}
use Rattle.decimals.proofs.read_digits.Given as goal

abbrev pub invariant-loop-at : goal.invariant-loop-at
invariant-loop-at l = digits_then l.most l.end l.value (drop l.at l.text)
    ≡ digits_then l.most l.end l.first (drop l.from l.text)
