-- `checkpoints::check_last`.
use native.Mathlib.Omega.{arith}
use Rattle.std.proofs.lemmas.Bool.Decides.{nat_tests}
use Rattle.definition.specs.Answers.{number_of}
use Rattle.definition.specs.Refusals.{lowest}
use Rattle.checks.specs.Checks.{checked}
use Rattle.checkpoints.proofs.check_last.Goals as goal

pub returns-then-not-sound : goal.returns-then-not-sound
unfolding checked number_of lowest
returns-then-not-sound c =
    grind (arith, nat_tests)

pub returns-then-not-low : goal.returns-then-not-low
unfolding checked number_of lowest
returns-then-not-low c =
    grind (arith, nat_tests)

pub returns-then-not-known : goal.returns-then-not-known
unfolding checked number_of lowest
returns-then-not-known c =
    grind (arith, nat_tests)

pub returns : goal.returns
unfolding checked number_of lowest
returns c =
    grind (arith, nat_tests)
