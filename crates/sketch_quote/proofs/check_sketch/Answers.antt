-- `sketch_quote::check_sketch`: where the numbers are all there, the tests behind them.
use Rattle.std.proofs.Common.{arith}
use Rattle.std.proofs.lemmas.Bool.Decides.{nat_tests}
use Rattle.definition.specs.Answers.{number_of}
use Rattle.definition.specs.Refusals.{lowest}
use Rattle.checks.specs.Checks.{checked}
use Rattle.sketch_quote.specs.Checks.{refusal_there}
use Rattle.sketch_quote.proofs.check_sketch.Goals as goal

pub returns-then-not-rise : goal.returns-then-not-rise
unfolding checked number_of lowest
returns-then-not-rise c =
    rw (refusal_there _ _ _ c.requires.0.some_side _ _ _ _ c.in-Some.ensures) (grind (arith, nat_tests))

pub returns-then-r-k : goal.returns-then-r-k
unfolding checked number_of lowest
returns-then-r-k c =
    rw (refusal_there _ _ _ c.requires.0.some_side _ _ _ _ c.in-Some.ensures) (grind (arith, nat_tests))

pub returns-then-caps-squares : goal.returns-then-caps-squares
unfolding checked number_of lowest
returns-then-caps-squares c =
    rw (refusal_there _ _ _ c.requires.0.some_side _ _ _ _ c.in-Some.ensures) (grind (arith, nat_tests))

pub returns : goal.returns
unfolding checked number_of lowest
returns c =
    rw (refusal_there _ _ _ c.requires.0.some_side _ _ _ _ c.in-Some.ensures) (grind (arith, nat_tests))
