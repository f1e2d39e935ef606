-- `sheet::check_lengths`: each row that does not apply is passed over; the first that does gives its number.
use native.Mathlib.Omega.{arith}
use borrow.Author.Rules.{rules}
use Rattle.std.proofs.lemmas.Bool.Decides.{nat_tests}
use Rattle.definition.specs.Answers.{number_of}
use Rattle.definition.specs.Refusals.{lowest}
use Rattle.definition.specs.Advance.{advance_refusal}
use Rattle.checks.specs.Checks.{checked}
use Rattle.sheet.proofs.check_lengths.Goals as goal

pub cell_count-cells-requires : goal.cell_count-cells-requires
unfolding checked number_of lowest advance_refusal
cell_count-cells-requires c =
    search rules

pub needed-needed-requires : goal.needed-needed-requires
unfolding checked number_of lowest advance_refusal
needed-needed-requires c =
    search rules

pub returns-then-r-eq0 : goal.returns-then-r-eq0
unfolding checked number_of lowest advance_refusal
returns-then-r-eq0 c =
    grind (arith, nat_tests)

pub returns-then-knit-gt1 : goal.returns-then-knit-gt1
unfolding checked number_of lowest advance_refusal
returns-then-knit-gt1 c =
    grind (arith, nat_tests)

pub returns-then-pyramid-needed : goal.returns-then-pyramid-needed
unfolding checked number_of lowest advance_refusal
returns-then-pyramid-needed c =
    grind (arith, nat_tests)

pub returns-then-serials-cells : goal.returns-then-serials-cells
unfolding checked number_of lowest advance_refusal
returns-then-serials-cells c =
    grind (arith, nat_tests)

pub returns-then-order-cells : goal.returns-then-order-cells
unfolding checked number_of lowest advance_refusal
returns-then-order-cells c =
    grind (arith, nat_tests)

pub returns : goal.returns
unfolding checked number_of lowest advance_refusal
returns c =
    grind (arith, nat_tests)
