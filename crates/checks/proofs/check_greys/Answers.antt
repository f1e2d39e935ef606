-- `checks::check_greys`: each row that does not apply is passed over; the first that does gives its number.
use borrow.Author.Rules.{rules}
use borrow.Author.Tests.{eq-eqb, ne_eqb}
use Rattle.definition.specs.Answers.{number_of}
use Rattle.definition.specs.Refusals.{lowest, greys_refusal}
use Rattle.checks.specs.Checks.{checked, short, enough}
use Rattle.checks.proofs.check_greys.Goals as goal

pub cell_count-cells-requires : goal.cell_count-cells-requires
unfolding checked number_of lowest greys_refusal
cell_count-cells-requires c =
    search rules

pub returns-then-r-eq0 : goal.returns-then-r-eq0
unfolding checked number_of lowest greys_refusal
returns-then-r-eq0 c =
    search (eq-eqb, rules)

pub returns-then-lent-cells : goal.returns-then-lent-cells
unfolding checked number_of lowest greys_refusal
returns-then-lent-cells c =
    search (ne_eqb, short c.cell_count-cells.ensures c.if-lent-cells.true, rules)

pub returns : goal.returns
unfolding checked number_of lowest greys_refusal
returns c =
    search (ne_eqb, enough c.cell_count-cells.ensures c.if-lent-cells.false, rules)
