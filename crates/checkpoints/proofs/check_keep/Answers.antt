-- `checkpoints::check_keep`.
use borrow.Author.Rules.{rules}
use borrow.Author.Tests.{eq-eqb}
use Rattle.definition.specs.Answers.{number_of}
use Rattle.definition.specs.Refusals.{lowest}
use Rattle.definition.specs.Checkpoints.{keep_refusal}
use Rattle.checks.specs.Checks.{checked}
use Rattle.checkpoints.specs.Rows.{keep_passed, keep_failed}
use Rattle.checkpoints.proofs.check_keep.Goals as goal

pub returns-then-r-eq0 : goal.returns-then-r-eq0
unfolding checked number_of lowest keep_refusal
returns-then-r-eq0 c =
    simp (eq-eqb _ 0 c.if-r-eq0.true)

pub is_name-requires : goal.is_name-requires
unfolding checked number_of lowest keep_refusal
is_name-requires c =
    search rules

pub returns-then-not-is_name : goal.returns-then-not-is_name
unfolding checked number_of lowest keep_refusal
returns-then-not-is_name c =
    search (keep_failed, rules)

pub returns : goal.returns
unfolding checked number_of lowest keep_refusal
returns c =
    search (keep_passed, rules)
