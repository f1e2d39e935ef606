-- `renewal::is_renewable`: each test in turn.
use borrow.Author.Rules.{rules}
use Rattle.refusals.specs.Powers.{power_small}
use Rattle.renewal.specs.Lent.{no_side, too_short, off_row, off_column, then_small}
use Rattle.renewal.proofs.is_renewable.Goals as goal
use Rattle.renewal.proofs.is_renewable.Goals.{then-r-eq0-via-then-r-eq0, then-r-eq0-via-else-r-eq0+then-pyramid-needed}
use Rattle.renewal.proofs.is_renewable.Goals.{then-r-eq0-via-else-r-eq0+else-pyramid-needed+then-side-row}
use Rattle.renewal.proofs.is_renewable.Goals.{
  then-r-eq0-via-else-r-eq0+else-pyramid-needed+else-side-row+then-side-column,
}

pub needed-needed-requires : goal.needed-needed-requires
needed-needed-requires c =
    search (power_small, rules)

pub returns-then-r-eq0 : goal.returns-then-r-eq0
returns-then-r-eq0 c =
    elim c.then-r-eq0.branch [
      | then-r-eq0-via-then-r-eq0 w ↦ search (no_side, rules)
      | then-r-eq0-via-else-r-eq0+then-pyramid-needed w ↦ search (too_short, rules)
      | then-r-eq0-via-else-r-eq0+else-pyramid-needed+then-side-row w ↦ search (off_row, rules)
      | then-r-eq0-via-else-r-eq0+else-pyramid-needed+else-side-row+then-side-column w ↦ search (off_column, rules)
    ]

pub returns : goal.returns
returns c =
    search (then_small, rules)
