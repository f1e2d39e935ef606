-- `laser::check_side`: the rows in turn.
use borrow.Author.Rules.{rules}
use Rattle.laser.specs.WaysOut.{side_fails, small_fails, knit_fails, none_fails}
use Rattle.laser.proofs.check_side.Goals as goal

pub returns-then-r-eq0 : goal.returns-then-r-eq0
returns-then-r-eq0 c =
    search (side_fails, rules)

pub returns-then-side-lt16 : goal.returns-then-side-lt16
returns-then-side-lt16 c =
    search (small_fails, rules)

pub returns-then-knit-gt1 : goal.returns-then-knit-gt1
returns-then-knit-gt1 c =
    search (knit_fails, rules)

pub returns : goal.returns
returns c =
    search (none_fails, rules)
