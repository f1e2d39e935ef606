-- `renewal::is_small`.
use borrow.Author.Rules.{rules}
use Rattle.renewal.specs.Lent.{too_low, not_low}
use Rattle.renewal.proofs.is_small.Goals as goal

pub returns-then-entry-ge-LEAST : goal.returns-then-entry-ge-LEAST
returns-then-entry-ge-LEAST c =
    search (not_low, rules)

pub returns-else-entry-ge-LEAST : goal.returns-else-entry-ge-LEAST
returns-else-entry-ge-LEAST c =
    search (too_low, rules)
