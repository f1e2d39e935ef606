-- `sizes::level_start`: 4 to the power of k as a shift of 1.
use borrow.Author.Rules.{rules}
use Rattle.sizes.specs.Shifts.{shifted_start}
use Rattle.sizes.proofs.level_start.Goals as goal

pub returns : goal.returns
returns c =
    search (shifted_start, rules)
