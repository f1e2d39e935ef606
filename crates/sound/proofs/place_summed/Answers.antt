-- `sound::place_summed`: as row after row, or the four side by side.
use borrow.Author.Rules.{rules}
use Rattle.sound.specs.Sums.{quarter_asked, sum_by_rows, sum_by_quarters}
use Rattle.sound.proofs.place_summed.Goals as goal

pub returns-then-rows : goal.returns-then-rows
returns-then-rows c =
    search (sum_by_rows, rules)

pub is_sum-requires : goal.is_sum-requires
is_sum-requires c =
    search (quarter_asked, rules)

pub returns-else-rows : goal.returns-else-rows
returns-else-rows c =
    search (sum_by_quarters, rules)
