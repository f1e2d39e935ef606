-- `sound::row_summed`: the four entries lie in the next level.
use borrow.Author.Rules.{rules}
use Rattle.sound.specs.Sums.{sum_asked}
use Rattle.sound.proofs.row_summed.Goals as goal

pub is_sum-requires : goal.is_sum-requires
is_sum-requires c =
    search (sum_asked, rules)
