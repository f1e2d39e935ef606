-- `sound::is_sum`.
use borrow.Author.Rules.{rules}
use Rattle.sound.specs.Sums.{sum_told}
use Rattle.sound.proofs.is_sum.Goals as goal

pub returns : goal.returns
returns c =
    search (sum_told, rules)
