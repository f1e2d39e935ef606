use borrow.Author.Rules.{rules}
use Rattle.shelf.specs.Sorting.{sort_start, sort_next}
use Rattle.shelf.proofs.sort.Goals as goal

pub loop-i-init : goal.loop-i-init
loop-i-init c =
    search (sort_start, rules)

pub loop-i-preserved : goal.loop-i-preserved
loop-i-preserved c =
    search (sort_next, rules)
