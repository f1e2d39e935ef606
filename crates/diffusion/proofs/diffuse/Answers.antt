use borrow.Author.Rules.{rules}
use Rattle.diffusion.specs.Weights.{sum_next, sum_fits, sum_some}
use Rattle.diffusion.specs.Turns.{turns_none, turn_asked, turn}
use Rattle.diffusion.proofs.diffuse.Goals as goal

pub loop-n-init : goal.loop-n-init
loop-n-init c =
    search (turns_none, rules)

pub overflow_add-sum : goal.overflow_add-sum
overflow_add-sum c =
    search (sum_fits, rules)

pub part-until-requires : goal.part-until-requires
part-until-requires c =
    (search rules, search (sum_next, rules), search (sum_some, rules))

pub loop-n-preserved : goal.loop-n-preserved
loop-n-preserved c =
    search (turn, rules)

pub take_share-requires : goal.take_share-requires
take_share-requires c =
    search (turn_asked, rules)
