use borrow.Author.Rules.{rules}
use Rattle.diffusion.specs.Weights.{turn_nine, sum_next, sum_fits, sum_some}
use Rattle.diffusion.specs.Turns.{turns_none}
use Rattle.diffusion.specs.Inside.{weight_inside, inside_fits, inside_asked, inside_turn}
use Rattle.diffusion.proofs.spread.Goals as goal

pub loop-n-init : goal.loop-n-init
loop-n-init c =
    search (turns_none, rules)

pub knit_weight-sum-requires : goal.knit_weight-sum-requires
knit_weight-sum-requires c =
    search (turn_nine, rules)

pub overflow_add-sum : goal.overflow_add-sum
overflow_add-sum c =
    search (sum_fits, weight_inside, rules)

pub part-up_to-requires : goal.part-up_to-requires
part-up_to-requires c =
    (search rules, search (sum_next, weight_inside, rules), search (sum_some, rules))

pub overflow_add-row_at : goal.overflow_add-row_at
overflow_add-row_at c =
    search (inside_fits, rules)

pub take-requires : goal.take-requires
take-requires c =
    search (inside_asked, rules)

pub loop-n-preserved : goal.loop-n-preserved
loop-n-preserved c =
    search (inside_turn, rules)
