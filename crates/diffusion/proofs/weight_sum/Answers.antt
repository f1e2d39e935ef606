use borrow.Author.Rules.{rules}
use Rattle.diffusion.specs.Weights.{sum_none, sum_more, sum_fits}
use Rattle.diffusion.proofs.weight_sum.Goals as goal

pub overflow_add-sum : goal.overflow_add-sum
overflow_add-sum c =
    search (sum_fits, rules)

pub loop-n-init : goal.loop-n-init
loop-n-init c =
    search (sum_none, rules)

pub loop-n-preserved : goal.loop-n-preserved
loop-n-preserved c =
    search (sum_more, rules)
