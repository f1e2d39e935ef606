-- `diffusion::weight`: off the map on one of four sides, or on it.
use borrow.Author.Rules.{rules}
use Rattle.diffusion.specs.Weights.{turn_nine, weight_above, weight_below, weight_left, weight_right, weight_on}
use Rattle.diffusion.proofs.weight.Goals as goal
use Rattle.diffusion.proofs.weight.Goals.{then-x-eq0-via-then-x-eq0, then-x-eq0-via-else-x-eq0+then-side-x}
use Rattle.diffusion.proofs.weight.Goals.{then-x-eq0-via-else-x-eq0+else-side-x+then-y-eq0}
use Rattle.diffusion.proofs.weight.Goals.{then-x-eq0-via-else-x-eq0+else-side-x+else-y-eq0+then-side-y}

pub knit_weight-requires : goal.knit_weight-requires
knit_weight-requires c =
    search (turn_nine, rules)

pub returns : goal.returns
returns c =
    search (weight_on, rules)

pub returns-then-x-eq0 : goal.returns-then-x-eq0
returns-then-x-eq0 c =
    elim c.then-x-eq0.branch [
      | then-x-eq0-via-then-x-eq0 w ↦ search (weight_above, rules)
      | then-x-eq0-via-else-x-eq0+then-side-x w ↦ search (weight_below, rules)
      | then-x-eq0-via-else-x-eq0+else-side-x+then-y-eq0 w ↦ search (weight_left, rules)
      | then-x-eq0-via-else-x-eq0+else-side-x+else-y-eq0+then-side-y w ↦ search (weight_right, rules)
    ]
