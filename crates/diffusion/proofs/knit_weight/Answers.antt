-- `diffusion::knit_weight`: the cell itself; a neighbour on ribbed cloth; one on plain cloth.
use borrow.Author.Rules.{rules}
use Rattle.diffusion.specs.Weights.{weight_own, weight_plain, weight_ribbed}
use Rattle.diffusion.proofs.knit_weight.Goals as goal

pub returns-then-p-eq4 : goal.returns-then-p-eq4
returns-then-p-eq4 c =
    search (weight_own, rules)

pub returns-then-knit-ne0 : goal.returns-then-knit-ne0
returns-then-knit-ne0 c =
    search (weight_ribbed, rules)

pub returns : goal.returns
returns c =
    search (weight_plain, rules)
