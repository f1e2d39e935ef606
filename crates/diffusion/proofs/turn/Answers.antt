-- `diffusion::turn`: the digits are the definition's places.
use borrow.Author.Rules.{rules}
use Rattle.diffusion.specs.Weights.{turn_is}
use Rattle.diffusion.proofs.turn.Goals as goal

pub returns : goal.returns
returns c =
    search (turn_is, rules)
