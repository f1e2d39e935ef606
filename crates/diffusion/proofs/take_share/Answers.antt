-- `diffusion::take_share`: a place with a weight lies on the map, and the table has where.
use borrow.Author.Rules.{rules}
use Rattle.diffusion.specs.Shares.{taken_none, nearby, share_taken_lem}
use Rattle.diffusion.proofs.take_share.Goals as goal

pub returns-then-w-eq0 : goal.returns-then-w-eq0
returns-then-w-eq0 c =
    search (taken_none, rules)

pub returns : goal.returns
returns c =
    search (share_taken_lem, rules)

pub take-requires : goal.take-requires
take-requires c =
    search (nearby, rules)
