-- `descent::largest`.
use Rattle.descent.specs.Candidates.{largest_of}
use Rattle.descent.specs.Walk.{taken_is}
use Rattle.descent.proofs.largest.Goals as goal

pub returns : goal.returns
unfolding largest_of
returns c =
    taken_is _ _ _ (cc)
