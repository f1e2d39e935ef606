-- `survey::level_sums`: the walk over the whole map.
use borrow.Author.Rules.{rules}
use Rattle.survey.specs.Levels.{whole_walked}
use Rattle.survey.proofs.level_sums.Goals as goal

pub returns : goal.returns
returns c =
    search (whole_walked, rules)
