-- `survey::join`: by the laws on the sum of four errors.
use Rattle.survey.specs.Errors.{join_add, joined}
use Rattle.survey.proofs.join.Goals as goal

pub add_square-requires : goal.add_square-requires
add_square-requires c =
    join_add c.requires

pub returns : goal.returns
returns c =
    joined c.requires c.add_square.ensures
