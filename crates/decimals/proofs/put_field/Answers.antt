-- `decimals::put_field`.
use Rattle.decimals.specs.Writing.{field_wrote}
use Rattle.decimals.proofs.put_field.Goals as goal

pub returns : goal.returns
returns c =
    field_wrote _ _ c.put_column.ensures.0
