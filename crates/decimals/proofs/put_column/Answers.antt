-- `decimals::put_column`.
use native.Mathlib.Omega.{arith}
use Rattle.decimals.specs.Writing.{right_end, column_wrote}
use Rattle.decimals.proofs.put_column.Goals as goal

pub put_byte-requires : goal.put_byte-requires
put_byte-requires c =
    omega
    (arith, right_end _ (omega arith) _ c.put_right-last.ensures)

pub returns : goal.returns
returns c =
    column_wrote _ (omega arith) _ _ c.put_right-last.ensures
    c.put_byte.ensures
