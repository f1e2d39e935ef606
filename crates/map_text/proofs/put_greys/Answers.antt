use Rattle.std.proofs.Common.{arith}
use Rattle.decimals.specs.Writing.{field_end}
use Rattle.map_text.specs.Written.{none_written, grey_wrote}
use Rattle.map_text.proofs.put_greys.Goals as goal

pub loop-i-init : goal.loop-i-init
loop-i-init c = record { short = omega arith; wrote = none_written _ _ }

pub loop-i-preserved : goal.loop-i-preserved
loop-i-preserved c =
    let field = rw c.from.ensures at c.put_field-at.ensures in record {
      short = omega (arith, field_end _ (omega arith) _ c.put_field-at.ensures);
      wrote = grey_wrote _ c.requires.1 _ (omega arith) c.loop-i.invariant.wrote c.end_at.ensures field;
    }
