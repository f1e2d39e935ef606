use Rattle.std.proofs.Common.{arith}
use Rattle.drill_list.specs.Listing.{no_dots, one_more_dot, dot_end}
use Rattle.drill_list.proofs.put_dots.Goals as goal

pub loop-j-init : goal.loop-j-init
loop-j-init c = record { short = omega arith; wrote = no_dots _ }

pub loop-j-preserved : goal.loop-j-preserved
loop-j-preserved c =
    let line = rw c.from.ensures at c.put_dot-at.ensures in record {
      short = omega (arith, dot_end _ _ _ (omega arith) (omega arith) c.put_dot-at.ensures);
      wrote = one_more_dot _ _ _ (omega arith) c.loop-j.invariant.wrote line;
    }
