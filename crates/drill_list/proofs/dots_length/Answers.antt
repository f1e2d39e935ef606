use Rattle.std.proofs.Common.{arith}
use Rattle.drill_list.specs.Listing.{no_dots_add, one_more_adds}
use Rattle.drill_list.proofs.dots_length.Goals as goal

pub loop-j-init : goal.loop-j-init
loop-j-init c = record { short = omega arith; added = no_dots_add _ }

pub loop-j-preserved : goal.loop-j-preserved
loop-j-preserved c =
    let line = rw c.from.ensures at c.dot_length-bytes.ensures.0 in record {
      short = omega arith;
      added = one_more_adds _ _ _ (omega arith) c.loop-j.invariant.added line;
    }
