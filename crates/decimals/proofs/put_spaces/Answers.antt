use Rattle.std.proofs.Common.{arith}
use Rattle.decimals.specs.Writing.{space_at}
use Rattle.decimals.proofs.put_spaces.Goals as goal

pub loop-at-preserved : goal.loop-at-preserved
loop-at-preserved c = space_at (omega arith) c.loop-at.invariant c.put_byte.ensures
