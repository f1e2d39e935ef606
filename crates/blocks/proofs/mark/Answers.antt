-- `blocks::mark`: whether the serial is 0 decides it.
use Rattle.std.proofs.Common.{arith}
use Rattle.std.proofs.lemmas.Grind.{common_steps}
use Rattle.definition.specs.Blocks.{burnt}
use Rattle.blocks.proofs.mark.Goals as goal

pub returns : goal.returns
unfolding burnt
returns c = grind (arith, common_steps)
