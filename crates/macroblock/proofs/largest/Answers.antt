-- `macroblock::largest`.
use Rattle.macroblock.specs.FourBlocks.{largest_of}
use Rattle.macroblock.proofs.largest.Goals as goal

pub returns : goal.returns
unfolding largest_of
returns c =
    cc
