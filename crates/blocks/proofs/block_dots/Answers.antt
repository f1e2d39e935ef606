-- `blocks::block_dots`: what the serials of the block count are its dots.
use Rattle.std.proofs.Common.{◌∙◌}
use Rattle.blocks.specs.Blocks.{block_dots}
use Rattle.blocks.proofs.block_dots.Goals as goal

pub returns : goal.returns
returns c = c.block_weight.ensures ∙ block_dots c.args.serials.now c.requires
