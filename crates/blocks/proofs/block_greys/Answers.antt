-- `blocks::block_greys`: what the greys of the block count is its grey sum.
use Rattle.std.proofs.Common.{◌∙◌}
use Rattle.blocks.specs.Blocks.{block_greys}
use Rattle.blocks.proofs.block_greys.Goals as goal

pub returns : goal.returns
returns c = c.block_weight.ensures ∙ block_greys c.args.greys.now c.requires
