-- `blocks::block_weight`: the block is a square of cells.
use Rattle.blocks.specs.Blocks.{block_square}
use Rattle.blocks.proofs.block_weight.Goals as goal

pub square_weight-requires : goal.square_weight-requires
square_weight-requires g c = rw (c.pow2-side.ensures, c.pow2-s.ensures) (block_square c.requires)
