-- `macroblock::block_at`.
use borrow.Author.Rules.{rules}
use Rattle.integers.specs.Machine.{back64}
use Rattle.macroblock.specs.Owing.{block_in, at_fits, at_bytes, block_is}
use Rattle.macroblock.proofs.block_at.Goals as goal

pub overflow_add-at : goal.overflow_add-at
overflow_add-at c =
    search (at_fits, rules)

pub offset_bounds-pyramid-at : goal.offset_bounds-pyramid-at
offset_bounds-pyramid-at c =
    search (at_bytes, rules)

pub bounds-pyramid-at : goal.bounds-pyramid-at
bounds-pyramid-at c =
    search (block_in, rules)

pub returns : goal.returns
returns c =
    block_is _ _ _ _ c.requires _ _ c.level_start-first.ensures c.place.ensures (search (back64, rules))
