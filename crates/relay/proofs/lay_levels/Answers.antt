use native.Mathlib.Omega.{arith}
use borrow.Author.Rules.{rules}
use Rattle.relay.specs.Laying.{none_laid, start_few, in_order, in_second, in_pyramid}
use Rattle.relay.specs.Laying.{level_asked, level_more, all_laid}
use Rattle.relay.proofs.lay_levels.Goals as goal

pub loop-k-init : goal.loop-k-init
loop-k-init c =
    search (none_laid, rules)

pub offset_bounds-second-from : goal.offset_bounds-second-from
offset_bounds-second-from c =
    let most = c.requires.small in
    omega (arith, start_few _ c.level_start-from.ensures (omega (arith, most)))

pub slice_bounds-lay_level-count : goal.slice_bounds-lay_level-count
slice_bounds-lay_level-count c =
    search (in_order, rules)

pub slice_bounds-lay_level-start : goal.slice_bounds-lay_level-start
slice_bounds-lay_level-start c =
    search (in_order, rules)

pub slice_bounds-lay_level-end : goal.slice_bounds-lay_level-end
slice_bounds-lay_level-end c =
    search (in_second, rules)

pub offset_bounds-pyramid-from : goal.offset_bounds-pyramid-from
offset_bounds-pyramid-from c =
    let most = c.requires.small in
    omega (arith, start_few _ c.level_start-from.ensures (omega (arith, most)))

pub slice_bounds-lay_level-count-in-loop-k : goal.slice_bounds-lay_level-count-in-loop-k
slice_bounds-lay_level-count-in-loop-k c =
    search (in_pyramid, rules)

pub slice_bounds-lay_level-start-in-loop-k : goal.slice_bounds-lay_level-start-in-loop-k
slice_bounds-lay_level-start-in-loop-k c =
    search (in_pyramid, rules)

pub lay_level-requires : goal.lay_level-requires
lay_level-requires c = search (level_asked, rules)

pub loop-k-preserved : goal.loop-k-preserved
loop-k-preserved c =
    search (level_more, rules)

pub returns : goal.returns
returns c =
    search (all_laid, rules)
