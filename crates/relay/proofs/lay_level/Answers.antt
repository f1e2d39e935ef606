use native.Mathlib.Omega.{arith}
use borrow.Author.Rules.{rules}
use Rattle.layouts.specs.Filling.{none_filled, some_side, place_few, place_in_lem, on_map_lem}
use Rattle.relay.specs.Laying.{one_laid, level_laid}
use Rattle.relay.proofs.lay_level.Goals as goal

pub loop-i-init : goal.loop-i-init
loop-i-init c =
    search (none_filled, rules)

pub nonzero_div-i : goal.nonzero_div-i
nonzero_div-i c =
    search (some_side, rules)

pub nonzero_rem-i : goal.nonzero_rem-i
nonzero_rem-i c =
    search (some_side, rules)

pub place-at-requires : goal.place-at-requires
place-at-requires c =
    let i = c.loop-i.i in
    let most = c.requires.small in
    let h = on_map_lem _ most c.pow2-side.ensures c.cell_count-count.ensures i (omega arith) in
    (omega (arith, h.0, h.2), omega (arith, h.1, h.2))

pub offset_bounds-level-at : goal.offset_bounds-level-at
offset_bounds-level-at c =
    omega (arith, place_few _ _ c.place-at.ensures)

pub bounds-level-at : goal.bounds-level-at
bounds-level-at c =
    let loop = c.loop-i in
    let most = c.requires.small in
    let counted = c.cell_count-count.ensures in
    let h = on_map_lem _ most c.pow2-side.ensures counted loop.i (omega arith) in
    place_in_lem _ most loop.invariant.long _ _ c.place-at.ensures h.0 h.1

pub loop-i-preserved : goal.loop-i-preserved
loop-i-preserved c =
    search (one_laid, rules)

pub returns : goal.returns
returns c =
    search (level_laid, rules)
