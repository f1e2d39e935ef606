-- `fresh_sheet::fill`: the pyramid's part of the needed length, then the two others.
use borrow.Author.Rules.{rules}
use Rattle.fresh_sheet.specs.Filling.{part_length, fill_asked, all_filled}
use Rattle.fresh_sheet.proofs.fill.Goals as goal

pub slice_bounds-fill_pyramid-end-2 : goal.slice_bounds-fill_pyramid-end-2
slice_bounds-fill_pyramid-end-2 c =
    search (part_length, rules)

pub fill_pyramid-requires : goal.fill_pyramid-requires
fill_pyramid-requires c = search (fill_asked, rules)

pub returns : goal.returns
returns c =
    search (all_filled, rules)
