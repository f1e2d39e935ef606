-- `fresh_sheet::low_map`.
use borrow.Author.Rules.{rules}
use Rattle.fresh_sheet.specs.Rows.{low_front, front_length}
use Rattle.fresh_sheet.proofs.low_map.Goals as goal

pub slice_bounds-none_high-end : goal.slice_bounds-none_high-end
slice_bounds-none_high-end c =
    search (front_length, rules)

pub returns : goal.returns
returns c =
    search (low_front, rules)
