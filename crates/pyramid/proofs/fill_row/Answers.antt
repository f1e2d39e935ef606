use borrow.Author.Rules.{rules}
use Rattle.pyramid.specs.Cells.{below_side, line_fits, number_fits, number_in, column_few}
use Rattle.pyramid.specs.Cells.{place_fits, place_scaled, place_there, one_more, row_none, row_done}
use Rattle.pyramid.proofs.fill_row.Goals as goal

pub loop-column-init : goal.loop-column-init
loop-column-init c =
    search (row_none, rules)

pub overflow_mul-row : goal.overflow_mul-row
overflow_mul-row c =
    search (line_fits, below_side, rules)

pub overflow_add-row : goal.overflow_add-row
overflow_add-row c =
    search (number_fits, below_side, rules)

pub bounds-greys-row : goal.bounds-greys-row
bounds-greys-row c =
    search (number_in, below_side, rules)

pub bounds-columns-column : goal.bounds-columns-column
bounds-columns-column c =
    search (column_few, rules)

pub overflow_add-first : goal.overflow_add-first
overflow_add-first c =
    search (place_fits, rules)

pub offset_bounds-part-first : goal.offset_bounds-part-first
offset_bounds-part-first c =
    search (place_scaled, rules)

pub bounds-part-first : goal.bounds-part-first
bounds-part-first c =
    search (place_there, rules)

pub loop-column-preserved : goal.loop-column-preserved
loop-column-preserved c =
    search (one_more, rules)

pub returns : goal.returns
returns c =
    search (row_done, rules)
