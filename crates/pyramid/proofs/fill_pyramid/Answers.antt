-- `pyramid::fill_pyramid`: the cells, then all levels over them.
use native.Mathlib.Omega.{arith}
use borrow.Author.Rules.{rules}
use Rattle.pyramid.specs.Fresh.{cells_in, cells_asked, back_whole, back_small, fresh}
use Rattle.pyramid.proofs.fill_pyramid.Goals as goal

pub offset_bounds-part-off : goal.offset_bounds-part-off
offset_bounds-part-off c =
    omega (
      arith,
      cells_in _ c.args.greys.now _ c.requires _ c.level_start-off.ensures,
      c.well_formed.0.1,
    )

pub slice_bounds-fill_cells-count : goal.slice_bounds-fill_cells-count
slice_bounds-fill_cells-count c =
    search (cells_in, rules)

pub slice_bounds-fill_cells-start : goal.slice_bounds-fill_cells-start
slice_bounds-fill_cells-start c =
    search (cells_in, rules)

pub fill_cells-requires : goal.fill_cells-requires
fill_cells-requires c =
    search (cells_asked, rules)

pub sum_up-requires : goal.sum_up-requires
sum_up-requires c =
    (search (back_whole, rules), search (back_small, rules))

pub returns : goal.returns
returns c =
    search (fresh, rules)
