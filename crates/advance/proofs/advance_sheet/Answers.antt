-- `advance::advance_sheet`: the parts of just the needed lengths are run, and the answer told from the top.
use mathlib.Core.Path.{refl}
use borrow.Author.Rules.{rules}
use Rattle.advance.specs.Advancing.{
  pyramid_part,
  serials_part,
  order_part,
  run_asked,
  whole,
  top_there,
  dots_fit,
  advanced_is,
}
use Rattle.advance.proofs.advance_sheet.Goals as goal

pub slice_bounds-run-end-2 : goal.slice_bounds-run-end-2
slice_bounds-run-end-2 c =
    search (pyramid_part, rules)

pub slice_bounds-run-end-4 : goal.slice_bounds-run-end-4
slice_bounds-run-end-4 c =
    search (serials_part, rules)

pub slice_bounds-run-end-6 : goal.slice_bounds-run-end-6
slice_bounds-run-end-6 c =
    search (order_part, rules)

pub run-made-requires : goal.run-made-requires
run-made-requires c = record {
  run_asked = search (run_asked, rules);
  pyramid_len = search (whole, rules);
}

pub slice_copy_out-ended : goal.slice_copy_out-ended
slice_copy_out-ended c =
    top_there _ _ _ c.requires c.needed-needed.ensures c.cell_count-cells.ensures _ _
    c.run-made.new.pyramid
    (search rules) c.run-made.ensures

pub overflow_add-dots : goal.overflow_add-dots
overflow_add-dots c =
    search (dots_fit, rules)

pub returns : goal.returns
returns c =
    advanced_is _ _ _ c.requires c.needed-needed.ensures c.cell_count-cells.ensures _ _
    c.run-made.new.pyramid
    (search rules) c.run-made.ensures c.args.progress _ _ refl refl (search rules) c.ended.ensures
