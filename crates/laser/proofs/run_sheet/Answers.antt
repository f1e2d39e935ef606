-- `laser::run_sheet`: the parts of just the needed lengths are run, and the answer told from the top.
use borrow.Author.Rules.{rules}
use Rattle.laser.specs.Running.{pyramid_part, serials_part, order_part, large, whole, top_there, ran_is}
use Rattle.laser.proofs.run_sheet.Goals as goal

pub slice_bounds-run-end-2 : goal.slice_bounds-run-end-2
slice_bounds-run-end-2 c =
    search (pyramid_part, rules)

pub slice_bounds-run-end-4 : goal.slice_bounds-run-end-4
slice_bounds-run-end-4 c =
    search (serials_part, rules)

pub slice_bounds-run-end-6 : goal.slice_bounds-run-end-6
slice_bounds-run-end-6 c =
    search (order_part, rules)

pub run-made-requires : goal.run-made-requires
run-made-requires c =
    record { large_sheet = search (large, rules); pyramid_len = search (whole, rules) }

pub slice_copy_out-debt : goal.slice_copy_out-debt
slice_copy_out-debt c =
    top_there _ _ _ c.requires c.needed-needed.ensures c.cell_count-cells.ensures _
    c.run-made.new.pyramid (search rules) c.run-made.ensures

pub returns : goal.returns
returns c =
    ran_is _ _ _ c.requires c.needed-needed.ensures c.cell_count-cells.ensures _
    c.run-made.new.pyramid (search rules) c.run-made.ensures _ _ (search rules)
