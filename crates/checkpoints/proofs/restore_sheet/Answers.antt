-- `checkpoints::restore_sheet`: the fresh sheet, then a run on its parts of just the needed lengths.
use borrow.Author.Rules.{rules}
use Rattle.checkpoints.specs.Anew.{pyramid_part, serials_part, order_part, whole, run_asked, made_anew}
use Rattle.checkpoints.proofs.restore_sheet.Goals as goal

pub fill-requires : goal.fill-requires
fill-requires c = search rules

pub slice_bounds-run-end-2 : goal.slice_bounds-run-end-2
slice_bounds-run-end-2 c =
    search (pyramid_part, rules)

pub slice_bounds-run-end-4 : goal.slice_bounds-run-end-4
slice_bounds-run-end-4 c =
    search (serials_part, rules)

pub slice_bounds-run-end-6 : goal.slice_bounds-run-end-6
slice_bounds-run-end-6 c =
    search (order_part, rules)

pub run-requires : goal.run-requires
run-requires c = record {
  run_asked = search (run_asked, rules);
  pyramid_len = search (whole, rules);
}

pub returns : goal.returns
returns c =
    search (made_anew, rules)
