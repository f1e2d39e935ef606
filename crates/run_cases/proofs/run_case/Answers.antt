-- `run_cases::run_case`: each part lent is at most as long as its array.
use Rattle.std.proofs.Common.{arith, sym}
use Rattle.std.proofs.lemmas.List.{length-take-le}
use Rattle.run_cases.proofs.run_case.Goals as goal

pub slice_bounds-run-end-2 : goal.slice_bounds-run-end-2
slice_bounds-run-end-2 g c = sym (length-take-le _ _ (omega arith))
