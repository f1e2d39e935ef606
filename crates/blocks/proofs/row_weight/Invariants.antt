-- `blocks::row_weight`: the loop adds up the sum of the contract, cell by cell.
use Rattle.std.proofs.Common.{◌*◌, take}
use Rattle.std.specs.List.{sum_by}
use Rattle.integers.specs.Totals.{Total}
use Rattle.blocks.proofs.row_weight.Given as goal

abbrev pub invariant-loop-value : goal.invariant-loop-value
invariant-loop-value g l =
    Total (sum_by g.T.Weighed.weight (take l.value-index l.value-items)) (l.value-index * g.T.Weighed.most) l.sum
