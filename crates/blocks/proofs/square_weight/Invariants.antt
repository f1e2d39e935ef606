-- `blocks::square_weight`: the loop adds up the sum of the contract, row by row.
use Rattle.std.proofs.Common.{◌+◌, ◌*◌}
use Rattle.definition.specs.Lists.{sum_to}
use Rattle.integers.specs.Totals.{Total}
use Rattle.blocks.specs.Squares.{row_weight}
use Rattle.blocks.proofs.square_weight.Given as goal

abbrev pub invariant-loop-x : goal.invariant-loop-x
invariant-loop-x g l =
    Total (sum_to l.x (λ x. row_weight g.T.Weighed.weight l.values ((l.top + x) * l.side + l.left) l.s))
    (l.x * (256 * g.T.Weighed.most)) l.sum
