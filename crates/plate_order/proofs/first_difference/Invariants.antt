-- `plate_order::first_difference`: nothing differs in the rows before, nor in this row so far.
use Rattle.std.proofs.Common.{◌≡◌, ◌+◌, ◌*◌}
use Rattle.definition.specs.declared.CompareAnswer.TheVariants.{Same}
use Rattle.plate_order.specs.Finding.{Rest}
use Rattle.plate_order.proofs.first_difference.Given as goal

abbrev pub invariant-rows : goal.invariant-rows
invariant-rows l = (l.found ≡ Same) × Rest l.left l.right l.r (l.row * l.side)

abbrev pub invariant-loop-column : goal.invariant-loop-column
invariant-loop-column l = (l.found ≡ Same) × Rest l.left l.right l.r (l.row * l.side + l.column)
