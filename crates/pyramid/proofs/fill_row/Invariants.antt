-- `pyramid::fill_row`: the loop fills cell after cell.
use Prim.Native.Nat.{◌+◌, ◌*◌}
use Rattle.pyramid.specs.PyramidPart.{MoreFilled}
use Rattle.pyramid.proofs.fill_row.Given as goal

abbrev pub invariant-loop-column : goal.invariant-loop-column
invariant-loop-column l = MoreFilled l.r l.greys (l.row * l.side) (l.row * l.side + l.column) l.initial.part l.part
