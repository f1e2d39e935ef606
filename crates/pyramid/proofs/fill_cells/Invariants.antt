-- `pyramid::fill_cells`: after each turn one row more has its residuals.
use Prim.Native.Nat.{◌*◌}
use Rattle.layouts.specs.Filling.{Filling}
use Rattle.pyramid.specs.PyramidPart.{residual_of}
use Rattle.pyramid.proofs.fill_cells.Given as goal

abbrev pub invariant-loop-row : goal.invariant-loop-row
invariant-loop-row l = Filling l.r (residual_of l.greys) l.initial.part (l.row * l.side) l.part
