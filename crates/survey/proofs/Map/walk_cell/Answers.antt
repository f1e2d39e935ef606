-- `survey::Map::walk_cell`: the cell's error, and the square of it added.
use native.Mathlib.Omega.{arith}
use Rattle.integers.specs.Totals.{read}
use Rattle.survey.specs.Walk.{cell_add, cell_walked}
use Rattle.survey.proofs.Map.walk_cell.Goals as goal

pub add_square-requires : goal.add_square-requires
add_square-requires c =
    let e = read c.cell_error-e.ensures (omega arith) in
    cell_add _ c.requires.block_asked c.requires.room (omega (arith, e.small))

pub returns : goal.returns
returns c =
    let e = read c.cell_error-e.ensures (omega arith) in
    cell_walked _ _ c.requires.block_asked c.requires.room c.pow2.ensures e c.add_square.ensures
