use Rattle.std.proofs.Common.{length-set, arith}
use Rattle.sound.specs.Cells.{columns_turn, columns_quarters}
use Rattle.sound.proofs.column_places.Goals as goal

pub loop-b-preserved : goal.loop-b-preserved
loop-b-preserved c =
    let i = c.loop-b.invariant in
    record { long = simp length-set i.long; found = columns_turn i.found (omega arith) }

pub returns-else-rows : goal.returns-else-rows
returns-else-rows c = columns_quarters c.if-rows.false c.column_parts.ensures
