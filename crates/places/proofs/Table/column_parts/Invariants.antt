-- `Table::column_parts`: the loop finds column after column.
use Rattle.std.proofs.Common.{◌≡◌, length}
use Rattle.places.specs.Parts.{ColumnParts}
use Rattle.places.proofs.Table.column_parts.Given as goal

abbrev pub invariant-loop-b : goal.invariant-loop-b
invariant-loop-b l = record { long : length l.columns ≡ 256; found : ColumnParts l.b l.columns }
