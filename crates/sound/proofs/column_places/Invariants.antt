-- `sound::column_places`: the columns so far, row after row.
use Rattle.std.proofs.Common.{◌≡◌, true, length}
use Rattle.sound.specs.OnePlace.{ColumnPlaces}
use Rattle.sound.proofs.column_places.Given as goal

abbrev pub invariant-loop-b : goal.invariant-loop-b
invariant-loop-b l = record { long : length l.columns ≡ 256; found : ColumnPlaces true l.b l.columns }
