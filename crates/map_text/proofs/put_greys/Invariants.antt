-- `map_text::put_greys`: after i turns the first i greys are written.
use Rattle.std.proofs.Common.{◌+◌, ◌*◌, ◌≤◌}
use Rattle.decimals.specs.Writing.{Wrote}
use Rattle.map_text.specs.Written.{greys_text}
use Rattle.map_text.proofs.put_greys.Given as goal

abbrev pub invariant-loop-i : goal.invariant-loop-i
invariant-loop-i l = record {
  short : l.at ≤ l.from + 21 * l.i;
  wrote : Wrote l.initial.out l.from (greys_text l.side l.greys l.i) l.at l.out;
}
