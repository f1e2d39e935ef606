-- `drill_list::put_dots`: after j turns the first j lines are written.
use Rattle.std.proofs.Common.{◌+◌, ◌*◌, ◌≤◌, take}
use Rattle.definition.specs.DrillList.{dot_lines}
use Rattle.decimals.specs.Writing.{Wrote}
use Rattle.drill_list.proofs.put_dots.Given as goal

abbrev pub invariant-loop-j : goal.invariant-loop-j
invariant-loop-j l = record {
  short : l.at ≤ l.from + 63 * l.j;
  wrote : Wrote l.initial.out l.from (dot_lines l.r 1 (take l.j l.cells)) l.at l.out;
}
