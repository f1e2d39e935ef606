-- `drill_list::dots_length`: after j turns the lengths of the first j lines are added up.
use Rattle.std.proofs.Common.{◌≡◌, ◌*◌, ◌≤◌, length, take}
use Rattle.definition.specs.DrillList.{dot_lines}
use Rattle.drill_list.proofs.dots_length.Given as goal

abbrev pub invariant-loop-j : goal.invariant-loop-j
invariant-loop-j l = record {
  short : l.bytes ≤ 63 * l.j;
  added : l.bytes ≡ length (dot_lines l.r 1 (take l.j l.cells));
}
