use Prim.Native.Nat.{◌+◌, ◌^◌, ◌<◌}
use native.Mathlib.Omega.{arith}
use borrow.Author.Rules.{rules}
use Rattle.integers.specs.Loops.{none, turn, fails, passes}
use Rattle.sound.specs.Cells.{first_few, row_asked, row_there, held_every}
use Rattle.sound.proofs.cells_held.Goals as goal

pub loop-row-init : goal.loop-row-init
loop-row-init c =
    none

pub overflow_add-first : goal.overflow_add-first
overflow_add-first c =
    let u : c.level_start-off.result + c.row_place.result < 2 ^ 20 =
    search (first_few, rules) in
    omega arith

pub row_held-requires : goal.row_held-requires
row_held-requires c =
    search (row_asked, rules)

pub returns-then-not-row_held : goal.returns-then-not-row_held
returns-then-not-row_held c =
    search (fails, held_every, row_there, rules)

pub loop-row-preserved : goal.loop-row-preserved
loop-row-preserved c =
    search (turn, row_there, rules)

pub returns : goal.returns
returns c =
    search (passes, held_every, rules)
