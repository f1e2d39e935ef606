use borrow.Author.Rules.{rules}
use Rattle.integers.specs.Loops.{none, turn, fails, passes}
use Rattle.sound.specs.Cells.{row_every}
use Rattle.sound.proofs.row_held.Goals as goal

pub loop-column-init : goal.loop-column-init
loop-column-init c =
    none

pub returns-then-not-cell_held : goal.returns-then-not-cell_held
returns-then-not-cell_held c =
    search (fails, row_every, rules)

pub loop-column-preserved : goal.loop-column-preserved
loop-column-preserved c =
    search (turn, rules)

pub returns : goal.returns
returns c =
    search (passes, row_every, rules)
