use borrow.Author.Rules.{rules}
use Rattle.integers.specs.Loops.{none, turn, fails, passes}
use Rattle.sound.specs.Places.{numbered_every}
use Rattle.sound.proofs.numbered.Goals as goal

pub loop-i-init : goal.loop-i-init
loop-i-init c =
    none

pub returns-then-not-is_next : goal.returns-then-not-is_next
returns-then-not-is_next c =
    search (fails, numbered_every, rules)

pub loop-i-preserved : goal.loop-i-preserved
loop-i-preserved c =
    search (turn, rules)

pub returns : goal.returns
returns c =
    search (passes, numbered_every, rules)
