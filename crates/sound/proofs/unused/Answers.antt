use borrow.Author.Rules.{rules}
use Rattle.integers.specs.Loops.{none, turn, fails, passes}
use Rattle.sound.specs.Places.{unused_every}
use Rattle.sound.proofs.unused.Goals as goal

pub loop-i-init : goal.loop-i-init
loop-i-init c =
    none

pub returns-then-not-is_free : goal.returns-then-not-is_free
returns-then-not-is_free c =
    search (fails, unused_every, rules)

pub loop-i-preserved : goal.loop-i-preserved
loop-i-preserved c =
    search (turn, rules)

pub returns : goal.returns
returns c =
    search (passes, unused_every, rules)
