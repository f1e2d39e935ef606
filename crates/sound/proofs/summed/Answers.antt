use native.Mathlib.Omega.{arith}
use borrow.Author.Rules.{rules}
use Rattle.sound.specs.Upward.{last_level, next_asked, turn, fails, passes}
use Rattle.sound.proofs.summed.Goals as goal

pub loop-k-init : goal.loop-k-init
loop-k-init c =
    search (last_level, rules)

pub level_summed-requires : goal.level_summed-requires
level_summed-requires c =
    next_asked c.requires c.loop-k.invariant (omega arith)

pub returns-then-not-level_summed : goal.returns-then-not-level_summed
returns-then-not-level_summed c =
    fails c.loop-k.invariant (omega arith) c.level_summed.ensures
    c.if-not-level_summed.true-raw

pub loop-k-preserved : goal.loop-k-preserved
loop-k-preserved c =
    turn c.loop-k.invariant (omega arith) c.level_summed.ensures
    c.if-not-level_summed.false-raw

pub returns : goal.returns
returns c =
    passes c.loop-k.invariant (omega arith)
