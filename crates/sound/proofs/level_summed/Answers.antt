use borrow.Author.Rules.{rules}
use Rattle.integers.specs.Loops.{none, turn, fails, passes}
use Rattle.sound.specs.Sums.{sides_asked, in_square, level_every}
use Rattle.sound.proofs.level_summed.Goals as goal

pub loop-i-init : goal.loop-i-init
loop-i-init c =
    none

pub place_summed-requires : goal.place_summed-requires
place_summed-requires c = record {
  sides_asked = search (sides_asked, rules);
  i_bound = search (in_square, rules);
}

pub returns-then-not-place_summed : goal.returns-then-not-place_summed
returns-then-not-place_summed c =
    search (fails, level_every, rules)

pub loop-i-preserved : goal.loop-i-preserved
loop-i-preserved c =
    search (turn, rules)

pub returns : goal.returns
returns c =
    search (passes, level_every, rules)
