-- `sound::is_sound`: a test that fails decides; the sums, which need the bounds, come last.
use borrow.Author.Rules.{rules}
use Rattle.sound.specs.Seven.{numbered_asked, summed_asked, few_no, numbered_no, counted_no, unused_no}
use Rattle.sound.specs.Seven.{cells_no, all_but_sums}
use Rattle.integers.specs.Loops.{held, failed}
use Rattle.sound.proofs.is_sound.Goals as goal

pub returns-then-not-few_dots : goal.returns-then-not-few_dots
returns-then-not-few_dots c =
    search (few_no, failed, rules)

pub numbered-requires : goal.numbered-requires
numbered-requires c =
    search (numbered_asked, rules)

pub returns-then-not-numbered : goal.returns-then-not-numbered
returns-then-not-numbered c =
    search (numbered_no, failed, rules)

pub returns-then-not-counted : goal.returns-then-not-counted
returns-then-not-counted c =
    search (counted_no, failed, rules)

pub returns-then-not-unused : goal.returns-then-not-unused
returns-then-not-unused c =
    search (unused_no, failed, rules)

pub returns-then-not-cells_held : goal.returns-then-not-cells_held
returns-then-not-cells_held c =
    search (cells_no, failed, rules)

pub summed-requires : goal.summed-requires
summed-requires c =
    summed_asked _ _ _ c.args.serials.now c.requires c.cells_held.ensures
    c.if-not-cells_held.false-raw

pub returns : goal.returns
returns c =
    search (all_but_sums, held, rules)
