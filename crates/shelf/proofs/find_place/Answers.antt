use borrow.Author.Rules.{rules}
use Rattle.shelf.specs.Searching.{middle_asked, left_half, right_half}
use Rattle.shelf.proofs.find_place.Goals as goal

pub plate_before-requires : goal.plate_before-requires
plate_before-requires c =
    search (middle_asked, rules)

pub loop-low-preserved-then-plate_before : goal.loop-low-preserved-then-plate_before
loop-low-preserved-then-plate_before c =
    search (left_half, rules)

pub loop-low-preserved : goal.loop-low-preserved
loop-low-preserved c =
    search (right_half, rules)
