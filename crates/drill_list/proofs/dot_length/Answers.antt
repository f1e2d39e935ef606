-- `drill_list::dot_length`.
use native.Mathlib.Omega.{arith}
use borrow.Author.Rules.{rules}
use Rattle.drill_list.specs.Listing.{some_side, dot_adds}
use Rattle.drill_list.proofs.dot_length.Goals as goal

pub nonzero_div-cell : goal.nonzero_div-cell
nonzero_div-cell c =
    search (some_side, rules)

pub nonzero_rem-cell : goal.nonzero_rem-cell
nonzero_rem-cell c =
    search (some_side, rules)

pub returns : goal.returns
returns c =
    (search (dot_adds, rules), omega arith)
