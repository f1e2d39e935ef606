-- `drill_list::head_length`.
use native.Mathlib.Omega.{arith}
use borrow.Author.Rules.{rules}
use Rattle.drill_list.specs.Listing.{head_adds}
use Rattle.drill_list.proofs.head_length.Goals as goal

pub returns : goal.returns
returns c =
    (search (head_adds, rules), omega arith)
