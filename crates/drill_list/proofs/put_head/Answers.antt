-- `drill_list::put_head`.
use native.Mathlib.Omega.{arith}
use borrow.Author.Rules.{rules}
use Rattle.decimals.specs.Writing.{field_end}
use Rattle.drill_list.specs.Listing.{head_wrote}
use Rattle.drill_list.proofs.put_head.Goals as goal

pub put_field-requires : goal.put_field-requires
put_field-requires c =
    omega
    (arith, field_end _ (omega arith) _ c.put_field-at.ensures)

pub returns : goal.returns
returns c =
    search (head_wrote, rules)
