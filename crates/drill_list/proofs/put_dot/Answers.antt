-- `drill_list::put_dot`.
use native.Mathlib.Nat.{div-le_self, mod-le}
use native.Mathlib.Omega.{arith}
use borrow.Author.Rules.{rules}
use Rattle.decimals.specs.Writing.{field_end}
use Rattle.drill_list.specs.Listing.{some_side, dot_wrote}
use Rattle.drill_list.proofs.put_dot.Goals as goal

pub nonzero_div-cell : goal.nonzero_div-cell
nonzero_div-cell c =
    search (some_side, rules)

pub put_field-column-requires : goal.put_field-column-requires
put_field-column-requires c =
    omega
    (arith, field_end _ (omega arith) _ c.put_field-row.ensures)

pub nonzero_rem-cell : goal.nonzero_rem-cell
nonzero_rem-cell c =
    search (some_side, rules)

pub put_field-requires : goal.put_field-requires
put_field-requires c =
    let side = c.pow2-side.result in
    let cell = c.args.cell in
    omega (
      arith,
      field_end _ (omega (arith, div-le_self cell side, mod-le cell side)) _
          c.put_field-column.ensures,
      field_end _ (omega arith) _ c.put_field-row.ensures,
    )

pub returns : goal.returns
returns c =
    search (dot_wrote, rules)
