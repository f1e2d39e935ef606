use Rattle.std.proofs.Common.{◌≡◌, ◌^◌, ◌<◌, arith}
use Rattle.decimals.specs.Writing.{wrote_joined_none, wrote_joined_more}
use Rattle.quote_page.specs.Page.{row_end}
use Rattle.quote_page.proofs.put_row.Goals as goal

pub loop-column-init : goal.loop-column-init
loop-column-init c = wrote_joined_none _

pub put_block-at-requires : goal.put_block-at-requires
put_block-at-requires c =
    let asked = c.requires in
    let inside : c.loop-column.column < 2 ^ c.args.k = omega (arith, c.pow2-column-end.ensures) in (
      omega (arith, row_end asked.2 _ c.loop-column.column asked.1 (omega arith) c.loop-column.invariant),
      asked.1,
      inside,
      asked.2,
    )

pub loop-column-preserved : goal.loop-column-preserved
loop-column-preserved c = wrote_joined_more _ c.loop-column.column c.loop-column.invariant c.put_block-at.ensures

pub returns : goal.returns
returns c =
    let e : c.loop-column.column ≡ 2 ^ c.args.k = omega (arith, c.pow2-column-end.ensures) in
    rw e at c.loop-column.invariant
