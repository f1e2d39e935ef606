use Rattle.std.proofs.Common.{◌≡◌, ◌^◌, ◌<◌, arith}
use Rattle.definition.specs.QuotePage.{quote_text}
use Rattle.decimals.specs.Writing.{wrote_joined_none, wrote_joined_more}
use Rattle.quote_page.specs.Page.{rows_end}
use Rattle.quote_page.proofs.put_page.Goals as goal

pub loop-row-init : goal.loop-row-init
loop-row-init c = wrote_joined_none _

pub put_row-at-requires : goal.put_row-at-requires
put_row-at-requires c =
    let inside : c.loop-row.row < 2 ^ c.args.k = omega (arith, c.pow2-row-end.ensures) in (
      omega (arith, rows_end c.requires c.loop-row.row (omega arith) c.loop-row.invariant),
      inside,
      c.requires,
    )

pub loop-row-preserved : goal.loop-row-preserved
loop-row-preserved c = wrote_joined_more _ c.loop-row.row c.loop-row.invariant c.put_row-at.ensures

pub returns : goal.returns
unfolding quote_text
returns c =
    let e : c.loop-row.row ≡ 2 ^ c.args.k = omega (arith, c.pow2-row-end.ensures) in rw e at c.loop-row.invariant
