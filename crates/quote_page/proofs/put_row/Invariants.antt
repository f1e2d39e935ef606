-- `quote_page::put_row`: one more line in each turn.
use Rattle.definition.specs.Lists.{joined}
use Rattle.definition.specs.QuotePage.{quote_line}
use Rattle.decimals.specs.Writing.{Wrote}
use Rattle.quote_page.proofs.put_row.Given as goal

abbrev pub invariant-loop-column : goal.invariant-loop-column
invariant-loop-column l =
    Wrote l.initial.out l.from (joined l.column (quote_line l.r l.greys l.serials l.k l.row)) l.at l.out
