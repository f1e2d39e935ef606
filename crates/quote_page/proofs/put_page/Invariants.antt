-- `quote_page::put_page`: one more row of lines in each turn.
use Rattle.std.proofs.Common.{◌^◌}
use Rattle.definition.specs.Lists.{joined}
use Rattle.definition.specs.QuotePage.{quote_line}
use Rattle.decimals.specs.Writing.{Wrote}
use Rattle.quote_page.proofs.put_page.Given as goal

abbrev pub invariant-loop-row : goal.invariant-loop-row
invariant-loop-row l =
    Wrote l.initial.out 0 (joined l.row (λ a. joined (2 ^ l.k) (quote_line l.r l.greys l.serials l.k a))) l.at l.out
