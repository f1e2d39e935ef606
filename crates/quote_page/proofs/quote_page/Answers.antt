-- `quote_page::quote_page`: what the check says, told apart. That greys are bytes is known of the slice.
use borrow.Author.Rules.{rules}
use Rattle.refusals.specs.Powers.{power_small}
use Rattle.checks.specs.Checks.{gives_back}
use Rattle.quote_page.specs.WaysOut.{page_refused, page_asked, page_written}
use Rattle.quote_page.proofs.quote_page.Goals as goal

pub check_quote-requires : goal.check_quote-requires
check_quote-requires c =
    search (power_small, rules)

pub returns-in_err-check_quote : goal.returns-in_err-check_quote
returns-in_err-check_quote c =
    page_refused _ _ c.type_inv.greys _ _ _ c.power_of-r.ensures _ c.in_err-check_quote.ensures
    (gives_back _ _ c.from_residual.ensures.1)

pub put_page-requires : goal.put_page-requires
put_page-requires c =
    page_asked _ _ c.type_inv.greys _ _ _ c.power_of-r.ensures c.in_ok-check_quote.ensures

pub returns : goal.returns
returns c =
    page_written _ _ c.type_inv.greys _ _ _ c.power_of-r.ensures c.in_ok-check_quote.ensures c.put_page.ensures
