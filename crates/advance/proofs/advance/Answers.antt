-- `advance::advance`: what the check says, told apart.
use borrow.Author.Rules.{rules}
use Rattle.refusals.specs.Powers.{power_small}
use Rattle.checks.specs.Checks.{gives_back}
use Rattle.advance.specs.Advancing.{refused_is, advance_asked, passed_is}
use Rattle.advance.proofs.advance.Goals as goal

pub check_sheet-requires : goal.check_sheet-requires
check_sheet-requires c = search (power_small, rules)

pub returns-in_err-check_sheet : goal.returns-in_err-check_sheet
returns-in_err-check_sheet c =
    let a = c.args in
    refused_is a.progress _ _ _ c.power_of-r.ensures _ _ c.in_err-check_sheet.ensures
    (gives_back _ _ c.from_residual.ensures.1)

pub advance_sheet-requires : goal.advance_sheet-requires
advance_sheet-requires c =
    let a = c.args in advance_asked a.progress _ _ _ c.power_of-r.ensures c.in_ok-check_sheet.ensures

pub returns : goal.returns
returns c =
    let a = c.args in
    passed_is a.progress _ _ _ c.power_of-r.ensures c.in_ok-check_sheet.ensures _ _ c.advance_sheet.ensures
