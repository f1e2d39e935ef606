-- `drill_list::drill_list`: what the check says, told apart.
use Rattle.std.proofs.Common.{sym, arith, length-take-le}
use Rattle.refusals.specs.Powers.{power_small}
use Rattle.checks.specs.Checks.{gives_back}
use Rattle.drill_list.specs.WaysOut.{refused_is, list_asked, listed_is}
use Rattle.drill_list.proofs.drill_list.Goals as goal

pub check_sheet-requires : goal.check_sheet-requires
check_sheet-requires c = power_small _ c.power_of-r.ensures

pub returns-in_err-check_sheet : goal.returns-in_err-check_sheet
returns-in_err-check_sheet c =
    refused_is _ _ _ _ c.power_of-r.ensures _ _ c.in_err-check_sheet.ensures (gives_back _ _ c.from_residual.ensures.1)

pub slice_bounds-write_list-end : goal.slice_bounds-write_list-end
slice_bounds-write_list-end c =
    let asked = list_asked _ _ _ _ c.power_of-r.ensures c.in_ok-check_sheet.ensures in
    sym (length-take-le _ _ asked.listed)

pub write_list-requires-clause-r_small : goal.write_list-requires-clause-r_small
write_list-requires-clause-r_small c = power_small _ c.power_of-r.ensures

pub write_list-requires-clause-few : goal.write_list-requires-clause-few
write_list-requires-clause-few c =
    let asked = list_asked _ _ _ _ c.power_of-r.ensures c.in_ok-check_sheet.ensures in
    omega (arith, length-take-le _ _ asked.listed, asked.few)

pub returns : goal.returns
returns c = listed_is _ _ _ _ c.power_of-r.ensures c.in_ok-check_sheet.ensures _ c.write_list.ensures
