-- `shelf::shelf`: what the check says, told apart.
use Rattle.std.proofs.Common.{rules}
use Rattle.refusals.specs.Powers.{power_small}
use Rattle.checks.specs.Checks.{gives_back}
use Rattle.shelf.specs.WaysOut.{shelf_refused, sort_asked, shelf_sorted}
use Rattle.shelf.proofs.shelf.Goals as goal

pub check_shelf-requires : goal.check_shelf-requires
check_shelf-requires c =
    search (power_small, rules)

pub returns-in_err-check_shelf : goal.returns-in_err-check_shelf
returns-in_err-check_shelf c =
    shelf_refused c.args.side c.power_of-r.ensures _ _ _ _ c.in_err-check_shelf.ensures
    (gives_back _ _ c.from_residual.ensures.1)

pub sort-requires : goal.sort-requires
sort-requires c =
    sort_asked c.args.side c.power_of-r.ensures _ _ _ c.in_ok-check_shelf.ensures

pub returns : goal.returns
returns c =
    shelf_sorted c.args.side c.power_of-r.ensures _ _ _ c.in_ok-check_shelf.ensures c.sort.ensures
