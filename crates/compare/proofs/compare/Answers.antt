-- `compare::compare`: what the check says, told apart.
use Rattle.std.proofs.Common.{rules}
use Rattle.refusals.specs.Powers.{power_small}
use Rattle.checks.specs.Checks.{gives_back}
use Rattle.compare.specs.WaysOut.{compare_refused, compare_asked, compare_answered}
use Rattle.compare.proofs.compare.Goals as goal

pub check_compare-requires : goal.check_compare-requires
check_compare-requires c =
    search (power_small, rules)

pub returns-in_err-check_compare : goal.returns-in_err-check_compare
returns-in_err-check_compare c =
    compare_refused c.args.side c.power_of-r.ensures _ _ _ c.in_err-check_compare.ensures
    (gives_back _ _ c.from_residual.ensures.1)

pub compare_plates-requires : goal.compare_plates-requires
compare_plates-requires c =
    compare_asked c.args.side c.power_of-r.ensures _ _ c.in_ok-check_compare.ensures

pub returns : goal.returns
returns c =
    compare_answered c.args.side c.power_of-r.ensures _ _ c.in_ok-check_compare.ensures _ c.compare_plates.ensures
