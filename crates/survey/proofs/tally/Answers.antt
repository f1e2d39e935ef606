-- `survey::tally`: what the check says, told apart.
use Rattle.std.proofs.Common.{rules}
use Rattle.refusals.specs.Powers.{power_small}
use Rattle.checks.specs.Checks.{gives_back}
use Rattle.survey.specs.WaysOut.{tally_asked, tally_refused, tally_dots}
use Rattle.survey.proofs.tally.Goals as goal

pub check_tally-requires : goal.check_tally-requires
check_tally-requires c =
    search (power_small, rules)

pub returns-in_err-check_tally : goal.returns-in_err-check_tally
returns-in_err-check_tally c =
    tally_refused c.args.side c.power_of-r.ensures _ _ _ _ _ c.in_err-check_tally.ensures
    (gives_back _ _ c.from_residual.ensures.1)

pub block_dots-requires : goal.block_dots-requires
block_dots-requires c =
    tally_asked c.args.side c.power_of-r.ensures _ _ _ _ c.in_ok-check_tally.ensures

pub returns : goal.returns
returns c =
    tally_dots c.args.side c.power_of-r.ensures _ _ _ _ c.in_ok-check_tally.ensures c.block_dots.ensures
