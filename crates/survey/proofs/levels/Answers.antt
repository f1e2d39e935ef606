-- `survey::levels`: what the check says, told apart.
use Rattle.std.proofs.Common.{rules}
use Rattle.refusals.specs.Powers.{power_small}
use Rattle.checks.specs.Checks.{gives_back}
use Rattle.survey.specs.WaysOut.{levels_asked, levels_refused, levels_summed}
use Rattle.survey.proofs.levels.Goals as goal

pub check_levels-requires : goal.check_levels-requires
check_levels-requires c =
    search (power_small, rules)

pub returns-in_err-check_levels : goal.returns-in_err-check_levels
returns-in_err-check_levels c =
    levels_refused c.args.side c.power_of-r.ensures _ _ _ c.in_err-check_levels.ensures
    (gives_back _ _ c.from_residual.ensures.1)

pub level_sums-requires : goal.level_sums-requires
level_sums-requires c =
    levels_asked c.args.side c.power_of-r.ensures _ _ c.in_ok-check_levels.ensures

pub returns : goal.returns
returns c =
    levels_summed c.args.side c.power_of-r.ensures _ _ c.in_ok-check_levels.ensures c.level_sums.ensures
