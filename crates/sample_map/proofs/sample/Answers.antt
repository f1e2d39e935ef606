-- `sample_map::sample`: what the check says, told apart.
use Rattle.std.proofs.Common.{rules}
use Rattle.refusals.specs.Powers.{power_small}
use Rattle.checks.specs.Checks.{gives_back}
use Rattle.sample_map.specs.WaysOut.{refused_is, room, front_length, sampled_is}
use Rattle.sample_map.proofs.sample.Goals as goal

pub check_greys-requires : goal.check_greys-requires
check_greys-requires c =
    search (power_small, rules)

pub returns-in_err-check_greys : goal.returns-in_err-check_greys
returns-in_err-check_greys c =
    refused_is c.args.seed c.args.side c.power_of-r.ensures _ _ c.in_err-check_greys.ensures
    (gives_back _ _ c.from_residual.ensures.1)

pub cell_count-cells-requires : goal.cell_count-cells-requires
cell_count-cells-requires c =
    search (power_small, rules)

pub slice_bounds-fill_greys-end : goal.slice_bounds-fill_greys-end
slice_bounds-fill_greys-end c =
    search (room, rules)

pub slice_bounds-fill_greys-end-2 : goal.slice_bounds-fill_greys-end-2
slice_bounds-fill_greys-end-2 c =
    search (front_length, rules)

pub returns : goal.returns
returns c =
    sampled_is c.args.seed c.args.side c.power_of-r.ensures _ c.in_ok-check_greys.ensures c.cell_count-cells.ensures
    c.fill_greys-state.ensures.reached c.fill_greys-state.ensures.stored
