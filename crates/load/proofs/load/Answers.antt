-- `load::load`: what the check says, told apart.
use borrow.Author.Rules.{rules}
use Rattle.refusals.specs.Powers.{power_small}
use Rattle.checks.specs.Checks.{gives_back}
use Rattle.load.specs.Loading.{refused_is, room, loaded_is}
use Rattle.load.proofs.load.Goals as goal

pub low_map-requires : goal.low_map-requires
low_map-requires c =
    search (power_small, rules)

pub check_load-requires : goal.check_load-requires
check_load-requires c =
    search (power_small, rules)

pub returns-in_err-check_load : goal.returns-in_err-check_load
returns-in_err-check_load c =
    let a = c.args in
    refused_is a.side a.knit c.power_of-r.ensures _ _ _ _ c.low_map.ensures _ c.in_err-check_load.ensures
    (gives_back _ _ c.from_residual.ensures.1)

pub fill-requires : goal.fill-requires
fill-requires c =
    let a = c.args in room a.side a.knit c.power_of-r.ensures _ _ _ _ c.low_map.ensures c.in_ok-check_load.ensures

pub returns : goal.returns
returns c =
    let a = c.args in
    loaded_is a.side a.knit c.power_of-r.ensures _ _ _ _ c.low_map.ensures c.in_ok-check_load.ensures c.fill.ensures
