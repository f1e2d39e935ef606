-- `relay::relay`: what the check says, told apart.
use borrow.Author.Rules.{rules}
use Rattle.refusals.specs.Powers.{power_small}
use Rattle.checks.specs.Checks.{gives_back}
use Rattle.relay.specs.WaysOut.{refused_is, relay_asked, relaid_is}
use Rattle.relay.proofs.relay.Goals as goal

pub check_relay-requires : goal.check_relay-requires
check_relay-requires c = search (power_small, rules)

pub returns-in_err-check_relay : goal.returns-in_err-check_relay
returns-in_err-check_relay c =
    let a = c.args in
    refused_is a.progress _ _ _ _ c.power_of-r.ensures _ c.in_err-check_relay.ensures
    (gives_back _ _ c.from_residual.ensures.1)

pub lay_levels-requires : goal.lay_levels-requires
lay_levels-requires c =
    let a = c.args in relay_asked a.progress _ a.serials.now a.order.now a.second.now c.power_of-r.ensures
    c.in_ok-check_relay.ensures

pub returns : goal.returns
returns c =
    let a = c.args in
    relaid_is a.progress _ a.serials.now a.order.now a.second.now c.power_of-r.ensures c.in_ok-check_relay.ensures
    c.lay_levels.ensures
