use borrow.Author.Rules.{rules}
use Rattle.renewal.specs.Upward.{places_some, four_asked, climbed_on, climb_rising, climb_inside, climbed}
use Rattle.renewal.proofs.renew_up.Goals as goal

pub renew_four-requires : goal.renew_four-requires
renew_four-requires c =
    search (four_asked, rules)

pub up-at-requires : goal.up-at-requires
up-at-requires c =
    places_some c.loop-at.invariant c.loop-at-test.true

pub loop-at-preserved : goal.loop-at-preserved
loop-at-preserved c =
    search (climbed_on, rules)

pub carry_up-requires : goal.carry_up-requires
carry_up-requires c =
    (search (climb_rising, rules), search (climb_inside, rules))

pub returns : goal.returns
returns c =
    search (climbed, rules)
