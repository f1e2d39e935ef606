-- `relay::check_relay`: what the check of the lengths says, told apart, then the test of the sheet row after row.
use borrow.Author.Rules.{rules}
use Rattle.checks.specs.Checks.{gives_back}
use Rattle.relay.specs.WaysOut.{relay_failed, relay_lent, relay_sound, relay_unsound}
use Rattle.relay.proofs.check_relay.Goals as goal

pub returns-in_err-check_lengths : goal.returns-in_err-check_lengths
returns-in_err-check_lengths c =
    let a = c.args in
    rw (gives_back _ _ c.from_residual.ensures.1)
    (relay_failed a.r a.knit a.dots a.pyramid.now a.serials.now a.order.now a.second c.min-lent.ensures _
    c.in_err-check_lengths.ensures)

pub sound_lent-requires : goal.sound_lent-requires
sound_lent-requires c =
    let a = c.args in (
      search rules,
      relay_lent a.r a.knit a.dots a.pyramid.now a.serials.now a.order.now a.second c.min-lent.ensures
          c.in_ok-check_lengths.ensures,
    )

pub returns-then-sound_lent : goal.returns-then-sound_lent
returns-then-sound_lent c =
    search (relay_sound, rules)

pub returns : goal.returns
returns c =
    search (relay_unsound, rules)
