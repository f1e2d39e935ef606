-- `checkpoints::check_restore`: what Load's check says, told apart, then the last three rows.
use borrow.Author.Rules.{rules}
use Rattle.checks.specs.Checks.{gives_back}
use Rattle.checkpoints.specs.WaysOut.{first_failed, map_lent, sheet_lent, last_checked}
use Rattle.checkpoints.proofs.check_restore.Goals as goal

pub returns-in_err-check_load : goal.returns-in_err-check_load
returns-in_err-check_load c =
    let a = c.args in
    rw (gives_back _ _ c.from_residual.ensures.1)
    (first_failed (search rules) a.dots a.knit a.checkpoints a.name _ _ _ _ _ c.in_err-check_load.ensures)

pub sound_lent-sound-requires : goal.sound_lent-sound-requires
sound_lent-sound-requires c =
    let a = c.args in (
      search rules,
      sheet_lent (search rules) a.dots a.knit a.checkpoints a.name a.greys.now _ _ _ c.in_ok-check_load.ensures,
    )

pub total_dots-total-requires : goal.total_dots-total-requires
total_dots-total-requires c =
    let a = c.args in
    map_lent (search rules) a.dots a.knit a.checkpoints a.name _ a.pyramid.now a.serials.now a.order.now
    c.in_ok-check_load.ensures

pub returns : goal.returns
returns c =
    let a = c.args in
    last_checked (search rules) a.dots a.knit a.checkpoints a.name _ _ _ _ c.in_ok-check_load.ensures
    c.sound_lent-sound.ensures c.low_map-low.ensures c.total_dots-total.ensures.value c.can_restore-known.ensures
    c.check_last.ensures
