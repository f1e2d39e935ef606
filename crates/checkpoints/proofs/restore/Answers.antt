-- `checkpoints::restore`: what the check says, told apart. That greys are bytes is known of the slice.
use native.Mathlib.Omega.{arith}
use borrow.Author.Rules.{rules}
use Rattle.refusals.specs.Powers.{power_small}
use Rattle.checks.specs.Checks.{gives_back}
use Rattle.checkpoints.specs.WaysOut.{restore_refused, anew_asked, count_asked, restore_done}
use Rattle.checkpoints.proofs.restore.Goals as goal

pub check_restore-requires : goal.check_restore-requires
check_restore-requires c = search (power_small, rules)

pub kept_dots-dots-requires : goal.kept_dots-dots-requires
kept_dots-dots-requires c =
    let a = c.args in
    count_asked _ a.checkpoints a.name a.greys.now a.pyramid.now a.serials.now a.order.now
    (power_small a.progress.side c.power_of-r.ensures) _ c.in_ok-check_restore.ensures
    (λ i. omega (arith, c.type_inv.greys i))

pub restore_sheet-requires : goal.restore_sheet-requires
restore_sheet-requires c =
    let a = c.args in anew_asked _ a.checkpoints a.name a.greys.now a.pyramid.now a.serials.now a.order.now
    (power_small a.progress.side c.power_of-r.ensures) _ c.in_ok-check_restore.ensures
    (λ i. omega (arith, c.type_inv.greys i))

pub returns-in_err-check_restore : goal.returns-in_err-check_restore
returns-in_err-check_restore c =
    let a = c.args in
    restore_refused a.progress a.checkpoints a.name _ _ _ _ c.power_of-r.ensures _
    c.in_err-check_restore.ensures (gives_back _ _ c.from_residual.ensures.1)

pub returns : goal.returns
returns c =
    let a = c.args in
    restore_done a.progress a.checkpoints a.name _ _ _ _ c.power_of-r.ensures c.in_ok-check_restore.ensures
    c.kept_dots-dots.ensures c.restore_sheet.ensures
