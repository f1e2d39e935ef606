-- `laser::two_heads`: what the check says, then what Load says, told apart. That greys are bytes is known of the slice.
use native.Mathlib.Omega.{arith}
use Rattle.std.specs.Prelude.{refl}
use Rattle.checks.specs.Checks.{gives_back}
use Rattle.laser.specs.WaysOut.{refused_early, refused_late, sheet_lent, ran_all}
use Rattle.laser.proofs.two_heads.Goals as goal

pub returns-in_err-check_side : goal.returns-in_err-check_side
returns-in_err-check_side c =
    let a = c.args in
    refused_early a.side a.knit c.power_of-r.ensures _ _ _ _ _ c.in_err-check_side.ensures
    (gives_back _ _ c.from_residual.ensures.1)

pub returns-in_err-load : goal.returns-in_err-load
returns-in_err-load c =
    let a = c.args in
    refused_late a.side a.knit c.power_of-r.ensures _ _ _ _ c.in_ok-check_side.ensures c.in_err-load.ensures refl
    (gives_back _ _ c.from_residual-in_err-load.ensures.1)

pub run_sheet-requires : goal.run_sheet-requires
run_sheet-requires c =
    let a = c.args in
    sheet_lent a.side a.knit c.power_of-r.ensures _ _ _ _ c.in_ok-check_side.ensures c.in_ok-load.ensures refl
    (λ i. omega (arith, c.shared_slice_known-1.given i))

pub returns : goal.returns
returns c =
    let a = c.args in
    ran_all a.side a.knit c.power_of-r.ensures _ _ _ _ c.in_ok-check_side.ensures c.in_ok-load.ensures refl
    (λ i. omega (arith, c.shared_slice_known-1.given i)) _ c.run_sheet.ensures
