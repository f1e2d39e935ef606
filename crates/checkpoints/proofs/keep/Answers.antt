-- `checkpoints::keep`: what the check says, told apart.
use borrow.Author.Rules.{rules}
use Rattle.checks.specs.Checks.{gives_back}
use Rattle.checkpoints.specs.WaysOut.{keep_refused, keep_named, keep_done}
use Rattle.checkpoints.proofs.keep.Goals as goal

pub with_dots-with-requires : goal.with_dots-with-requires
with_dots-with-requires c =
    let a = c.args in keep_named a.progress a.checkpoints _ c.power_of.ensures c.in_ok-check_keep.ensures

pub returns-in_err-check_keep : goal.returns-in_err-check_keep
returns-in_err-check_keep c =
    let a = c.args in
    keep_refused a.progress a.checkpoints _ c.power_of.ensures _ c.in_err-check_keep.ensures
    (gives_back _ _ c.from_residual.ensures.1)

pub returns : goal.returns
returns c =
    let a = c.args in
    keep_done a.progress a.checkpoints _ c.power_of.ensures c.in_ok-check_keep.ensures c.with_dots-with.ensures
