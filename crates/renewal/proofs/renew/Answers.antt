-- `renewal::renew`.
use native.Mathlib.Omega.{arith}
use borrow.Author.Rules.{rules}
use Rattle.renewal.specs.Around.{parts_few, rises, corners_over, renewed_around}
use Rattle.renewal.proofs.renew.Goals as goal

pub overflow_add-corners : goal.overflow_add-corners
overflow_add-corners c =
    omega (arith, parts_few c.requires c.level_start-cells.ensures)

pub overflow_add-corners-2 : goal.overflow_add-corners-2
overflow_add-corners-2 c =
    omega (arith, parts_few c.requires c.level_start-cells.ensures)

pub overflow_add-corners-3 : goal.overflow_add-corners-3
overflow_add-corners-3 c =
    omega (arith, parts_few c.requires c.level_start-cells.ensures)

pub overflow_add-corners-4 : goal.overflow_add-corners-4
overflow_add-corners-4 c =
    omega (arith, parts_few c.requires c.level_start-cells.ensures)

pub overflow_add-corners-5 : goal.overflow_add-corners-5
overflow_add-corners-5 c =
    omega (arith, parts_few c.requires c.level_start-cells.ensures)

pub overflow_add-corners-6 : goal.overflow_add-corners-6
overflow_add-corners-6 c =
    omega (arith, parts_few c.requires c.level_start-cells.ensures)

pub overflow_add-corners-7 : goal.overflow_add-corners-7
overflow_add-corners-7 c =
    omega (arith, parts_few c.requires c.level_start-cells.ensures)

pub overflow_add-corners-8 : goal.overflow_add-corners-8
overflow_add-corners-8 c =
    omega (arith, parts_few c.requires c.level_start-cells.ensures)

pub up-requires : goal.up-requires
up-requires c =
    let few = parts_few c.requires c.level_start-cells.ensures in
    (omega (arith, few), omega (arith, few), omega (arith, few), omega (arith, few))

pub renew_up-requires : goal.renew_up-requires
renew_up-requires c =
    (search (rises, rules), search (corners_over, rules))

pub returns : goal.returns
returns c =
    search (renewed_around, rules)
