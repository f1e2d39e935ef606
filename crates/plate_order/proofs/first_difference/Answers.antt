use Rattle.std.proofs.Common.{rules, arith}
use Rattle.plate_order.specs.Finding.{rest_end, rest_next, rest_found}
use Rattle.plate_order.proofs.first_difference.Goals as goal

pub loop-column-preserved : goal.loop-column-preserved
loop-column-preserved c =
    (search rules, search (rest_next, rules))

pub returns-after-rows : goal.returns-after-rows
returns-after-rows c =
    rw c.rows.invariant.0 (rest_end _ _ _ _ _ c.pow2-side.ensures (omega arith) c.rows.invariant.1)

pub returns-then-x-y : goal.returns-then-x-y
returns-then-x-y c =
    search (rest_found, rules)
