-- `descent::better`.
use borrow.Author.Rules.{rules}
use Rattle.descent.specs.Walk.{better_is}
use Rattle.descent.proofs.better.Goals as goal

pub returns-then-best-sum : goal.returns-then-best-sum
returns-then-best-sum c =
    let g = c.args in
    better_is g.last g.best g.next (search rules) (search rules) (search rules) c.if-best-sum.true

pub returns-else-best-sum : goal.returns-else-best-sum
returns-else-best-sum c =
    let g = c.args in
    better_is g.last g.best g.next (search rules) (search rules) (search rules) c.if-best-sum.false
