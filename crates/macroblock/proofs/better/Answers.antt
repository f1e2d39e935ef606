-- `macroblock::better`.
use borrow.Author.Rules.{rules}
use Rattle.macroblock.specs.Owing.{better_is}
use Rattle.macroblock.proofs.better.Goals as goal

pub returns-then-best-next : goal.returns-then-best-next
returns-then-best-next c =
    let g = c.args in
    better_is g.best g.next (search rules) (search rules) c.if-best-next.true

pub returns-else-best-next : goal.returns-else-best-next
returns-else-best-next c =
    let g = c.args in
    better_is g.best g.next (search rules) (search rules) c.if-best-next.false
