-- `sound::cell_bounded`: by the two laws on a cell.
use borrow.Author.Rules.{rules}
use Rattle.sound.specs.Cells.{bounded_free, bounded_burnt}
use Rattle.sound.proofs.cell_bounded.Goals as goal

pub returns-then-serials-i-eq0 : goal.returns-then-serials-i-eq0
returns-then-serials-i-eq0 c =
    search (bounded_free, rules)

pub returns-else-serials-i-eq0 : goal.returns-else-serials-i-eq0
returns-else-serials-i-eq0 c =
    search (bounded_burnt, rules)
