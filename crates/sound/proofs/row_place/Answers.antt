-- `sound::row_place`.
use borrow.Author.Rules.{rules}
use Rattle.sound.specs.Cells.{row_by_rows, row_by_quarters}
use Rattle.sound.proofs.row_place.Goals as goal

pub returns-then-rows : goal.returns-then-rows
returns-then-rows c =
    search (row_by_rows, rules)

pub returns-else-rows : goal.returns-else-rows
returns-else-rows c =
    search (row_by_quarters, rules)
