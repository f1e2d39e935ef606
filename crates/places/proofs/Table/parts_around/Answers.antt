-- `Table::parts_around`.
use borrow.Author.Rules.{rules}
use Rattle.places.specs.Parts.{parts_are}
use Rattle.places.proofs.Table.parts_around.Goals as goal

pub returns : goal.returns
returns c =
    search (parts_are, rules)
