-- `Table::small_place`.
use borrow.Author.Rules.{rules}
use Rattle.places.specs.Table.{lent_place}
use Rattle.places.proofs.Table.small_place.Goals as goal

pub returns : goal.returns
returns c = search (lent_place, rules)
