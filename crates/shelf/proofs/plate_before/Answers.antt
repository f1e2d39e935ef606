-- `shelf::plate_before`: each plate is a part of the shelf.
use borrow.Author.Rules.{rules}
use Rattle.shelf.specs.Pairs.{parts_say}
use Rattle.shelf.proofs.plate_before.Goals as goal

pub returns : goal.returns
returns c =
    search (parts_say, rules)
