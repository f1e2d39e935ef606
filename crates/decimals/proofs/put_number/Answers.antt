-- `decimals::put_number`.
use borrow.Author.Rules.{rules}
use Rattle.decimals.specs.Writing.{number_wrote}
use Rattle.decimals.proofs.put_number.Goals as goal

pub returns : goal.returns
returns c =
    search (number_wrote, rules)
