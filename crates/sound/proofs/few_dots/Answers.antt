-- `sound::few_dots`: one comparison.
use borrow.Author.Rules.{rules}
use Rattle.sound.specs.Places.{few_dots_is}
use Rattle.sound.proofs.few_dots.Goals as goal

pub returns : goal.returns
returns c =
    search (few_dots_is, rules)
