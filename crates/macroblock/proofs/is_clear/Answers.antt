-- `macroblock::is_clear`.
use borrow.Author.Rules.{rules}
use Rattle.macroblock.specs.Clear.{clear_first, clear_last, clear_inside}
use Rattle.macroblock.proofs.is_clear.Goals as goal

pub returns-then-x-first : goal.returns-then-x-first
returns-then-x-first c =
    search (clear_first, rules)

pub returns-then-x-first-2 : goal.returns-then-x-first-2
returns-then-x-first-2 c =
    search (clear_last, rules)

pub returns : goal.returns
returns c =
    search (clear_inside, rules)
