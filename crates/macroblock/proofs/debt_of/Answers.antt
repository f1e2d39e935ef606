-- `macroblock::debt_of`: four blocks read, whether they owe enough, and the one that owes most.
use borrow.Author.Rules.{rules}
use Rattle.macroblock.specs.Owing.{sums_asked, little, seen}
use Rattle.macroblock.proofs.debt_of.Goals as goal

pub is_due-requires : goal.is_due-requires
is_due-requires c =
    search (sums_asked, rules)

pub returns-then-not-is_due : goal.returns-then-not-is_due
returns-then-not-is_due c =
    search (little, rules)

pub returns : goal.returns
returns c =
    search (seen, rules)
