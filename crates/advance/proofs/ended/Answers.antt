-- `advance::ended`.
use borrow.Author.Rules.{rules}
use Rattle.advance.specs.Ends.{says_finished, says_more}
use Rattle.advance.proofs.ended.Goals as goal

pub returns-then-top-lt-HALF_DOT : goal.returns-then-top-lt-HALF_DOT
returns-then-top-lt-HALF_DOT c =
    search (says_finished, rules)

pub returns-else-top-lt-HALF_DOT : goal.returns-else-top-lt-HALF_DOT
returns-else-top-lt-HALF_DOT c =
    search (says_more, rules)
