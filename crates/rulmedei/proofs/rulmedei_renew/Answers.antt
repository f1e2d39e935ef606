-- `rulmedei::rulmedei_renew`: whether the renewal was made, as a code.
use borrow.Author.Rules.{rules}
use Rattle.rulmedei.specs.FromCalls.{renew_coded}
use Rattle.rulmedei.proofs.rulmedei_renew.Goals as goal

pub returns-then-renew_lent : goal.returns-then-renew_lent
returns-then-renew_lent c =
    search (renew_coded, rules)

pub returns : goal.returns
returns c =
    search (renew_coded, rules)
