-- `rulmedei::put_sums`.
use borrow.Author.Rules.{rules}
use Rattle.rulmedei.specs.Sums.{sets_copied}
use Rattle.rulmedei.proofs.put_sums.Goals as goal

pub returns : goal.returns
returns c =
    search (sets_copied, rules)
