-- `rulmedei::rulmedei_relay`: the call's promise.
use borrow.Author.Rules.{rules}
use Rattle.rulmedei.specs.FromCalls.{relay_coded}
use Rattle.rulmedei.proofs.rulmedei_relay.Goals as goal

pub returns : goal.returns
returns c =
    search (relay_coded, rules)
