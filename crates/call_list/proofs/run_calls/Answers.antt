-- `call_list::run_calls`: what the calls leave after Load, and the price list of it.
use Rattle.call_list.specs.PriceListOfCode.{promised}
use Rattle.call_list.proofs.run_calls.Goals as goal

pub returns : goal.returns
returns c =
    promised _ _ _ _ _ _ c.record_of-first.ensures _ _ _ c.load.ensures c.make_calls.ensures
