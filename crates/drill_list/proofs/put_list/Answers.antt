-- `drill_list::put_list`.
use Rattle.std.proofs.Common.{arith}
use Rattle.drill_list.specs.Listing.{head_end, list_wrote}
use Rattle.drill_list.proofs.put_list.Goals as goal

pub put_dots-requires-clause-from_small : goal.put_dots-requires-clause-from_small
put_dots-requires-clause-from_small c =
    omega (arith, head_end _ _ (omega arith) (omega arith) c.put_head-at.ensures)

pub returns : goal.returns
returns c = list_wrote _ _ c.put_head-at.ensures c.put_dots.ensures
