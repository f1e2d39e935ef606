-- `drill_list::write_list`.
use Rattle.drill_list.specs.Listing.{list_short, list_written}
use Rattle.drill_list.proofs.write_list.Goals as goal

pub returns-then-out-length : goal.returns-then-out-length
returns-then-out-length c = list_short _ _ c.list_length-length.ensures c.if-out-length.true

pub returns : goal.returns
returns c = list_written _ _ c.list_length-length.ensures c.if-out-length.false c.put_list.ensures
