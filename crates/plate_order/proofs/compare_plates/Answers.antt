-- `plate_order::compare_plates`: the counts, then the first difference.
use Rattle.std.proofs.Common.{rules}
use Rattle.plate_order.specs.Comparing.{by_fewer, by_more, by_cell}
use Rattle.plate_order.proofs.compare_plates.Goals as goal

pub returns-in-Less : goal.returns-in-Less
returns-in-Less c =
    search (by_fewer, rules)

pub returns-in-Greater : goal.returns-in-Greater
returns-in-Greater c =
    search (by_more, rules)

pub returns-in-Equal : goal.returns-in-Equal
returns-in-Equal c =
    search (by_cell, rules)
