-- `Table::new`: each of the 1,024 entries is computed by the rule.
use mathlib.Core.Path.{refl}
use Rattle.definition.specs.Lists.{tabulate_from}
use Rattle.definition.specs.Quarters.{interleaved}
use Rattle.places.specs.Table.{places}
use Rattle.places.proofs.Table.new.Goals as goal

pub invariant_of-result : goal.invariant_of-result
unfolding places tabulate_from interleaved
invariant_of-result c = record { is_table = refl }
