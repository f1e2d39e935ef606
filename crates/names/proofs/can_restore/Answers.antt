-- `names::can_restore`: a name outside 1 to 8, one that is empty, and one under which dots are kept.
use Rattle.std.proofs.Common.{rules}
use Rattle.names.specs.Names.{name_is, name_not, no_name, name_empty, name_kept}
use Rattle.names.proofs.can_restore.Goals as goal

pub returns-in-0 : goal.returns-in-0
returns-in-0 c = search (name_is, name_empty, rules)

pub returns-in_default : goal.returns-in_default
returns-in_default c = search (name_is, name_kept, rules)

pub returns-else-is_name : goal.returns-else-is_name
returns-else-is_name c = search (name_not, no_name, rules)
