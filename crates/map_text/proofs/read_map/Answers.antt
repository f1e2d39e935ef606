-- `map_text::read_map`: a run that stores nothing, then the one that does.
use borrow.Author.Rules.{rules}
use Rattle.map_text.specs.WaysOut.{map_refused, map_read}
use Rattle.map_text.proofs.read_map.Goals as goal

pub returns-then-is_none : goal.returns-then-is_none
returns-then-is_none c = search (map_refused, rules)

pub returns : goal.returns
returns c = search (map_read, rules)
