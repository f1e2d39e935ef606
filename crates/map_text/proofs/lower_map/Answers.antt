-- `map_text::lower_map`: a run that stores nothing, then the one that does; the greys lowered, and their text.
use borrow.Author.Rules.{rules}
use Rattle.map_text.specs.WaysOut.{lower_broken, lower_short, lower_written}
use Rattle.map_text.proofs.lower_map.Goals as goal

pub returns-then-is_none : goal.returns-then-is_none
returns-then-is_none c = search (lower_broken, rules)

pub returns-then-output-text : goal.returns-then-output-text
returns-then-output-text c = search (lower_short, rules)

pub returns : goal.returns
returns c = search (lower_written, rules)
