-- `map_text::put_map`.
use native.Mathlib.Omega.{arith}
use borrow.Author.Rules.{rules}
use Rattle.decimals.specs.Writing.{field_end}
use Rattle.map_text.specs.Written.{map_wrote}
use Rattle.map_text.proofs.put_map.Goals as goal

pub put_greys-requires : goal.put_greys-requires
put_greys-requires c = (
  omega (arith, field_end _ (omega arith) _ c.put_field-at.ensures),
  search rules,
)

pub returns : goal.returns
returns c =
    search (map_wrote, rules)
