-- What the comparison asks for (`PlatesAsked`): a power that the refusals have been checked for, and two sheets that
-- are long enough.
use Rattle.std.specs.Prelude.{ℕ, ◌≤◌}
use Rattle.definition.specs.Pyramid.{cell_count}

pub record PlatesAsked (left right r : ℕ) : Type 0 where
  pub power : 1 ≤ r
  pub powers : r ≤ 8
  pub left_room : cell_count r ≤ left
  pub right_room : cell_count r ≤ right
