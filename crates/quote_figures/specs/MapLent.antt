-- What the functions of this crate are asked (`MapLent`, `LevelLent`).
use Rattle.std.specs.Prelude.{ℕ, ◌*◌, ◌^◌, ◌≤◌}

-- one of the eight sides, and greys for all its cells
pub record MapLent (r lent : ℕ) : Type 0 where
  pub power : 1 ≤ r
  pub powers : r ≤ 8
  pub room : 2 ^ r * 2 ^ r ≤ lent

-- and one of the levels of its map
pub record LevelLent (r k lent : ℕ) : Type 0 where
  pub power : 1 ≤ r
  pub powers : r ≤ 8
  pub level : k ≤ r
  pub room : 2 ^ r * 2 ^ r ≤ lent
