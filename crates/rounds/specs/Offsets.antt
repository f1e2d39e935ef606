-- What the functions of this crate are asked (`AcrossAsked`).
use Rattle.std.specs.Prelude.{ℕ, ◌≤◌, ◌<◌}

pub record AcrossAsked (r offset : ℕ) : Type 0 where
  pub least : 4 ≤ r
  pub most : r ≤ 8
  pub one : offset < 2
