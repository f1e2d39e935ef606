-- What the functions of this crate are asked (`DotAsked`, `PlaceAtAsked`, `NoteAsked`).
use Rattle.std.specs.Prelude.{ℕ, ◌^◌, ◌≤◌, ◌<◌, pos, ◌≤ℤ◌, ◌<ℤ◌}
use Rattle.definition.specs.Pyramid.{half_dot, entry}
use Rattle.definition.specs.Model.{Halftone, top_of}
use Rattle.dots.proofs.Steps.{Sheet}

-- a sheet of just the needed lengths, sound, with a dot due
pub record DotAsked (r : ℕ) (s : Halftone) : Type 0 where
  pub power : 1 ≤ r
  pub small : r ≤ 8
  pub sheet : Sheet r s
  pub due : pos half_dot ≤ℤ top_of s.pyramid

-- a sound sheet of just the needed lengths, and a cell of it that owes something
pub record PlaceAtAsked (r : ℕ) (s : Halftone) (row column : ℕ) : Type 0 where
  pub power : 1 ≤ r
  pub small : r ≤ 8
  pub sheet : Sheet r s
  pub above : row < 2 ^ r
  pub left : column < 2 ^ r
  pub due : pos 0 <ℤ entry s.pyramid r row column

-- a cell and a number that there are places for
pub record NoteAsked (serials order at dots : ℕ) : Type 0 where
  pub at_in : at < serials
  pub dots_in_lem : dots < order
  pub at_most : at < 65536
  pub dots_most : dots < 65536
