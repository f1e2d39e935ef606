-- The texts that Map Text takes: those of the grammar that have no grey above 240 (`LowMapOf`).
use Rattle.std.specs.Prelude.{List, ℕ, ◌<◌, ◌≤◌, length, get_or}
use Rattle.grammar.specs.Grammar.{MapOf}

-- a text is that of a map which fits a greys buffer of `room` places, and no grey of it is above 240
pub record LowMapOf (text : List ℕ) (room side : ℕ) (greys : List ℕ) : Type 0 where
  pub map : MapOf text room side greys
  pub low : (i : ℕ) → i < length greys → get_or greys i 0 ≤ 240
