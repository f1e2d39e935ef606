-- What the laws on texts speak of. One form for maps and sketches: a line of the side and, behind it, so many lines of
-- as many numbers as are asked for, each a byte, where they fit (`TextOf`); and that of a map (`MapOf`).
use Rattle.std.specs.Prelude.{◌≡◌, List, [], ◌∷◌, ◌++◌, length, get_or}
use Prim.Native.Nat.{ℕ, ◌*◌, ◌<◌, ◌≤◌}
use Rattle.definition.specs.Lists.{repeated}
use Rattle.definition.specs.Refusals.{power_of}
use Rattle.definition.specs.Text.{line, line_ends}
use Rattle.definition.specs.MapText.{rows_text, map_text}

-- ---- maps and sketches alike: for a side, `n side` numbers on each line
-- the bytes behind them
abbrev pub ends_by : (ℕ → ℕ) → ℕ → List ℕ
ends_by n side = repeated side (line_ends (n side))

-- a text is that of these numbers, which are bytes, and a greys buffer of `room` places has one for each cell
pub record TextOf (n : ℕ → ℕ) (text : List ℕ) (room side : ℕ) (values : List ℕ) : Type 0 where
  pub lines : text ≡ line (side ∷ []) ++ rows_text (n side) side values
  pub known : 0 < power_of side
  pub as_many : length values ≡ side * n side
  pub each_byte : (i : ℕ) → i < length values → get_or values i 0 ≤ 255
  pub enough : side * side ≤ room

-- ---- maps
-- a text is that of a map which fits a greys buffer of `room` places
pub record MapOf (text : List ℕ) (room side : ℕ) (greys : List ℕ) : Type 0 where
  pub bytes : text ≡ map_text side greys
  -- the side is one of the eight
  pub one_of_eight : 0 < power_of side
  pub count : length greys ≡ side * side
  pub small : (i : ℕ) → i < length greys → get_or greys i 0 ≤ 255
  pub fits : side * side ≤ room
