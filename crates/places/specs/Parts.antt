-- The parts of places: a place is the sum of its row's part and its column's (`place_parts`); and the parts around a
-- cell (`parts_are`).
use Rattle.std.specs.Prelude.{◌≡◌, refl, List, ℕ, zero, suc, ◌+◌, ◌-◌, ◌/◌, ◌≤◌, ◌<◌, get_or, min}
use Rattle.std.proofs.Common.{arith}
use Rattle.definition.specs.Quarters.{interleaved}
use Rattle.places.specs.declared.Parts.{Parts}

-- a place from its two parts
pub place_parts : (k a b : ℕ) → interleaved k a b ≡ interleaved k a 0 + interleaved k 0 b
unfolding interleaved
place_parts zero a b = refl
place_parts (suc k) a b = omega (arith, place_parts k (a / 2) (b / 2))

-- a list of the columns' parts in the places of the cells of a map of side `side`
pub record ColumnParts (side : ℕ) (columns : List ℕ) : Type 0 where
  pub is : (b : ℕ) → b < side → get_or columns b 0 ≡ interleaved 8 0 b

-- the parts around cell (row, column) of a map of side `side`, and what is asked for them
unfoldable pub parts_around : ℕ → ℕ → ℕ → Parts
parts_around side row column =
    record {
      above = interleaved 8 (row - 1) 0;
      row = interleaved 8 row 0;
      below = interleaved 8 (min (row + 1) (side - 1)) 0;
      left = interleaved 8 0 (column - 1);
      column = interleaved 8 0 column;
      right = interleaved 8 0 (min (column + 1) (side - 1));
    }

pub record AroundAsked (side row column : ℕ) : Type 0 where
  pub most : side ≤ 256
  pub above : row < side
  pub left : column < side

-- the parts as the code gathers them
pub parts_are : (side row column : ℕ) {x y u v above here below left middle right : ℕ}
    → x ≡ row - 1 → y ≡ min (row + 1) (side - 1) → u ≡ column - 1 → v ≡ min (column + 1) (side - 1)
    → above ≡ interleaved 8 x 0 → here ≡ interleaved 8 row 0 → below ≡ interleaved 8 y 0
    → left ≡ interleaved 8 0 u → middle ≡ interleaved 8 0 column → right ≡ interleaved 8 0 v
    → record { above = above; row = here; below = below; left = left; column = middle; right = right }
    ≡ parts_around side row column
unfolding parts_around
parts_are side row column ex ey eu ev ea eh eb el em er = rw (ea, eh, eb, el, em, er, ex, ey, eu, ev)
