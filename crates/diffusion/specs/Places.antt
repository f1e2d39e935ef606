-- Places of a map: where a cell lies among the cells by quarters (`place_in_lem`, `read_there`, `stored_there`), and
-- that the numbers on the way to it are small.
use Rattle.std.specs.Prelude.{◌≡◌, List, ℕ, ◌*◌, ◌^◌, ◌≤◌, ◌<◌, length, get_or, set, ℤ, pos}
use Rattle.std.proofs.Common.{sym, ap, ◌∙◌, arith, pow_mono, Fits}
use Rattle.std.specs.Int.{w64}
use Rattle.definition.specs.Pyramid.{cell_count, place_in, in_level}
use Rattle.definition.specs.Quarters.{interleaved}
use Rattle.quadtree.specs.Levels.{cells_few}
use Rattle.layouts.specs.Interleaved.{interleaved_lt}
use Rattle.layouts.specs.Cells.{rows_level, rows_in, rows_set}

pub side_small_lem : (r : ℕ) → r ≤ 8 → 2 ^ r ≤ 256
side_small_lem r h = pow_mono {i = r} {j = 8} h

-- a place of a map
module _ (r x y at : ℕ) (e : at ≡ interleaved r x y) where
  pub place_in_lem : {size : ℕ} → size ≡ cell_count r → at < size
  place_in_lem l = omega (arith, interleaved_lt r x y)

  pub bytes_fit : r ≤ 8 → Fits w64 (at * 8)
  bytes_fit most = record { fits = omega (arith, interleaved_lt r x y, cells_few r most) }

  -- what is read and stored there is read and stored row after row
  module _ (cells : List ℤ) (a : x < 2 ^ r) (b : y < 2 ^ r) where
    pub read_there : in_level r (rows_level r cells) x y ≡ get_or cells at (pos 0)
    read_there = rows_in r cells x y a b ∙ ap (λ (i : ℕ). get_or cells i (pos 0)) (sym e)

    pub stored_there : length cells ≡ cell_count r → (v : ℤ)
        → rows_level r (set cells at v) ≡ set (rows_level r cells) (place_in r x y) v
    stored_there long v = ap (λ (i : ℕ). rows_level r (set cells i v)) e ∙ rows_set r cells x y v long a b
