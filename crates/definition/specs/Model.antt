-- A sheet, a `Halftone` in the code, how one hole is made on it (`place_dot`), and the model of a map: its start
-- (`model_start`) and its steps (`step`, `steps`).
use Rattle.std.specs.Prelude.{true, false, List, ℕ, zero, suc, ◌*◌, get_or, set, drop, replicate, ℤ, pos, nat_abs, ◌-ℤ◌}
use Rattle.std.specs.Int.Signed.{le_z}
use Rattle.definition.specs.Pyramid.{
  one_dot,
  half_dot,
  cell_count,
  cell_number,
  start,
  place_in,
  level_of,
  in_level,
  pyramid_over,
}
use Rattle.definition.specs.Blocks.{grey_at}
use Rattle.definition.specs.Descent.{choice_of, descend}
use Rattle.definition.specs.Diffusion.{Kernel, diffuse}

-- A sheet: its pyramid, its serials, its order list, and how many holes are made, which are dots in the code (S 2.8).
-- By cell number an unburnt cell has the serial 0, and dot j has j; at place j − 1 of the order is the cell number of
-- dot j, and places that no dot uses yet have 0 (S 2.7).
pub record Halftone : Type 0 where
  pub pyramid : List ℤ
  pub serials : List ℕ
  pub order : List ℕ
  pub dots : ℕ

-- the top: the one entry of level 0 (S 2.4)
unfoldable pub top_of : List ℤ → ℤ
top_of pyramid = get_or pyramid 0 (pos 0)

-- the model's start: each cell owes 256 × its grey, the entries above are sums, no cell is burnt, and all else is 0
-- (S 3.9)
unfoldable pub model_start : ℕ → List ℕ → Halftone
model_start r greys =
    record {
      pyramid = pyramid_over r (level_of r (λ row column. pos (256 * grey_at r greys row column)));
      serials = replicate (cell_count r) 0;
      order = replicate (cell_count r) 0;
      dots = 0;
    }

-- what the cell reached lacks of one dot, if it owes w; on a sound sheet that isn't negative (S 3.4)
unfoldable pub missing : ℤ → ℕ
missing w = nat_abs (pos one_dot -ℤ w)

-- A dot at a cell: it owes nothing any more and has the next serial, and the order list has it (S 3.4); what it lacked
-- is spread over its neighbours (S 3.7), and then every entry above is again the sum of its four (S 3.8).
unfoldable pub place_dot : Kernel → ℕ → Halftone → ℕ × ℕ → Halftone
place_dot kernel r s cell =
    let row = cell.0 in
    let column = cell.1 in
    let before = drop (start r) s.pyramid in
    let d = missing (in_level r before row column) in
    let cells = diffuse kernel r row column d 9 (set before (place_in r row column) (pos 0)) in
    record {
      pyramid = pyramid_over r cells;
      serials = set s.serials (cell_number r row column) (suc s.dots);
      order = set s.order s.dots (cell_number r row column);
      dots = suc s.dots;
    }

-- One step: while the top is at least half a dot, the next dot is placed where the walk comes to by the choice of its
-- serial; below that a step changes nothing (S 3.1, S 3.2, S 3.9).
unfoldable pub step : Kernel → ℕ → Halftone → Halftone
step kernel r s =
    elim (le_z (pos half_dot) (top_of s.pyramid)) [
      | true ↦ place_dot kernel r s (descend (choice_of (suc s.dots)) s.pyramid r 0 0 0)
      | false ↦ s
    ]

-- so many steps, one after the other (S 3.9)
unfoldable pub steps : Kernel → ℕ → ℕ → Halftone → Halftone
steps kernel r zero s = s
steps kernel r (suc n) s = step kernel r (steps kernel r n s)
