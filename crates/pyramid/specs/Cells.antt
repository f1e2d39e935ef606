-- The cells filled from the greys, row after row (`one_more`, `all_rows`).
use Rattle.std.specs.Prelude.{◌≡◌, List, ℕ, ◌+◌, ◌*◌, ◌/◌, ◌%◌, ◌^◌, ◌≤◌, ◌<◌, length, get_or, set, ℤ, pos}
use Rattle.std.proofs.Math.Path.{refl, sym}
use Rattle.std.proofs.Common.{ap₂, ◌∙◌, arith, length-set, pow_mono, Fits, to_z, of_z}
use Rattle.std.proofs.Math.Nat.{mul-le-mul_right}
use Rattle.std.specs.Int.Signed.{mag}
use Rattle.std.specs.Int.{w64}
use Rattle.definition.specs.Pyramid.{cell_count, place_in, row_at, column_at}
use Rattle.definition.specs.Blocks.{grey_at}
use Rattle.definition.specs.Quarters.{interleaved, quarter_level}
use Rattle.integers.specs.Machine.{back64}
use Rattle.quadtree.specs.Levels.{cell_lt, cells_few, row_place_lem, column_place_lem}
use Rattle.layouts.specs.Filling.{Filling, none_filled, one_filled, all_filled, place_in_lem}
use Rattle.layouts.specs.Interleaved.{interleaved_lt}
use Rattle.places.specs.Parts.{place_parts}
use Rattle.places.specs.Parts.{ColumnParts}
use Rattle.pyramid.specs.PyramidPart.{residual_of, residual_at, RowAsked, MoreFilled, CellsAsked}

-- ---- `side` is what the code has worked out
pub side_few : {r side : ℕ} → r ≤ 8 → side ≡ 2 ^ r → side ≤ 256
side_few {r} h e = rw e (pow_mono {i = r} {j = 8} h)

pub line_few : {r side a : ℕ} → r ≤ 8 → side ≡ 2 ^ r → a < side → a < 256
line_few h e lt = omega (arith, side_few h e)

pub below_side : {n side a : ℕ} → side ≡ n → a < n → a < side
below_side e lt = omega arith

-- ---- a cell of a row
module _ {part : ℕ} {columns : List ℕ} {greys first row r side : ℕ} (h : RowAsked part columns greys first row r)
    (es : side ≡ 2 ^ r) where
  -- the number of any cell
  number_lt : {a b : ℕ} → a < side → b < side → a * side + b < cell_count r
  number_lt {a} {b} p q = omega (arith, cell_lt side a b p q, ap₂ ◌*◌ es es)

  pub number_in : {a b : ℕ} → a < side → b < side → a * side + b < greys
  number_in p q = omega (arith, h.enough, number_lt p q)

  pub number_fits : {a b : ℕ} → a < side → b < side → Fits w64 (a * side + b)
  number_fits p q = omega (arith, cells_few r h.most, number_lt p q)

  pub line_fits : {a : ℕ} → a < side → Fits w64 (a * side)
  line_fits p = omega (arith, number_fits p p)

  -- the one in this column
  module _ {column : ℕ} (lt : column < side) where
    across : column < 2 ^ r
    across = omega (arith, es)

    pub column_few : column < 256
    column_few = line_few h.most es lt

    place_is : first + get_or columns column 0 ≡ interleaved 8 row column
    place_is = rw (h.begins, h.across.is column across) (sym (place_parts 8 row column))

    pub place_fits : Fits w64 (first + get_or columns column 0)
    place_fits = omega (arith, place_is, interleaved_lt 8 row column)

    pub place_scaled : Fits w64 ((first + get_or columns column 0) * 8)
    place_scaled = omega (arith, place_is, interleaved_lt 8 row column)

    pub place_there : {long : ℕ} → long ≡ cell_count r → first + get_or columns column 0 < long
    place_there e = place_in_lem r h.most e row column place_is h.down across

    -- the place by the cell's number
    place_of : first + get_or columns column 0
        ≡ interleaved 8 ((row * side + column) / side) ((row * side + column) % side)
    place_of =
        place_is
        ∙ rw es
        (unfold place_in row_at column_at in
        sym (ap₂ (interleaved 8) (row_place_lem r row column across) (column_place_lem r row column across)))

    -- one more, z being a word of the machine
    pub one_more : (grey : List ℕ) {before now : List ℤ}
        → MoreFilled r grey (row * side) (row * side + column) before now
        → {z : ℤ} → mag z < 2 ^ 63 → z ≡ pos (256 * get_or grey (row * side + column) 0)
        → MoreFilled r grey (row * side) (row * side + (column + 1)) before
        (set now (first + get_or columns column 0) (to_z w64 (of_z w64 z)))
    one_more grey {before} {now} done {z} fits ez =
        record {
          long = length-set now _ _ ∙ done.long;
          more = λ level d.
              rw next
              (one_filled r h.most es refl _ inside (residual_of grey) level now (done.more level d) place_of
              (back64 z fits ∙ ez));
        }
      where
        next : row * side + (column + 1) ≡ row * side + column + 1
        next = omega arith

        inside : row * side + column < cell_count r
        inside = number_lt (below_side es h.down) lt

-- ---- a row: none of its cells yet, and all of them
pub row_none : (greys : List ℕ) {r i : ℕ} {part : List ℤ} → length part ≡ cell_count r
    → MoreFilled r greys i (i + 0) part part
row_none greys {i = i} e = record { long = e; more = λ level d. let z : i + 0 ≡ i = omega arith in rw z d }

pub row_done : (greys : List ℕ) (row : ℕ) {r side column : ℕ} {before now : List ℤ}
    → side ≡ 2 ^ r → column ≤ side → side ≤ column
    → MoreFilled r greys (row * side) (row * side + column) before now
    → MoreFilled r greys (row * 2 ^ r) (row * 2 ^ r + 2 ^ r) before now
row_done greys row {side = side} {column = column} es p q done =
    let e : column ≡ side = omega arith in
    rw (e, es) at done

-- ---- row after row; `part` is the level as it was
pub rows_none : (greys : List ℕ) {r : ℕ} (side : ℕ) {part : List ℤ} → length part ≡ cell_count r
    → Filling r (residual_of greys) part (0 * side) part
rows_none greys {r} side {part} e =
    let z : 0 * side ≡ 0 = omega arith in
    rw z (none_filled r (residual_of greys) part e)

module _ {r side : ℕ} (es : side ≡ 2 ^ r) where
  pub row_asked : {part : List ℤ} {columns : List ℕ} {long greys first row : ℕ} → CellsAsked part greys r
      → long ≡ cell_count r → ColumnParts side columns → first ≡ interleaved 8 row 0 → row < side
      → RowAsked long columns greys first row r
  row_asked h e columns begins lt =
      record {
        most = h.most;
        whole = e;
        enough = h.enough;
        across = rw es at columns;
        begins = begins;
        down = rw es at lt;
      }

  module _ (greys : List ℕ) (row : ℕ) {part before : List ℤ}
      (done : Filling r (residual_of greys) part (row * side) before) where
    pub all_rows : side ≤ row → before ≡ quarter_level r (residual_at r greys)
    unfolding grey_at place_in
    all_rows ge =
        all_filled r refl (residual_of greys) part before (row * side) done
        (rw es (omega (arith, mul-le-mul_right (2 ^ r) (rw es at ge))))
