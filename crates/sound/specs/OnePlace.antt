-- What the tests of a sheet are asked, and the same tests of one place (`SoundAsked`, `NumberedAsked`, `CellAsked`,
-- `SummedAsked`).
use Rattle.std.specs.Prelude.{◌≡◌, Bool, true, false, cond, not, ◌&&◌, ◌||◌, List, ℕ, suc, ◌+◌, ◌*◌, ◌-◌, ◌/◌, ◌%◌, ◌^◌}
use Rattle.std.specs.Prelude.{◌≤◌, ◌<◌, leb, ltb, eqb, length, get_or, ℤ, pos, neg_ℤ}
use Rattle.std.specs.Int.Signed.{le_z}
use Rattle.definition.specs.Lists.{sum_to, all_to, eq_z}
use Rattle.definition.specs.Pyramid.{one_dot, cell_count, needed, start, entry, four}
use Rattle.definition.specs.Blocks.{burnt}
use Rattle.definition.specs.Diffusion.{row_near, column_near}
use Rattle.definition.specs.Quarters.{interleaved, quarter_entry, rows_from}
use Rattle.pyramid.specs.PyramidPart.{four_at, Within, FourAsked}

-- ════ either layout

-- a pyramid of power r that lies row after row, or by quarters, row after row
unfoldable pub in_rows : Bool → ℕ → List ℤ → List ℤ
in_rows true r pyramid = pyramid
in_rows false r pyramid = rows_from r pyramid

-- its entry (a, b) of level k
unfoldable pub entry_in : Bool → List ℤ → ℕ → ℕ → ℕ → ℤ
entry_in true pyramid k a b = entry pyramid k a b
entry_in false pyramid k a b = quarter_entry pyramid k a b

-- the place of a cell within the level of the cells is the sum of two parts: that of row a of a map of side `side`,
-- and that of column b
unfoldable pub row_place : Bool → ℕ → ℕ → ℕ
row_place true side a = a * side
row_place false side a = interleaved 8 a 0

unfoldable pub column_place : Bool → ℕ → ℕ
column_place true b = b
column_place false b = interleaved 8 0 b

-- a row of a map of side `side`
pub record LineAsked (side a : ℕ) : Type 0 where
  pub small : side ≤ 256
  pub within : a < side

-- a list of the parts of the first n columns
pub record ColumnPlaces (rows : Bool) (n : ℕ) (columns : List ℕ) : Type 0 where
  pub is : (b : ℕ) → b < n → get_or columns b 0 ≡ column_place rows b

-- ════ serials and order

-- parts of just the lengths that a map of power r needs
pub record SoundAsked (r pyramid serials order : ℕ) : Type 0 where
  pub some : 1 ≤ r
  pub most : r ≤ 8
  pub whole : pyramid ≡ needed r
  pub cells : serials ≡ cell_count r
  pub places : order ≡ cell_count r

-- a part with a place for each cell
pub record CellsAsked (r part : ℕ) : Type 0 where
  pub most : r ≤ 8
  pub cells : part ≡ cell_count r

-- serials and order, and dots of which each has its order place
pub record NumberedAsked (r serials order dots : ℕ) : Type 0 where
  pub most : r ≤ 8
  pub cells : serials ≡ cell_count r
  pub places : order ≡ cell_count r
  pub few : dots ≤ cell_count r

-- order place i names a cell, and the serial there is the next after i
abbrev pub next_at : ℕ → List ℕ → List ℕ → ℕ → Bool
next_at cells serials order i = ltb (get_or order i 0) cells && eqb (get_or serials (get_or order i 0) 0) (suc i)

pub record NextAsked (cells serials order i : ℕ) : Type 0 where
  pub cell : cells ≤ serials
  pub place : i < order

-- a place of the order list is used, or 0
abbrev pub free_at : ℕ → List ℕ → ℕ → Bool
free_at dots order i = ltb i dots || eqb (get_or order i 0) 0

-- ════ cells

-- a pyramid and serials
pub record GridAsked (r pyramid serials : ℕ) : Type 0 where
  pub most : r ≤ 8
  pub whole : pyramid ≡ needed r
  pub cells : serials ≡ cell_count r

-- a residual is at most one dot, and at most 0 if the cell is burnt
abbrev pub bounded_cell : ℤ → ℕ → Bool
bounded_cell residual serial = le_z residual (pos one_dot) && (eqb (burnt serial) 0 || le_z residual (pos 0))

-- so for cell i, whose residual is at place `at`
abbrev pub bounded_at : List ℤ → List ℕ → ℕ → ℕ → Bool
bounded_at pyramid serials at i = bounded_cell (get_or pyramid at (pos 0)) (get_or serials i 0)

pub record CellAsked (at pyramid serials i : ℕ) : Type 0 where
  pub residual : at < pyramid
  pub serial : i < serials

-- a row or column counted from one before the map lies on a map of side `side`
abbrev pub on_side : ℕ → ℕ → Bool
on_side side x = leb 1 x && leb x side

-- place p of the nine around a cell is another cell, on the map; and 1 if it is burnt too
abbrev pub is_neighbour : ℕ → ℕ → ℕ → ℕ → Bool
is_neighbour side row column p = not (eqb p 4) && (on_side side (row_near row p) && on_side side (column_near column p))

abbrev pub burnt_there : ℕ → List ℕ → ℕ → ℕ → ℕ → ℕ
burnt_there side serials row column p =
    burnt (get_or serials ((row_near row p - 1) * side + (column_near column p - 1)) 0)

abbrev pub near_at : ℕ → List ℕ → ℕ → ℕ → ℕ → ℕ
near_at side serials row column p = cond (is_neighbour side row column p) (burnt_there side serials row column p) 0

-- a cell of a map of side `side`
pub record NearAsked (side serials row column : ℕ) : Type 0 where
  pub small : side ≤ 256
  pub cells : serials ≡ side * side
  pub down : row < side
  pub across : column < side

-- row x and column y, so counted, lie on the map
pub record NearPlace (side serials x y : ℕ) : Type 0 where
  pub down : 1 ≤ x
  pub across : 1 ≤ y
  pub inside : (x - 1) * side + (y - 1) < serials
  pub few : serials ≤ 65536

-- a residual is at least −65,280 for each burnt neighbour
abbrev pub owing_cell : ℤ → ℕ → Bool
owing_cell residual near = le_z (neg_ℤ (pos (one_dot * near))) residual

abbrev pub owing_at : ℕ → List ℤ → List ℕ → ℕ → ℕ → ℕ → Bool
owing_at side pyramid serials at row column =
    owing_cell (get_or pyramid at (pos 0)) (sum_to 9 (near_at side serials row column))

pub record OwingAsked (side at pyramid serials row column : ℕ) : Type 0 where
  pub small : side ≤ 256
  pub cells : serials ≡ side * side
  pub residual : at < pyramid
  pub down : row < side
  pub across : column < side

-- both bounds hold of a cell, whose residual is at place `at`; then of one whose residual is at its column's part from
-- place `first` on; and of each such cell of a row
unfoldable pub held_at : ℕ → List ℤ → List ℕ → ℕ → ℕ → ℕ → Bool
held_at side pyramid serials at row column =
    bounded_at pyramid serials at (row * side + column) && owing_at side pyramid serials at row column

abbrev pub held_in : ℕ → ℕ → List ℕ → List ℤ → List ℕ → ℕ → ℕ → Bool
held_in side first columns pyramid serials row column =
    held_at side pyramid serials (first + get_or columns column 0) row column

unfoldable pub row_held : ℕ → ℕ → List ℕ → List ℤ → List ℕ → ℕ → Bool
row_held side first columns pyramid serials row = all_to side (held_in side first columns pyramid serials row)

-- the same of a row of a map whose cells begin at place `off`
abbrev pub held_row : Bool → ℕ → ℕ → List ℕ → List ℤ → List ℕ → ℕ → Bool
held_row rows side off columns pyramid serials row =
    row_held side (off + row_place rows side row) columns pyramid serials row

pub record RowAsked (side first : ℕ) (columns : List ℕ) (pyramid serials row : ℕ) : Type 0 where
  pub small : side ≤ 256
  pub cells : serials ≡ side * side
  pub down : row < side
  pub few : pyramid ≤ 2 ^ 20
  pub residuals : (b : ℕ) → b < side → first + get_or columns b 0 < pyramid

-- ════ sums

-- the entry at place `at` is the sum of the four from place `top` on, in rows of `wide`
abbrev pub sum_holds : List ℤ → ℕ → ℕ → ℕ → Bool
sum_holds pyramid at top wide = eq_z (get_or pyramid at (pos 0)) (four_at pyramid top wide)

pub record SumAsked (pyramid : List ℤ) (at top wide : ℕ) : Type 0 where
  pub room : at < length pyramid
  pub below : FourAsked pyramid top wide

-- row after row, where the four below place i of a level of side `side` begin, the next finer level beginning at `next`
abbrev pub below_place : ℕ → ℕ → ℕ → ℕ
below_place next side i = next + (2 * (i / side) * (2 * side) + 2 * (i % side))

-- place i of a level of side `side` that begins at `off`: row after row, and in either layout
abbrev pub row_sum_at : List ℤ → ℕ → ℕ → ℕ → ℕ → Bool
row_sum_at pyramid off next side i = sum_holds pyramid (off + i) (below_place next side i) (2 * side)

unfoldable pub sum_at : Bool → List ℤ → ℕ → ℕ → ℕ → ℕ → Bool
sum_at true pyramid off next side i = row_sum_at pyramid off next side i
sum_at false pyramid off next side i = sum_holds pyramid (off + i) (next + 4 * i) 2

-- so for every entry of level k
abbrev pub level_summed : Bool → List ℤ → ℕ → ℕ → ℕ → Bool
level_summed rows pyramid k a b = eq_z (entry_in rows pyramid k a b) (four (entry_in rows pyramid (suc k)) a b)

-- a level of side `side`, and the next finer one, far from overflow
pub record SidesAsked (pyramid : List ℤ) (off next side : ℕ) : Type 0 where
  pub some : 0 < side
  pub most : side ≤ 128
  pub room : off + side * side ≤ next
  pub whole : next + 2 * side * (2 * side) ≤ length pyramid
  pub low : next ≤ 87381
  pub small : (i : ℕ) → i < 2 * side * (2 * side) → Within (2 ^ 60) (get_or pyramid (next + i) (pos 0))

-- the same of level k
pub record LevelAsked (pyramid : List ℤ) (k : ℕ) : Type 0 where
  pub most : k ≤ 7
  pub whole : start (k + 2) ≤ length pyramid
  pub small : (i : ℕ) → i < 2 ^ (k + 1) * 2 ^ (k + 1) → Within (2 ^ 60) (get_or pyramid (start (k + 1) + i) (pos 0))

-- a pyramid of just the needed length, whose cells are small
pub record SummedAsked (rows : Bool) (pyramid : List ℤ) (r : ℕ) : Type 0 where
  pub most : r ≤ 8
  pub whole : length pyramid ≡ needed r
  pub small : (x y : ℕ) → x < 2 ^ r → y < 2 ^ r → Within (2 ^ 20) (entry_in rows pyramid r x y)
