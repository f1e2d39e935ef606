-- What the functions of this crate are asked, and what one turn of the diffusion and the smaller functions give
-- (`ShareAsked`, `DiffuseAsked`, `PlaceAsked`). The cells lie by quarters; their size is asked of them row after row.
use Rattle.std.specs.Prelude.{◌≡◌, ◌≢◌, Bool, true, false, ◌&&◌, List, ℕ, zero, suc, ◌+◌, ◌-◌, ◌^◌, ◌≤◌, ◌<◌, ltb, eqb}
use Rattle.std.specs.Prelude.{length, get_or, set, ℤ, pos, ◌-ℤ◌, ◌≤ℤ◌}
use Rattle.definition.specs.Pyramid.{one_dot, cell_count, place_in, in_level}
use Rattle.definition.specs.Quarters.{interleaved}
use Rattle.definition.specs.Diffusion.{row_near, column_near}
use Rattle.layouts.specs.Cells.{rows_level}
use Rattle.places.specs.declared.Parts.{Parts}
use Rattle.places.specs.Parts.{parts_around}
use Rattle.pyramid.specs.PyramidPart.{Within}

-- the cells with s taken off the neighbour at place p, if its weight w isn't 0
unfoldable pub share_taken : ℕ → ℕ → ℕ → ℕ → ℕ → ℕ → List ℤ → List ℤ
share_taken r row column p w s cells =
    let x = row_near row p - 1 in
    let y = column_near column p - 1 in
    elim (eqb w 0) [
      | true ↦ cells
      | false ↦ set cells (place_in r x y) (in_level r cells x y -ℤ pos s)
    ]

-- whether a cell has a row above and below it, and a column left and right of it, on a map of power r
unfoldable pub is_inside : ℕ → ℕ → ℕ → Bool
is_inside r row column = ltb 0 row && ltb 0 column && ltb (row + 1) (2 ^ r) && ltb (column + 1) (2 ^ r)

-- of three numbers the one at place x, counted from 0
unfoldable pub one_of_three : ℕ → ℕ → ℕ → ℕ → ℕ
one_of_three zero a b c = a
one_of_three (suc zero) a b c = b
one_of_three (suc (suc n)) a b c = c

-- a cell of a map of power r
pub record CellAsked (r row column : ℕ) : Type 0 where
  pub least : 1 ≤ r
  pub most : r ≤ 8
  pub above : row < 2 ^ r
  pub left : column < 2 ^ r

-- a share to take at place p of the nine around a cell, far from overflow; the place lies on the map if its weight w
-- isn't 0
pub record ShareAsked (cells : List ℤ) (r row column p w s : ℕ) : Type 0 where
  pub cell : CellAsked r row column
  pub nine : p < 9
  pub near : w ≢ 0 → (1 ≤ row_near row p) × (row_near row p ≤ 2 ^ r)
      × (1 ≤ column_near column p) × (column_near column p ≤ 2 ^ r)
  pub fair : s ≤ 2 ^ 46
  pub whole : length cells ≡ cell_count r
  pub small : (i : ℕ) → Within (2 ^ 60) (get_or (rows_level r cells) i (pos 0))

-- d to take from the neighbours of a cell
pub record DiffuseAsked (cells : List ℤ) (r row column d : ℕ) : Type 0 where
  pub cell : CellAsked r row column
  pub whole : length cells ≡ cell_count r
  pub small : (i : ℕ) → Within (2 ^ 40) (get_or (rows_level r cells) i (pos 0))
  pub fair : d ≤ 2 ^ 41

-- a share to take at a place of the cells, far from overflow
pub record TakeAsked (cells : List ℤ) (at s : ℕ) : Type 0 where
  pub place : at < length cells
  pub small : Within (2 ^ 60) (get_or cells at (pos 0))
  pub fair : s ≤ 2 ^ 46

-- d to take from the neighbours of a cell inside the map, around which the places have these parts
pub record InsideAsked (cells : List ℤ) (p : Parts) (r row column d : ℕ) : Type 0 where
  pub asked : DiffuseAsked cells r row column d
  pub inside : is_inside r row column ≡ true
  pub parts : p ≡ parts_around (2 ^ r) row column

-- a dot to place at a cell, at its place, whose residual is at most one dot's worth
pub record PlaceAsked (cells : List ℤ) (r at row column : ℕ) : Type 0 where
  pub cell : CellAsked r row column
  pub whole : length cells ≡ cell_count r
  pub small : (i : ℕ) → Within (2 ^ 40) (get_or (rows_level r cells) i (pos 0))
  pub owed : in_level r (rows_level r cells) row column ≤ℤ pos one_dot
  pub place : at ≡ interleaved r row column
