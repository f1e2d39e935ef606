-- What the functions of this crate are asked, and what they are told in terms of a part of a pyramid (`Within`,
-- `Whole`, `SmallPyramid`, `FillAsked`).
use Rattle.std.specs.Prelude.{◌≡◌, List, ℕ, ◌+◌, ◌*◌, ◌^◌, ◌≤◌, ◌<◌, length, get_or, ℤ, pos, neg_ℤ, ◌+ℤ◌, ◌≤ℤ◌}
use Rattle.definition.specs.Pyramid.{cell_count, needed, start, level_of, pyramid_over}
use Rattle.definition.specs.Blocks.{grey_at}
use Rattle.definition.specs.Quarters.{interleaved}
use Rattle.layouts.specs.Filling.{Filling}
use Rattle.places.specs.Parts.{ColumnParts}

-- the residual of a cell at the start, by its number and by its row and column, and the pyramid that a map starts with,
-- row after row
abbrev pub residual_of : List ℕ → ℕ → ℤ
residual_of greys i = pos (256 * get_or greys i 0)

abbrev pub residual_at : ℕ → List ℕ → ℕ → ℕ → ℤ
residual_at r greys row column = pos (256 * grey_at r greys row column)

unfoldable pub fresh_pyramid : ℕ → List ℕ → List ℤ
fresh_pyramid r greys = pyramid_over r (level_of r (residual_at r greys))

-- the sum of the four entries from place `top` on, in rows of `wide`
unfoldable pub four_at : List ℤ → ℕ → ℕ → ℤ
four_at part top wide =
    get_or part top (pos 0) +ℤ get_or part (top + 1) (pos 0)
    +ℤ get_or part (top + wide) (pos 0) +ℤ get_or part (top + wide + 1) (pos 0)

-- an integer from −bound to bound
pub record Within (bound : ℕ) (z : ℤ) : Type 0 where
  pub low : neg_ℤ (pos bound) ≤ℤ z
  pub high : z ≤ℤ pos bound

-- four entries in the part, far from overflow
pub record FourAsked (part : List ℤ) (top wide : ℕ) : Type 0 where
  pub room : top + wide + 1 < length part
  pub first : Within (2 ^ 60) (get_or part top (pos 0))
  pub second : Within (2 ^ 60) (get_or part (top + 1) (pos 0))
  pub third : Within (2 ^ 60) (get_or part (top + wide) (pos 0))
  pub fourth : Within (2 ^ 60) (get_or part (top + wide + 1) (pos 0))

-- a level of `size` entries, and after it the next finer one
pub record SumsAsked (part : List ℤ) (size : ℕ) : Type 0 where
  pub some : 0 < size
  pub most : size ≤ 16384
  pub whole : length part ≡ size + 4 * size
  pub small : (i : ℕ) → Within (2 ^ 60) (get_or part (size + i) (pos 0))

-- a whole pyramid of power k
pub record Whole (part : List ℤ) (k : ℕ) : Type 0 where
  pub most : k ≤ 8
  pub long : length part ≡ start (k + 1)

-- its cells are so small that no sum over them overflows
pub record SmallCells (part : List ℤ) (k : ℕ) : Type 0 where
  pub bound : ℕ
  pub small : (i : ℕ) → Within bound (get_or part (start k + i) (pos 0))
  pub room : bound * (2 ^ k * 2 ^ k) ≤ 2 ^ 60

-- all its entries are far from overflow, as the renewal asks of them (S 12.3)
pub record SmallPyramid (pyramid : List ℤ) : Type 0 where
  pub small : (i : ℕ) → Within (2 ^ 40) (get_or pyramid i (pos 0))

-- a part of just as many places as there are cells, and greys enough
pub record CellsAsked (part : List ℤ) (greys r : ℕ) : Type 0 where
  pub most : r ≤ 8
  pub whole : length part ≡ cell_count r
  pub enough : cell_count r ≤ greys

-- the lengths `part` and `greys` of the same, the columns' parts in the places of cells, and a row whose part is
-- `first`
pub record RowAsked (part : ℕ) (columns : List ℕ) (greys first row r : ℕ) : Type 0 where
  pub most : r ≤ 8
  pub whole : part ≡ cell_count r
  pub enough : cell_count r ≤ greys
  pub across : ColumnParts (2 ^ r) columns
  pub begins : first ≡ interleaved 8 row 0
  pub down : row < 2 ^ r

-- the cells of level r from number i to j filled: a level whose first i cells have got their residuals, whatever it was
-- before they did, now has the first j so
pub record MoreFilled (r : ℕ) (greys : List ℕ) (i j : ℕ) (before after : List ℤ) : Type 0 where
  pub long : length after ≡ cell_count r
  pub more : (first : List ℤ) → Filling r (residual_of greys) first i before
      → Filling r (residual_of greys) first j after

-- a pyramid of just the needed length, and greys enough
pub record FillAsked (part : List ℤ) (greys r : ℕ) : Type 0 where
  pub most : r ≤ 8
  pub whole : length part ≡ needed r
  pub enough : cell_count r ≤ greys
