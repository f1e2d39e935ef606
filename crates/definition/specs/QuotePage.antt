-- The call Quote Page: `quote_page_of`, for every side and level and all lists lent; `quote_text` is the page,
-- `quote_cap` the cap of a square, and `aligned_line` a line of figures in columns.
use Rattle.std.specs.Prelude.{List, [], ◌∷◌, ◌++◌, ℕ, ◌+◌, ◌*◌, ◌/◌, ◌^◌, min, length}
use Rattle.definition.specs.Lists.{joined}
use Rattle.definition.specs.Blocks.{block_side, grey_sum, dots_in}
use Rattle.definition.specs.Refusals.{
  power_of,
  side_unknown,
  greys_short,
  sheet_short,
  level_unknown,
  output_short,
  lowest,
}
use Rattle.definition.specs.Text.{newline, space, right_aligned, TextOutcome, text_into}

-- the cap of a square with this side and this grey sum (S 8.3)
unfoldable pub quote_cap : ℕ → ℕ → ℕ
quote_cap s grey = min (s * s) ((3 * grey + 764 + 1020 * s) / 765)

-- a width, and the number printed in it
abbrev pub Figure : Type 0
Figure = ℕ × ℕ

-- the columns of the page and their widths: row, column, grey sum, dots and cap (S 8.4)
abbrev pub columns : ℕ → ℕ → ℕ → ℕ → ℕ → List Figure
columns a b grey dots cap = (3, a) ∷ (3, b) ∷ (8, grey) ∷ (5, dots) ∷ (5, cap) ∷ []

-- those of an aligned square
unfoldable pub figures : ℕ → List ℕ → List ℕ → ℕ → ℕ → ℕ → List Figure
figures r greys serials k a b =
    let grey = grey_sum r greys k a b in columns a b grey (dots_in r serials k a b) (quote_cap (block_side r k) grey)

-- each figure right aligned in its width, with one space between two, and byte 10 behind the last (S 6.5)
unfoldable pub aligned_line : List Figure → List ℕ
aligned_line [] = newline ∷ []
aligned_line ((width, n) ∷ []) = right_aligned width n ++ newline ∷ []
aligned_line ((width, n) ∷ next ∷ rest) = right_aligned width n ++ space ∷ aligned_line (next ∷ rest)

-- the line of a square (S 8.4)
abbrev pub quote_line : ℕ → List ℕ → List ℕ → ℕ → ℕ → ℕ → List ℕ
quote_line r greys serials k a b = aligned_line (figures r greys serials k a b)

-- the line of each aligned square of the level, by row then column (S 8.4)
unfoldable pub quote_text : ℕ → List ℕ → List ℕ → ℕ → List ℕ
quote_text r greys serials k = joined (2 ^ k) (λ a. joined (2 ^ k) (quote_line r greys serials k a))

-- its checks, 1, 2, 4, 6, 8, from the side's power, the lengths lent, the level and the page's length (S 5.2)
unfoldable pub quote_page_refusal : ℕ → ℕ → ℕ → ℕ → ℕ → ℕ → ℕ
quote_page_refusal r greys serials k page output =
    lowest (side_unknown r ∷ greys_short r greys ∷ sheet_short r serials ∷ level_unknown r k ∷ output_short page output
    ∷ [])

-- the whole call: the page in the output, and its length for an answer (S 8.4, S 6.6)
unfoldable pub quote_page_of : ℕ → List ℕ → List ℕ → ℕ → List ℕ → TextOutcome
quote_page_of side greys serials k output =
    let r = power_of side in
    let page = quote_text r greys serials k in
    text_into (quote_page_refusal r (length greys) (length serials) k (length page) (length output)) page output
