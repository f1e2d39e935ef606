-- The call Sketch Quote: what a rough sketch of a map comes to. `sketch_text` is the text of one, which has a pair of
-- numbers for each cell, a low and a high grey; `sketch_quote_of` is what the call answers and leaves in its buffers,
-- for every text and all lists lent.
use Rattle.std.specs.Prelude.{Bool, true, ◌&&◌, List, [], ◌∷◌, ◌++◌, ℕ, zero, suc, ◌*◌, ◌/◌, ◌%◌, ◌^◌, min, leb, length}
use Rattle.std.specs.Prelude.{drop}
use Rattle.definition.specs.Lists.{tabulate, repeated}
use Rattle.definition.specs.Answers.{Said, returned, refused}
use Rattle.definition.specs.Blocks.{block_side, grey_sum, grey_total, total_of}
use Rattle.definition.specs.Lowering.{none_high}
use Rattle.definition.specs.Refusals.{power_of, grey_high, pair_falls, level_unknown, output_short, lowest}
use Rattle.definition.specs.Text.{line, line_ends}
use Rattle.definition.specs.MapText.{rows_text, accepted, rejected, read_text}
use Rattle.definition.specs.QuotePage.{quote_cap}

-- ---- the text: the side, then N lines of N pairs, which are 2 N numbers
-- the numbers of the pairs: each low with the high of its cell behind it (S 6.3)
unfoldable pub paired : List ℕ → List ℕ → List ℕ
paired [] highs = []
paired (low ∷ lows) [] = []
paired (low ∷ lows) (high ∷ highs) = low ∷ high ∷ paired lows highs

-- the one text of a side, lows and highs (S 6.3)
unfoldable pub sketch_text : ℕ → List ℕ → List ℕ → List ℕ
sketch_text side lows highs = line (side ∷ []) ++ rows_text (2 * side) side (paired lows highs)

-- the bytes behind these numbers (S 6.3)
abbrev pub sketch_ends : ℕ → List ℕ
sketch_ends side = repeated side (line_ends (2 * side))

-- ---- the numbers that were read, taken apart again, the lows by row and the highs by row
-- and so they are written to their buffers (S 9.4)
unfoldable pub lows_of : List ℕ → List ℕ
lows_of [] = []
lows_of (low ∷ []) = []
lows_of (low ∷ high ∷ pairs) = low ∷ lows_of pairs

unfoldable pub highs_of : List ℕ → List ℕ
highs_of [] = []
highs_of (low ∷ []) = []
highs_of (low ∷ high ∷ pairs) = high ∷ highs_of pairs

-- no low is above its high (S 9.4)
unfoldable pub pairs_rise : List ℕ → Bool
pairs_rise [] = true
pairs_rise (low ∷ []) = true
pairs_rise (low ∷ high ∷ pairs) = leb low high && pairs_rise pairs

-- ---- the figures
-- the quote page's cap with the high greys, of each aligned square of level k, by row then column (S 9.4, S 8.3)
unfoldable pub caps_of : ℕ → List ℕ → ℕ → List ℕ
caps_of r highs k =
    tabulate (2 ^ k * 2 ^ k) (λ i. quote_cap (block_side r k) (grey_sum r highs k (i / 2 ^ k) (i % 2 ^ k)))

-- ---- the call
-- what is said, and the three buffers afterwards
pub record SketchOutcome : Type 0 where
  pub said : Said
  pub lows : List ℕ
  pub highs : List ℕ
  pub caps : List ℕ

-- refused: nothing is written (S 5.1)
unfoldable pub sketch_kept : ℕ → List ℕ → List ℕ → List ℕ → SketchOutcome
sketch_kept n lows highs caps = record { said = refused n; lows = lows; highs = highs; caps = caps }

-- lows, highs and caps stand in front of what the buffers had behind them; the answer has the side and both totals
-- (S 9.4, S 2.9)
unfoldable pub sketch_quoted : ℕ → List ℕ → ℕ → List ℕ → List ℕ → List ℕ → SketchOutcome
sketch_quoted side pairs k lows highs caps =
    let r = power_of side in
    let low = lows_of pairs in
    let high = highs_of pairs in
    record {
      said = returned (side ∷ total_of (grey_total r low) ∷ total_of (grey_total r high) ∷ []);
      lows = low ++ drop (length low) lows;
      highs = high ++ drop (length high) highs;
      caps = caps_of r high k ++ drop (2 ^ k * 2 ^ k) caps;
    }

-- what comes after the grammar: 12, 13, then 6 for the level, then 8 for a buffer with room for so many caps (S 5.2,
-- S 9.4)
unfoldable pub sketch_refusal : ℕ → List ℕ → ℕ → ℕ → ℕ
sketch_refusal r pairs k room =
    lowest
    (grey_high (none_high pairs) ∷ pair_falls (pairs_rise pairs) ∷ level_unknown r k ∷ output_short (2 ^ k * 2 ^ k) room
    ∷ [])

-- The text is read as a map's is, 7, 1, 2, 7, where 2 is for either greys buffer, so for the shorter one (S 6.4,
-- S 9.4).
unfoldable pub sketch_quote_of : List ℕ → ℕ → List ℕ → List ℕ → List ℕ → SketchOutcome
sketch_quote_of text k lows highs caps =
    elim (read_text sketch_ends text (min (length lows) (length highs))) [
      | rejected n ↦ sketch_kept n lows highs caps
      | accepted side pairs ↦
          elim (sketch_refusal (power_of side) pairs k (length caps)) [
            | zero ↦ sketch_quoted side pairs k lows highs caps
            | suc n ↦ sketch_kept (suc n) lows highs caps
          ]
    ]
