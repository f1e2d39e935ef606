-- The program `sketch`: `sketch_of` is what it prints for an input, a line with a level and then a sketch;
-- `sketch_page` is the page.
use Rattle.std.specs.Prelude.{List, [], ◌∷◌, ◌++◌, ℕ, zero, suc, ◌*◌, ◌/◌, ◌%◌, ◌^◌, get_or}
use Rattle.definition.specs.Lists.{joined}
use Rattle.definition.specs.Blocks.{grey_total, total_of}
use Rattle.definition.specs.Refusals.{power_of}
use Rattle.definition.specs.MapText.{accepted, rejected, read_text}
use Rattle.definition.specs.QuotePage.{aligned_line}
use Rattle.definition.specs.SketchQuote.{sketch_ends, lows_of, highs_of, caps_of, sketch_refusal}
use Rattle.definition.specs.Plate.{refused_text}
use Rattle.definition.specs.Quote.{behind_level}

-- the square with number i of level k, by row then column: its row and column (3 places each) and its cap (5) (S 14.5)
unfoldable pub cap_line : ℕ → List ℕ → ℕ → List ℕ
cap_line k caps i = aligned_line ((3, i / 2 ^ k) ∷ (3, i % 2 ^ k) ∷ (5, get_or caps i 0) ∷ [])

-- a line with the least and the greatest total (5 places each), then the line of each square (S 14.5)
unfoldable pub sketch_page : ℕ → ℕ → ℕ → List ℕ → List ℕ
sketch_page k least greatest caps =
    aligned_line ((5, least) ∷ (5, greatest) ∷ []) ++ joined (2 ^ k * 2 ^ k) (cap_line k caps)

-- the sketch is read with room for 1,024 lows, highs and caps, so up to side 32 (S 14.5)
unfoldable pub sketch_of_text : ℕ → List ℕ → List ℕ
sketch_of_text level text =
    elim (read_text sketch_ends text 1024) [
      | rejected n ↦ refused_text n
      | accepted side pairs ↦
          let r = power_of side in
          elim (sketch_refusal r pairs level 1024) [
            | zero ↦
                sketch_page level (total_of (grey_total r (lows_of pairs))) (total_of (grey_total r (highs_of pairs)))
                (caps_of r (highs_of pairs) level)
            | suc n ↦ refused_text (suc n)
          ]
    ]

-- behind a line with the level, which is read as `quote` reads it (S 14.5)
abbrev pub sketch_of : List ℕ → List ℕ
sketch_of input = behind_level sketch_of_text input
