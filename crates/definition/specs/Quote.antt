-- The program `quote`: `quote_of` is what it prints for an input, a line with a level and then a map text
-- (docs/DECISIONS.md 69).
use Rattle.std.specs.Prelude.{true, false, List, ℕ, ltb}
use Rattle.definition.specs.Diffusion.{plain}
use Rattle.definition.specs.Refusals.{power_of}
use Rattle.definition.specs.Text.{newline, field, malformed, field_of}
use Rattle.definition.specs.MapText.{accepted, rejected, read_low}
use Rattle.definition.specs.QuotePage.{quote_text}
use Rattle.definition.specs.Plate.{refused_text, finished_of}

-- the quote page of the finished map for a level; 6 for a level that the map hasn't (S 14.2)
unfoldable pub quote_of_map : ℕ → ℕ → List ℕ → List ℕ
quote_of_map level side greys =
    let r = power_of side in
    elim (ltb r level) [
      | true ↦ refused_text 6
      | false ↦ quote_text r greys (finished_of plain r greys).serials level
    ]

-- the map text behind the level's line is read as `plate` reads its own, with room for 1,024 greys (S 14.2)
unfoldable pub quote_of_text : ℕ → List ℕ → List ℕ
quote_of_text level text =
    elim (read_low text 1024) [ accepted side greys ↦ quote_of_map level side greys | rejected n ↦ refused_text n ]

-- What is printed of a level and the text behind its line. A level is any number of 32 bits; where the input doesn't
-- begin with one on its line, that is 7 (S 14.2, S 14.5).
unfoldable pub behind_level : (ℕ → List ℕ → List ℕ) → List ℕ → List ℕ
behind_level printed input =
    elim (field_of 4294967295 newline input) [
      | malformed ↦ refused_text 7
      | field level text ↦ printed level text
    ]

-- all of it (S 14.2)
abbrev pub quote_of : List ℕ → List ℕ
quote_of input = behind_level quote_of_text input
