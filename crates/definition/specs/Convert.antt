-- The program `convert`: `convert_of` is what it prints for a stored map text (docs/DECISIONS.md 71).
use Rattle.std.specs.Prelude.{List, ℕ}
use Rattle.definition.specs.Lowering.{lowered}
use Rattle.definition.specs.MapText.{map_text, accepted, rejected, read_map}
use Rattle.definition.specs.Plate.{refused_text}

-- the one text of the lowered greys, for each of the eight sides, or the line of the refusal (S 14.4)
unfoldable pub convert_of : List ℕ → List ℕ
convert_of input =
    elim (read_map input 65536) [
      | accepted side greys ↦ map_text side (lowered greys)
      | rejected n ↦ refused_text n
    ]
