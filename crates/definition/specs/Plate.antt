-- The program `plate`: `plate_of` is what it prints for an input; `finished_of` is a map run to its end, and
-- `refused_text` the line with which a program says no.
use Rattle.std.specs.Prelude.{true, false, List, [], ◌∷◌, ℕ, ltb, length}
use Rattle.definition.specs.Diffusion.{plain, kernel_of}
use Rattle.definition.specs.Model.{Halftone, top_of, model_start, steps}
use Rattle.definition.specs.Refusals.{power_of}
use Rattle.definition.specs.Advance.{dots_due}
use Rattle.definition.specs.Text.{line}
use Rattle.definition.specs.MapText.{accepted, rejected, read_low}
use Rattle.definition.specs.DrillList.{drill_text}

-- "refused," and the number, as a line (S 14.7)
unfoldable pub refused_text : ℕ → List ℕ
refused_text n = 114 ∷ 101 ∷ 102 ∷ 117 ∷ 115 ∷ 101 ∷ 100 ∷ 44 ∷ line (n ∷ [])

-- a map run to its end on cloth of a knit: all dots that are due (S 3.1, S 3.9)
unfoldable pub finished_of : ℕ → ℕ → List ℕ → Halftone
finished_of knit r greys =
    let fresh = model_start r greys in
    steps (kernel_of knit) r (dots_due (top_of fresh.pyramid)) fresh

-- An input of more than 4,099 bytes is refused before all else. The map is read with room for 1,024 greys, run to its
-- end on plain cloth, and its drill list printed (S 14.1, S 14.7).
unfoldable pub plate_of : List ℕ → List ℕ
plate_of input =
    elim (ltb 4099 (length input)) [
      | true ↦ refused_text 9
      | false ↦
          elim (read_low input 1024) [
            | accepted side greys ↦ let r = power_of side in drill_text r (finished_of plain r greys)
            | rejected n ↦ refused_text n
          ]
    ]
