-- What `two_heads` prints: for an input that is too long (`long_text`), for a text that Map Text refuses
-- (`refused_map`), and for a map (`side_map`).
use Rattle.std.specs.Prelude.{◌≡◌, List, ◌++◌, ℕ, ◌*◌, ◌≤◌, ◌<◌, ltb, length, drop, Ok, Err}
use Rattle.std.proofs.Math.Path.{ap}
use Rattle.std.proofs.Common.{sym, ◌∙◌, arith, lt-ltb, le-ltb}
use Rattle.std.proofs.Math.Bool.{true, false}
use Rattle.definition.specs.Answers.{value_says, number_of}
use Rattle.definition.specs.Pyramid.{cell_count}
use Rattle.definition.specs.Diffusion.{Kernel, plain, kernel_of}
use Rattle.definition.specs.Model.{Halftone}
use Rattle.definition.specs.Refusals.{power_of}
use Rattle.definition.specs.MapText.{accepted, rejected, read_low, map_text_of}
use Rattle.definition.specs.DrillList.{drill_text}
use Rattle.definition.specs.Plate.{refused_text}
use Rattle.definition.specs.declared.Refusal.{Refusal}
use Rattle.definition.specs.declared.Refusal.TheVariants.{InputLong}
use Rattle.heads.specs.TwoHeads.{two_heads_in, two_heads, two_heads_list, two_heads_text}
use Rattle.guarantee.proofs.Start.{start_front}
use Rattle.decimals.specs.Printed.{Printed}
use Rattle.program_texts.specs.Outputs.{refused_rejected, found, count, greys_are, read_is}

module _ (input : List ℕ) where
  pub long_text : 4099 < length input → two_heads_text input ≡ refused_text (number_of InputLong)
  unfolding two_heads_text number_of
  long_text h = rw (lt-ltb 4099 (length input) h, two_heads_text)

  module _ (short : length input ≤ 4099) where
    rejected_map : {k : ℕ} → read_low input 1024 ≡ rejected k → two_heads_text input ≡ refused_text k
    unfolding two_heads_text
    rejected_map e = rw (le-ltb 4099 (length input) short, e, two_heads_text)

    accepted_map : {side : ℕ} {values : List ℕ} → read_low input 1024 ≡ accepted side values
        → two_heads_text input ≡ two_heads_list side values
    unfolding two_heads_text
    accepted_map e = rw (le-ltb 4099 (length input) short, e, two_heads_text)

-- the list of a map whose greys stand at the start of a longer buffer
module _ (side : ℕ) (values rest : List ℕ) (count : length values ≡ cell_count (power_of side)) where
  run_front : (kernel : Kernel)
      → two_heads kernel (power_of side) (values ++ rest) ≡ two_heads kernel (power_of side) values
  unfolding two_heads two_heads_in
  run_front kernel = rw (start_front (power_of side) values rest (omega arith))

  list_front : two_heads_list side (values ++ rest) ≡ two_heads_list side values
  unfolding two_heads_list
  list_front =
      ap
      (λ (run : Halftone). elim (ltb side 16) [ true ↦ refused_text 14 | false ↦ drill_text (power_of side) run ])
      (run_front (kernel_of plain))

-- ---- what Map Text has answered, on a buffer of 1,024 places
module _ (input buffer : List ℕ) (whole : length buffer ≡ 1024) {greys : List ℕ} (short : length input ≤ 4099) where
  pub refused_map : (why : Refusal) → record { said = value_says (Err why); greys = greys } ≡ map_text_of input buffer
      → two_heads_text input ≡ refused_text (number_of why)
  refused_map why promise = rejected_map input short (refused_rejected input buffer whole why promise)

  pub side_map : (side : ℕ) → record { said = value_says (Ok side); greys = greys } ≡ map_text_of input buffer
      → two_heads_text input ≡ two_heads_list side greys
  side_map side promise =
      let values = (found input buffer whole side promise).0 in
      let same : two_heads_list side greys ≡ two_heads_list side values
      = ap (two_heads_list side) (greys_are input buffer whole side promise)
      ∙ list_front side values (drop (side * side) buffer) (count input buffer whole side promise)
      in
      accepted_map input short (read_is input buffer whole side promise) ∙ sym same
