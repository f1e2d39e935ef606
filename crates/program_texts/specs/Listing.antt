-- The drill list of the finished sheet: Drill List isn't refused, and prints it (`finished_listed`).
use Rattle.std.specs.Prelude.{◌≡◌, refl, List, ℕ, ◌^◌, ◌≤◌, ◌<◌, length, drop, ℤ, Result}
use Rattle.std.proofs.Common.{ap, ◌∙◌, arith, pow_mono}
use Rattle.definition.specs.Answers.{value_says}
use Rattle.definition.specs.Pyramid.{needed, cell_count}
use Rattle.definition.specs.Diffusion.{plain}
use Rattle.definition.specs.Model.{Halftone}
use Rattle.definition.specs.Refusals.{power_of}
use Rattle.definition.specs.AdvanceList.{Held}
use Rattle.definition.specs.Text.{TextOutcome, text_into}
use Rattle.definition.specs.DrillList.{drill_text}
use Rattle.definition.specs.ByQuarters.{drill_list_by_quarters}
use Rattle.definition.specs.Plate.{finished_of}
use Rattle.definition.specs.declared.Progress.{Progress}
use Rattle.definition.specs.declared.Refusal.{Refusal}
use Rattle.refusals.specs.Powers.{side_pow}
use Rattle.dots.proofs.Steps.{Sheet}
use Rattle.guarantee.proofs.Lent.{held_of}
use Rattle.guarantee.proofs.Listed.{listed_of, lists}
use Rattle.program_texts.specs.Promised.{Answered, text_answered}
use Rattle.program_texts.specs.Lengths.{list_length}
use Rattle.program_texts.specs.Finished.{finished_in, MapAsked, finished_sheet}

-- Drill List, as a call on what the caller holds
abbrev listed_from : Held → List ℕ → TextOutcome
listed_from held out = drill_list_by_quarters held.progress held.pyramid held.serials held.order out

-- an answer that says a text's length and leaves the text
abbrev printed_in : List ℕ → List ℕ → TextOutcome
printed_in text out = text_into 0 text out

-- ---- Drill List on buffers that begin with a sheet
printed_is : (r : ℕ) (t : Halftone) (out : List ℕ) → listed_of r t out ≡ printed_in (drill_text r t) out
unfolding text_into
printed_is r t out = refl

sheet_listed : (side : ℕ) → 0 < power_of side → (t : Halftone) → Sheet (power_of side) t
    → (p : List ℤ) (s o out : List ℕ) → length (drill_text (power_of side) t) ≤ length out
    → listed_from (held_of plain (power_of side) t p s o) out ≡ printed_in (drill_text (power_of side) t) out
sheet_listed side some t sheet p s o out room =
    rw (← side_pow side some)
    (lists side plain (omega arith) some t sheet p s o out room ∙ printed_is (power_of side) t out)

-- ---- Drill List on the finished sheet
module _ (side : ℕ) (greys : List ℕ) {a b c : ℕ} (asked : MapAsked side greys a b c) (p : List ℤ) (s o out : List ℕ)
    (room : 11300 ≤ length out) where
  abbrev r : ℕ
  r = power_of side

  abbrev sheet : Halftone
  sheet = finished_of plain r greys

  big : 2 ≤ 2 ^ r
  big = pow_mono {i = 1} {j = r} asked.lent.power

  last : Sheet r sheet
  last = finished_sheet r big greys asked.start

  list_room : length (drill_text r sheet) ≤ length out
  list_room = omega (arith, list_length r asked.few sheet last)

  module _ {progress : Progress} {p₁ : List ℤ} {s₁ o₁ : List ℕ}
      (e : record { progress = progress; pyramid = p₁; serials = s₁; order = o₁ } ≡ finished_in r greys p s o)
      (answer : Result ℕ Refusal) {after : List ℕ}
      (list : record { said = value_says answer; output = after }
      ≡ drill_list_by_quarters progress p₁ s₁ o₁ out) where
    answered : record { said = value_says answer; output = after } ≡ printed_in (drill_text r sheet) out
    answered =
        list
        ∙ ap (λ (held : Held). listed_from held out) e
        ∙ sheet_listed side asked.lent.power sheet last (drop (needed r) p) (drop (cell_count r) s)
        (drop (cell_count r) o) out list_room

    pub finished_listed : Answered (drill_text r sheet) out answer after
    finished_listed = text_answered (drill_text r sheet) out after answer answered list_room
