-- Drill List's ways out: refused before the list is made, with nothing changed (`refused_is`); and the list, written or
-- refused for its length (`listed_is`).
use Rattle.std.specs.Prelude.{◌≡◌, Bool, true, List, [], ◌∷◌, ℕ, suc, ◌-◌, ◌≤◌, length, take, ℤ, Result, Ok, Err}
use Rattle.std.proofs.Math.Path.{refl}
use Rattle.std.proofs.Common.{sym, ◌∙◌, arith, take-take}
use Rattle.definition.specs.Answers.{value_says, number_of}
use Rattle.definition.specs.Pyramid.{cell_count}
use Rattle.definition.specs.Refusals.{power_of, output_short, lowest}
use Rattle.definition.specs.Sound.{is_sound}
use Rattle.definition.specs.Advance.{sheet_in, advance_refusal}
use Rattle.definition.specs.Model.{Halftone}
use Rattle.definition.specs.Quarters.{as_rows}
use Rattle.definition.specs.ByQuarters.{drill_list_by_quarters}
use Rattle.definition.specs.Text.{TextOutcome, text_into}
use Rattle.definition.specs.DrillList.{drill_text, drill_list_refusal, drill_list_of}
use Rattle.definition.specs.declared.Progress.{Progress}
use Rattle.definition.specs.declared.Refusal.{Refusal}
use Rattle.integers.specs.Tests.{T_true}
use Rattle.quadtree.specs.Levels.{cells_few}
use Rattle.refusals.specs.Powers.{power_small}
use Rattle.refusals.specs.Lowest.{positive, lowest_before, lowest_after}
use Rattle.refusals.specs.Numbers.{number_positive}
use Rattle.layouts.specs.Lent.{rows_length}
use Rattle.dots.specs.SoundTest.{test_sound}
use Rattle.checks.specs.Checks.{checked, passed_none, failed_number}
use Rattle.sheet.specs.Sheets.{SheetAsked, sheet_asked}
use Rattle.drill_list.specs.Listing.{list_text, listed_in, ListAsked, list_front}

module _ (r knit p s o list output : ℕ) where
  sheet_first : (sound : Bool) (n : ℕ) → advance_refusal r knit p s o sound ≡ suc n
      → drill_list_refusal r knit p s o sound list output ≡ suc n
  unfolding advance_refusal drill_list_refusal
  sheet_first sound n e = lowest_before _ (output_short list output ∷ []) n e

  length_then : advance_refusal r knit p s o true ≡ 0
      → drill_list_refusal r knit p s o true list output ≡ lowest (output_short list output ∷ [])
  unfolding advance_refusal drill_list_refusal positive
  length_then e = lowest_after _ (output_short list output ∷ []) refl e

-- p is a pyramid by quarters
module _ (progress : Progress) (p : List ℤ) (s o : List ℕ) {r : ℕ} (er : r ≡ power_of progress.side) where
  abbrev knit : ℕ
  knit = progress.knit

  abbrev k : ℕ
  k = power_of progress.side

  abbrev rows : List ℤ
  rows = as_rows k p

  abbrev sheet : Halftone
  sheet = sheet_in k progress.dots rows s o

  abbrev refusal : ℕ
  refusal =
      advance_refusal r knit (length p) (length s) (length o)
      (is_sound r (sheet_in r progress.dots (as_rows r p) s o))

  refusal_rows : refusal ≡ advance_refusal k knit (length rows) (length s) (length o) (is_sound k sheet)
  refusal_rows = rw (rows_length k p, ← er)

  pub refused_is : (output : List ℕ) (why : Refusal) {a : Result ℕ Refusal} → checked (Err why) ≡ refusal → a ≡ Err why
      → record { said = value_says a; output = output } ≡ drill_list_by_quarters progress p s o output
  unfolding drill_list_by_quarters drill_list_of text_into value_says
  refused_is output why e ea =
      let n = failed_number why (e ∙ refusal_rows) in
      let first = sheet_first k knit (length rows) (length s) (length o) (length (drill_text k sheet)) (length output)
      (is_sound k sheet) (number_of why - 1) n in
      rw (ea, first, ← number_positive why)

  module _ (e : checked (Ok tt) ≡ refusal) where
    asked : SheetAsked r progress.dots p s o
    asked = sheet_asked progress.knit (power_small progress.side er) progress.dots p s o e

    few : progress.dots ≤ cell_count r
    unfolding sheet_in
    few = (test_sound r (sheet_in r progress.dots (as_rows r p) s o) (T_true _ asked.sound)).few_dots_lem

    pub list_asked : ListAsked r progress.dots (length o)
    list_asked =
        record {
          small = asked.small;
          few = omega (arith, few, cells_few r asked.small);
          listed = omega (arith, few, asked.lent.order_long);
        }

    -- the sheet's order list is the part of the buffer that has a place for each cell
    list_is : drill_text r (sheet_in r progress.dots (as_rows r p) s o) ≡ list_text r progress.dots o
    unfolding drill_text sheet_in list_text
    list_is = rw (take-take progress.dots (cell_count r) o few)

    sound_there : is_sound k sheet ≡ true
    sound_there = rw er at asked.sound

    not_refused : advance_refusal k knit (length rows) (length s) (length o) true ≡ 0
    not_refused = rw sound_there at (passed_none (e ∙ refusal_rows))

    module _ (output : List ℕ) where
      list_then : drill_list_by_quarters progress p s o output ≡ listed_in (drill_text k sheet) output
      unfolding drill_list_by_quarters drill_list_of
      list_then =
          let list = drill_text k sheet in
          let z : drill_list_refusal k knit (length rows) (length s) (length o) (is_sound k sheet)
          (length list) (length output)
          ≡ lowest (output_short (length list) (length output) ∷ []) =
          rw sound_there (length_then k knit (length rows) (length s) (length o) _ (length output) not_refused) in
          rw z

      pub listed_is : {out : TextOutcome}
          → out ≡ listed_in (list_text r (length (take progress.dots o)) (take progress.dots o)) output
          → out ≡ drill_list_by_quarters progress p s o output
      listed_is q =
          (rw (list_front r progress.dots o list_asked.listed) at q) ∙ sym (list_then ∙ rw (← er, list_is))
