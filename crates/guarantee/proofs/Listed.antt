-- Drill List on a sound sheet in buffers that go on with anything: it prints the sheet where there is room (`lists`).
use Rattle.std.specs.Prelude.{◌≡◌, List, [], ◌∷◌, ◌++◌, ℕ, ◌≤◌, ◌<◌, ltb, eqb, drop, ℤ}
use Rattle.std.proofs.Math.Path.{refl, ap}
use Rattle.std.proofs.Common.{◌∙◌, arith, le-ltb, ne_eqb}
use Rattle.std.proofs.Math.Bool.{not}
use Rattle.std.proofs.Math.ListN.{length, take, length-append}
use Rattle.std.proofs.Math.Seq.{take_at}
use Rattle.definition.specs.Answers.{returned}
use Rattle.definition.specs.Pyramid.{needed, cell_count}
use Rattle.definition.specs.Model.{Halftone}
use Rattle.definition.specs.Sound.{is_sound}
use Rattle.definition.specs.Refusals.{power_of, lowest}
use Rattle.definition.specs.Advance.{sheet_in}
use Rattle.definition.specs.Text.{TextOutcome, text_into}
use Rattle.definition.specs.DrillList.{drill_text, drill_list_refusal, drill_list_of}
use Rattle.definition.specs.Quarters.{quarters_from, as_rows}
use Rattle.definition.specs.ByQuarters.{drill_list_by_quarters}
use Rattle.integers.specs.Tests.{true_T}
use Rattle.refusals.specs.Lowest.{lowest_past}
use Rattle.layouts.specs.Relaid.{length_quarters, rows_back}
use Rattle.layouts.specs.Lent.{rows_part}
use Rattle.dots.proofs.Steps.{Sheet}
use Rattle.dots.specs.SoundTest.{sound_test}

-- what Drill List answers and writes: the list of this sheet, and the bytes past it stay
abbrev pub listed_of : ℕ → Halftone → List ℕ → TextOutcome
listed_of r run output = record {
  said = returned (length (drill_text r run) ∷ []);
  output = drill_text r run ++ drop (length (drill_text r run)) output;
}

module _ (side knit : ℕ) (known : knit ≤ 1) (some : 0 < power_of side)
    (run : Halftone) (sheet : Sheet (power_of side) run) (p : List ℤ) (s o : List ℕ) where
  abbrev r : ℕ
  r = power_of side

  abbrev held : List ℤ
  held = quarters_from r run.pyramid ++ p

  abbrev rows : List ℤ
  rows = as_rows r held

  rows_are : rows ≡ run.pyramid ++ p
  rows_are =
      rows_part r (quarters_from r run.pyramid) p
      (length_quarters r run.pyramid)
      ∙ ap (λ (l : List ℤ). l ++ p) (rows_back r run.pyramid sheet.sized.pyramid)

  sheet_there : sheet_in r run.dots rows (run.serials ++ s) (run.order ++ o) ≡ run
  unfolding sheet_in
  sheet_there =
      let pyramid_is : take (needed r) rows ≡ run.pyramid
      = ap (take (needed r)) rows_are ∙ take_at run.pyramid p (needed r) sheet.sized.pyramid
      in
      λ i.
      record {
        pyramid = pyramid_is i;
        serials = take_at run.serials s (cell_count r) sheet.sized.serials i;
        order = take_at run.order o (cell_count r) sheet.sized.order i;
        dots = run.dots;
      }

  module _ (output : List ℕ) (room : length (drill_text r run) ≤ length output) where
    not_refused : drill_list_refusal r knit (length rows) (length (run.serials ++ s)) (length (run.order ++ o))
        (is_sound r run) (length (drill_text r run)) (length output) ≡ 0
    unfolding drill_list_refusal
    not_refused =
        lowest_past 1 (eqb r 0) _ (ne_eqb r 0 (λ e. omega arith))
        ∙ lowest_past 11 (ltb 1 knit) _ (le-ltb 1 knit known)
        ∙ lowest_past 3 (ltb (length rows) (needed r)) _
        (le-ltb (length rows) (needed r)
        (omega (arith, ap length rows_are, length-append run.pyramid p, sheet.sized.pyramid)))
        ∙ lowest_past 4 (ltb (length (run.serials ++ s)) (cell_count r)) _
        (le-ltb (length (run.serials ++ s)) (cell_count r)
        (omega (arith, length-append run.serials s, sheet.sized.serials)))
        ∙ lowest_past 4 (ltb (length (run.order ++ o)) (cell_count r)) _
        (le-ltb (length (run.order ++ o)) (cell_count r)
        (omega (arith, length-append run.order o, sheet.sized.order)))
        ∙ lowest_past 5 (not (is_sound r run)) _
        (ap not (true_T (is_sound r run) (sound_test r run sheet.sound)))
        ∙ lowest_past 8 (ltb (length output) (length (drill_text r run))) _ (le-ltb _ _ room)
        ∙ unfold lowest in refl

    -- Drill List prints the sheet (S 9.3)
    pub lists : drill_list_by_quarters (record { side = side; dots = run.dots; knit = knit }) held
        (run.serials ++ s) (run.order ++ o) output ≡ listed_of r run output
    unfolding drill_list_by_quarters drill_list_of text_into
    lists = rw (sheet_there, not_refused)
