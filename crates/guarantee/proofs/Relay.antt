-- An older sheet whose pyramid Relay wrote by quarters is sound by quarters (`relaid_sound`), and goes on as it would
-- have row after row: Drill List and every Advance answer the same (`relaid_lists`, `relaid_goes_on`), and what Advance
-- leaves is again an older sheet and its pyramid relaid.
use Rattle.std.proofs.Math.Path.{◌≡◌, sym, ap}
use Rattle.std.specs.Prelude.{refl, Bool, true, not, ℕ, zero, suc, ◌≤◌, min, ltb, eqb, length, drop, ℤ}
use Rattle.std.proofs.Common.{◌∙◌, arith, pow_mono, length-append, take-append-drop}
use mathlib.Core.List.{List, [], ◌∷◌, ◌++◌}
use Rattle.std.proofs.Math.ListN.{take}
use Rattle.std.proofs.Math.Seq.{take_at, drop_at, length-take-le}
use borrow.Author.Tests.{ltb-false, le-ltb, eqb-false, not-false}
use Rattle.definition.specs.Answers.{returned, refused}
use Rattle.definition.specs.Pyramid.{needed, cell_count}
use Rattle.definition.specs.Diffusion.{kernel_of}
use Rattle.definition.specs.Model.{Halftone, top_of, steps}
use Rattle.definition.specs.Sound.{is_sound}
use Rattle.definition.specs.Refusals.{power_of, side_unknown, knit_unknown, sheet_short, sheet_unsound, output_short}
use Rattle.definition.specs.Refusals.{lowest}
use Rattle.definition.specs.Advance.{AdvanceOutcome, dots_due, said_at, sheet_in, advance_refusal, advanced, advance_of}
use Rattle.definition.specs.Text.{text_into}
use Rattle.definition.specs.DrillList.{drill_text, drill_list_refusal, drill_list_of}
use Rattle.definition.specs.Quarters.{rows_from, quarters_from, as_rows, as_quarters}
use Rattle.definition.specs.ByQuarters.{advance_by_quarters, drill_list_by_quarters, relay_refusal, relay_of}
use Rattle.definition.specs.declared.Progress.{Progress}
use Rattle.integers.specs.Tests.{T_true}
use Rattle.refusals.specs.Lowest.{lowest_none}
use Rattle.layouts.specs.Relaid.{length_quarters, rows_back}
use Rattle.layouts.specs.Lent.{rows_length, rows_drop, rows_part, as_quarters_part, quarters_rows, quarters_taken}
use Rattle.shares.specs.Kernels.{knit_fit}
use Rattle.dots.proofs.Steps.{Sheet, steps_sheet}
use Rattle.dots.specs.SoundTest.{test_sound}

-- `new` begins with the pyramid `old` written by quarters
pub record Relaid (r : ℕ) (old new : List ℤ) : Type 0 where
  pub old_long : needed r ≤ length old
  pub new_long : needed r ≤ length new
  pub is : take (needed r) new ≡ quarters_from r old

-- ---- the two pyramids, row after row
module _ (r : ℕ) (old new : List ℤ) (h : Relaid r old new) where
  abbrev rows : List ℤ
  rows = as_rows r new

  front_long : length (take (needed r) old) ≡ needed r
  front_long = length-take-le (needed r) old h.old_long

  rows_new : as_rows r new ≡ take (needed r) old ++ drop (needed r) new
  rows_new =
      ap (as_rows r) (sym (take-append-drop (needed r) new))
      ∙ rows_part r (take (needed r) new) (drop (needed r) new) (length-take-le (needed r) new h.new_long)
      ∙ ap (λ (l : List ℤ). l ++ drop (needed r) new)
      (ap (rows_from r) (h.is ∙ sym (quarters_taken r old)) ∙ rows_back r (take (needed r) old) front_long)

  sheet_new : (dots : ℕ) (s o : List ℕ) → sheet_in r dots (as_rows r new) s o ≡ sheet_in r dots old s o
  unfolding sheet_in
  sheet_new dots s o =
      λ i.
      record {
        pyramid =
            (ap (take (needed r)) rows_new
            ∙ take_at (take (needed r) old) (drop (needed r) new) (needed r) front_long) i;
        serials = take (cell_count r) s;
        order = take (cell_count r) o;
        dots = dots;
      }

  short_new : ltb (length (as_rows r new)) (needed r) ≡ ltb (length old) (needed r)
  short_new =
      le-ltb (length (as_rows r new)) (needed r) (omega (arith, rows_length r new, h.new_long))
      ∙ sym (le-ltb (length old) (needed r) h.old_long)

  refusal_new : (knit s o : ℕ) (sound : Bool)
      → advance_refusal r knit (length (as_rows r new)) s o sound ≡ advance_refusal r knit (length old) s o sound
  unfolding advance_refusal
  refusal_new knit s o sound =
      ap (λ (b : Bool).
      lowest
      (side_unknown r ∷ knit_unknown knit ∷ (3, b) ∷ sheet_short r s ∷ sheet_short r o ∷ sheet_unsound sound
      ∷ []))
      short_new

  listed_new : (knit s o : ℕ) (sound : Bool) (list out : ℕ)
      → drill_list_refusal r knit (length (as_rows r new)) s o sound list out
      ≡ drill_list_refusal r knit (length old) s o sound list out
  unfolding drill_list_refusal
  listed_new knit s o sound list out =
      ap (λ (b : Bool).
      lowest
      (side_unknown r ∷ knit_unknown knit ∷ (3, b) ∷ sheet_short r s ∷ sheet_short r o ∷ sheet_unsound sound
      ∷ output_short list out ∷ []))
      short_new

-- what Advance leaves of an older sheet and of the same one relaid
pub record GoesOn (r : ℕ) (new : List ℤ) (by_rows by_quarters : AdvanceOutcome) : Type 0 where
  pub reply : by_quarters.reply ≡ by_rows.reply
  pub serials : by_quarters.serials ≡ by_rows.serials
  pub order : by_quarters.order ≡ by_rows.order
  pub relaid : Relaid r by_rows.pyramid by_quarters.pyramid
  pub rest : drop (needed r) by_quarters.pyramid ≡ drop (needed r) new

module _ (progress : Progress) (old new : List ℤ) (s o : List ℕ)
    (h : Relaid (power_of progress.side) old new) where
  abbrev r : ℕ
  r = power_of progress.side

  abbrev sheet : Halftone
  sheet = sheet_in r progress.dots old s o

  -- the list is the same
  pub lists_on : (output : List ℕ)
      → drill_list_by_quarters progress new s o output ≡ drill_list_of progress old s o output
  unfolding drill_list_by_quarters drill_list_of
  lists_on output =
      rw (sheet_new r old new h progress.dots s o)
      (ap (λ (n : ℕ). text_into n (drill_text r sheet) output)
      (listed_new r old new h progress.knit (length s) (length o) (is_sound r sheet)
      (length (drill_text r sheet)) (length output)))

  module _ (budget : ℕ) where
    abbrev refusal : ℕ
    refusal = advance_refusal r progress.knit (length old) (length s) (length o) (is_sound r sheet)

    abbrev by_rows : AdvanceOutcome
    by_rows = advance_of progress budget old s o

    abbrev by_quarters : AdvanceOutcome
    by_quarters = advance_by_quarters progress budget new s o

    -- an accepted sheet keeps its length
    abbrev after : Halftone
    after = steps (kernel_of progress.knit) r (min budget (dots_due (top_of sheet.pyramid))) sheet

    is_sheet : cell_count r ≤ length s → cell_count r ≤ length o → is_sound r sheet ≡ true → Sheet r sheet
    unfolding sheet_in
    is_sheet hs ho e =
        record {
          sized =
              record {
                pyramid = length-take-le (needed r) old h.old_long;
                serials = length-take-le (cell_count r) s hs;
                order = length-take-le (cell_count r) o ho;
              };
          sound = test_sound r sheet (T_true _ e);
        }

    after_long : refusal ≡ 0 → length after.pyramid ≡ needed r
    unfolding advance_refusal
    after_long e =
        let r₁ = lowest_none 1 (eqb r 0) _ (omega arith) e in
        let r₂ = lowest_none 11 (ltb 1 progress.knit) _ (omega arith) r₁.1 in
        let r₃ = lowest_none 3 (ltb (length old) (needed r)) _ (omega arith) r₂.1 in
        let r₄ = lowest_none 4 (ltb (length s) (cell_count r)) _ (omega arith) r₃.1 in
        let r₅ = lowest_none 4 (ltb (length o) (cell_count r)) _ (omega arith) r₄.1 in
        let r₆ = lowest_none 5 (not (is_sound r sheet)) _ (omega arith) r₅.1 in
        let off = eqb-false r 0 r₁.0 in
        let some : 1 ≤ r = omega (arith, off) in
        let known = not-false (is_sound r sheet) r₆.0 in
        let lent = is_sheet (ltb-false _ _ r₄.0) (ltb-false _ _ r₅.0) known in
        (steps_sheet (kernel_of progress.knit) (knit_fit progress.knit) r (pow_mono {i = 1} {j = r} some)
        (min budget (dots_due (top_of sheet.pyramid))) sheet lent).sized.pyramid

    -- with no refusal, both make the same dots
    abbrev made : List ℤ → AdvanceOutcome
    made pyramid =
        record {
          reply =
              record {
                progress = record { side = progress.side; dots = after.dots; knit = progress.knit };
                made = min budget (dots_due (top_of sheet.pyramid));
                said = said_at (top_of after.pyramid);
              };
          pyramid = after.pyramid ++ drop (needed r) pyramid;
          serials = after.serials ++ drop (cell_count r) s;
          order = after.order ++ drop (cell_count r) o;
        }

    -- with one, both leave all as it is
    abbrev stayed : ℕ → List ℤ → AdvanceOutcome
    stayed n pyramid =
        record {
          reply = record { progress = progress; made = 0; said = refused (suc n) };
          pyramid = pyramid;
          serials = s;
          order = o;
        }

    rows_made : refusal ≡ 0 → by_rows ≡ made old
    rows_made e = unfold advance_of advanced in rw (e, advance_of)

    rows_stayed : (n : ℕ) → refusal ≡ suc n → by_rows ≡ stayed n old
    rows_stayed n e = unfold advance_of in rw (e, advance_of)

    -- the call by quarters, row after row
    abbrev inner : AdvanceOutcome
    inner = advance_of progress budget (as_rows r new) s o

    refusal_same :
        advance_refusal r progress.knit (length (as_rows r new)) (length s) (length o)
        (is_sound r (sheet_in r progress.dots (as_rows r new) s o))
        ≡ refusal
    refusal_same =
        rw (sheet_new r old new h progress.dots s o)
        (refusal_new r old new h progress.knit (length s) (length o) (is_sound r sheet))

    inner_made : refusal ≡ 0 → inner ≡ made (as_rows r new)
    inner_made e =
        unfold advance_of advanced in
        rw (refusal_same ∙ e, advance_of, sheet_new r old new h progress.dots s o)

    inner_stayed : (n : ℕ) → refusal ≡ suc n → inner ≡ stayed n (as_rows r new)
    inner_stayed n e = unfold advance_of in rw (refusal_same ∙ e, advance_of)

    left_new : refusal ≡ 0 → by_quarters.pyramid ≡ quarters_from r after.pyramid ++ drop (needed r) new
    unfolding advance_by_quarters
    left_new e =
        ap (λ (out : AdvanceOutcome). as_quarters r out.pyramid) (inner_made e)
        ∙ ap (λ (l : List ℤ). as_quarters r (after.pyramid ++ l)) (rows_drop r new)
        ∙ as_quarters_part r after.pyramid (drop (needed r) new) (after_long e)

    relaid_made : refusal ≡ 0 → Relaid r by_rows.pyramid by_quarters.pyramid
    relaid_made e =
        let long = after_long e in
        let whole = length_quarters r after.pyramid in
        rw (rows_made e, left_new e)
        (record {
          old_long = omega (arith, long, length-append after.pyramid (drop (needed r) old));
          new_long = omega (arith, whole, length-append (quarters_from r after.pyramid) (drop (needed r) new));
          is =
              take_at (quarters_from r after.pyramid) (drop (needed r) new) (needed r) whole
              ∙ sym (ap (quarters_from r) (take_at after.pyramid (drop (needed r) old) (needed r) long))
              ∙ quarters_taken r (after.pyramid ++ drop (needed r) old);
        })

    goes_made : refusal ≡ 0 → GoesOn r new by_rows by_quarters
    unfolding advance_by_quarters
    goes_made e =
        record {
          reply =
              ap (λ (out : AdvanceOutcome). out.reply) (inner_made e)
              ∙ sym (ap (λ out. out.reply) (rows_made e));
          serials =
              ap (λ (out : AdvanceOutcome). out.serials) (inner_made e)
              ∙ sym (ap (λ out. out.serials) (rows_made e));
          order =
              ap (λ (out : AdvanceOutcome). out.order) (inner_made e)
              ∙ sym (ap (λ out. out.order) (rows_made e));
          relaid = relaid_made e;
          rest =
              ap (drop (needed r)) (left_new e)
              ∙ drop_at (quarters_from r after.pyramid) (drop (needed r) new) (needed r)
              (length_quarters r after.pyramid);
        }

    left_same : (n : ℕ) → refusal ≡ suc n → by_quarters.pyramid ≡ new
    unfolding advance_by_quarters
    left_same n e =
        ap (λ (out : AdvanceOutcome). as_quarters r out.pyramid) (inner_stayed n e) ∙ quarters_rows r new

    goes_stayed : (n : ℕ) → refusal ≡ suc n → GoesOn r new by_rows by_quarters
    unfolding advance_by_quarters
    goes_stayed n e =
        record {
          reply =
              ap (λ (out : AdvanceOutcome). out.reply) (inner_stayed n e)
              ∙ sym (ap (λ out. out.reply) (rows_stayed n e));
          serials =
              ap (λ (out : AdvanceOutcome). out.serials) (inner_stayed n e)
              ∙ sym (ap (λ out. out.serials) (rows_stayed n e));
          order =
              ap (λ (out : AdvanceOutcome). out.order) (inner_stayed n e)
              ∙ sym (ap (λ out. out.order) (rows_stayed n e));
          relaid = rw (rows_stayed n e, left_same n e) h;
          rest = ap (drop (needed r)) (left_same n e);
        }

    -- Advance, with any budget
    pub goes_on : GoesOn r new by_rows by_quarters
    goes_on = go refusal refl
      where
        go : (n : ℕ) → refusal ≡ n → GoesOn r new by_rows by_quarters
        go zero e = goes_made e
        go (suc n) e = goes_stayed n e

-- ---- Relay
module _ (progress : Progress) (old : List ℤ) (s o : List ℕ) (second : List ℤ) where
  abbrev r₀ : ℕ
  r₀ = power_of progress.side

  abbrev sound : Bool
  sound = is_sound r₀ (sheet_in r₀ progress.dots old s o)

  abbrev refusing : ℕ
  refusing = relay_refusal r₀ progress.knit (length old) (length second) (length s) (length o) sound

  abbrev left : List ℤ
  left = (relay_of progress old s o second).second

  -- what it accepts
  none_refusing : (relay_of progress old s o second).said ≡ returned [] → refusing ≡ 0
  none_refusing done = go refusing refl
    where
      go : (n : ℕ) → refusing ≡ n → refusing ≡ 0
      go zero e = e
      go (suc n) e =
          let said : (relay_of progress old s o second).said ≡ refused (suc n) = unfold relay_of in rw (e, relay_of) in
          let z : ◌≡◌ {A = ℕ} 0 1 = cc in
          absurd (omega arith)

  left_is : refusing ≡ 0 → left ≡ quarters_from r₀ old ++ drop (needed r₀) second
  left_is e = unfold relay_of in rw (e, left)

  accepts : refusing ≡ 0 → (needed r₀ ≤ length old) × (needed r₀ ≤ length second) × (sound ≡ true)
  unfolding relay_refusal
  accepts e =
      let r₁ = lowest_none 1 (eqb r₀ 0) _ (omega arith) e in
      let r₂ = lowest_none 11 (ltb 1 progress.knit) _ (omega arith) r₁.1 in
      let r₃ = lowest_none 3 (ltb (length old) (needed r₀)) _ (omega arith) r₂.1 in
      let r₄ = lowest_none 3 (ltb (length second) (needed r₀)) _ (omega arith) r₃.1 in
      let r₅ = lowest_none 4 (ltb (length s) (cell_count r₀)) _ (omega arith) r₄.1 in
      let r₆ = lowest_none 4 (ltb (length o) (cell_count r₀)) _ (omega arith) r₅.1 in
      let r₇ = lowest_none 5 (not sound) _ (omega arith) r₆.1 in
      (ltb-false _ _ r₃.0, ltb-false _ _ r₄.0, not-false sound r₇.0)

  module _ (done : (relay_of progress old s o second).said ≡ returned []) where
    -- the second pyramid is the first one relaid
    pub relaid : Relaid r₀ old left
    relaid =
        let e = none_refusing done in
        let a = accepts e in
        let whole = length_quarters r₀ old in
        rw (left_is e)
        (record {
          old_long = a.0;
          new_long = omega (arith, whole, length-append (quarters_from r₀ old) (drop (needed r₀) second));
          is = take_at (quarters_from r₀ old) (drop (needed r₀) second) (needed r₀) whole;
        })

    -- with the same serials, order and record it is a sound sheet (S 15.14)
    pub relaid_sound : is_sound r₀ (sheet_in r₀ progress.dots (as_rows r₀ left) s o) ≡ true
    relaid_sound =
        ap (is_sound r₀) (sheet_new r₀ old left relaid progress.dots s o) ∙ (accepts (none_refusing done)).2

    -- what the second pyramid has past the needed length stays (S 2.9, S 12.2)
    pub relaid_rest : drop (needed r₀) left ≡ drop (needed r₀) second
    relaid_rest =
        ap (drop (needed r₀)) (left_is (none_refusing done))
        ∙ drop_at (quarters_from r₀ old) (drop (needed r₀) second) (needed r₀) (length_quarters r₀ old)

    -- and it goes on as the older one would (S 15.14)
    pub relaid_goes_on : (budget : ℕ)
        → GoesOn r₀ left (advance_of progress budget old s o) (advance_by_quarters progress budget left s o)
    relaid_goes_on budget = goes_on progress old left s o relaid budget

    pub relaid_lists : (output : List ℕ)
        → drill_list_by_quarters progress left s o output ≡ drill_list_of progress old s o output
    relaid_lists output = lists_on progress old left s o relaid output
