-- A map of at most 1,024 cells, run with two heads: a side below 16 is refused with 14 (`refused_list`), and for every
-- other one Drill List prints the run (`run_listed`).
use Rattle.std.specs.Prelude.{◌≡◌, List, [], ℕ, ◌≤◌, ◌<◌, length, get_or, ℤ, Result, Ok, Err}
use Rattle.std.proofs.Common.{sym, ◌∙◌, arith, lt-ltb, le-ltb}
use Rattle.std.proofs.Math.Path.{ap}
use Rattle.std.proofs.Math.Nat.{suc-ne-zero}
use Rattle.std.proofs.Math.Decide.{dec_lt}
use Rattle.definition.specs.Answers.{returned, refused, value_says, done_says, two_heads_answer, number_of}
use Rattle.definition.specs.Diffusion.{plain, kernel_of}
use Rattle.definition.specs.Model.{Halftone}
use Rattle.definition.specs.Refusals.{power_of}
use Rattle.definition.specs.Load.{low_map}
use Rattle.definition.specs.Text.{TextOutcome, text_into}
use Rattle.definition.specs.DrillList.{drill_text}
use Rattle.definition.specs.Plate.{refused_text}
use Rattle.definition.specs.ByQuarters.{drill_list_by_quarters}
use Rattle.definition.specs.declared.Refusal.{Refusal}
use Rattle.definition.specs.declared.TwoHeadsAnswer.{TwoHeadsAnswer}
use Rattle.heads.specs.TwoHeads.{two_heads, TwoHeadsOutcome, two_heads_refusal, two_heads_by_quarters, two_heads_list}
use Rattle.refusals.specs.Lowest.{load_none}
use Rattle.shares.specs.Kernels.{knit_fit}
use Rattle.guarantee.specs.PriceList.{Each}
use Rattle.guarantee.proofs.Start.{each_of}
use Rattle.head_order.proofs.Checks.{power_large, heads_none, heads_small}
use Rattle.head_order.specs.Promise.{HeadsHold}
use Rattle.head_order.proofs.Call.{out_refused, none_accepted, heads_hold}
use Rattle.head_order.proofs.Run.{run_sheet}
use Rattle.decimals.specs.Printed.{Printed}
use Rattle.program_texts.specs.Lengths.{list_length}
use Rattle.program_texts.specs.Finished.{MapAsked}
use Rattle.program_texts.specs.Promised.{Answered, answered_as, text_answered}

-- Drill List, as a call on what this call gives back
abbrev listed_from : TwoHeadsOutcome → List ℕ → TextOutcome
listed_from t out = drill_list_by_quarters t.progress t.pyramid t.serials t.order out

-- what is printed, by the side
module _ (side : ℕ) (greys : List ℕ) where
  small_list : side < 16 → two_heads_list side greys ≡ refused_text 14
  unfolding two_heads_list
  small_list h = rw (lt-ltb side 16 h, two_heads_list)

  large_list : 16 ≤ side
      → two_heads_list side greys ≡ drill_text (power_of side) (two_heads (kernel_of plain) (power_of side) greys)
  unfolding two_heads_list
  large_list h = rw (le-ltb side 16 h, two_heads_list)

-- ---- what the call answers
module _ (side : ℕ) (greys : List ℕ) (bytes : (i : ℕ) → get_or greys i 0 ≤ 255) (p : List ℤ) (s o : List ℕ)
    (asked : MapAsked side greys (length p) (length s) (length o)) where
  abbrev r : ℕ
  r = power_of side

  abbrev out : TwoHeadsOutcome
  out = two_heads_by_quarters side plain greys p s o

  abbrev run : Halftone
  run = two_heads (kernel_of plain) r greys

  abbrev refusal : ℕ
  refusal = two_heads_refusal side plain (length greys) (length p) (length s) (length o) (low_map r greys)

  all_bytes : Each (λ grey. grey ≤ 255) greys
  all_bytes = each_of (λ grey. grey ≤ 255) greys 0 (λ i h. bytes i)

  small_said : side < 16 → out.said ≡ refused 14
  small_said h =
      ap (λ (t : TwoHeadsOutcome). t.said)
      (out_refused side plain greys p s o 13
      (heads_small side plain (length greys) (length p) (length s) (length o) (low_map r greys)
      (λ e. omega (arith, asked.lent.power)) h))

  module _ (large : 16 ≤ side) where
    four≤ : 4 ≤ power_of side
    four≤ = power_large side asked.lent.power large

    large_said : out.said ≡ returned []
    large_said =
        none_accepted side plain greys p s o
        ((heads_none side plain (length greys) (length p) (length s) (length o) (low_map r greys)).1 (
          four≤,
          (load_none r plain (length greys) (length p) (length s) (length o) (low_map r greys)).1
              (asked.lent, asked.low),
        ))

    holds : HeadsHold side plain r greys p s o out run
    holds = heads_hold side plain greys p s o (record { bytes = all_bytes; said = large_said })

    list_fits : length (drill_text r run) ≤ 11300
    list_fits =
        list_length r asked.few run (run_sheet (kernel_of plain) (knit_fit plain) r four≤ greys all_bytes)

  -- ---- what it has answered and left
  module _ (a : Result TwoHeadsAnswer Refusal) {p₁ : List ℤ} {s₁ o₁ : List ℕ}
      (q : record {
        progress = (two_heads_answer a).progress;
        made = (two_heads_answer a).made;
        debt = (two_heads_answer a).debt;
        said = done_says a;
        pyramid = p₁;
        serials = s₁;
        order = o₁;
      } ≡ out) where
    says : done_says a ≡ out.said
    says = ap (λ (t : TwoHeadsOutcome). t.said) q

    -- refused: the side is small, and the number 14
    pub refused_list : (why : Refusal) → a ≡ Err why → two_heads_list side greys ≡ refused_text (number_of why)
    unfolding done_says
    refused_list why e = go (dec_lt side 16)
      where
        told : refused (number_of why) ≡ out.said
        told = ap done_says (sym e) ∙ says

        go : Dec (side < 16) → two_heads_list side greys ≡ refused_text (number_of why)
        go (yes h) =
            let both : refused (number_of why) ≡ refused 14 = told ∙ small_said h in
            let number : number_of why ≡ 14 = cc in
            rw number (small_list side greys h)
        go (no h) = absurd (suc-ne-zero 0 (cc (told ∙ large_said (omega arith))))

    -- not refused: the side is large, and what Drill List then answers
    module _ (answer : TwoHeadsAnswer) (e : a ≡ Ok answer) where
      large : 16 ≤ side
      unfolding done_says
      large = go (dec_lt side 16)
        where
          go : Dec (side < 16) → 16 ≤ side
          go (yes h) = absurd (suc-ne-zero 0 (cc (sym (ap done_says (sym e) ∙ says ∙ small_said h))))
          go (no h) = omega arith

      pub run_listed : (before : List ℕ) → 11300 ≤ length before → (list : Result ℕ Refusal) {after : List ℕ}
          → record { said = value_says list; output = after }
          ≡ drill_list_by_quarters answer.progress p₁ s₁ o₁ before
          → Answered (two_heads_list side greys) before list after
      unfolding text_into
      run_listed before room list {after} l =
          let fits : length (drill_text r run) ≤ length before = omega (arith, list_fits large) in
          let progress_is : answer.progress ≡ (two_heads_answer a).progress = rw e in
          let answered : record { said = value_says list; output = after } ≡ text_into 0 (drill_text r run) before
          = (rw progress_is at l)
          ∙ ap (λ (t : TwoHeadsOutcome). listed_from t before) q
          ∙ (holds large).listed before fits
          in
          answered_as before after list (large_list side greys large)
          (text_answered (drill_text r run) before after list answered fits)
