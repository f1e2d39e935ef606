-- One Advance call on parts of buffers that begin with a sound sheet does as the model does: the same steps and the
-- same reply (`call_same`), the rest untouched (`held_same`).
use Rattle.std.proofs.Math.Path.{◌≡◌, refl, ap}
use Rattle.std.proofs.Common.{◌∙◌}
use Rattle.std.specs.Prelude.{Bool, cond, not, List, ◌++◌, length, take, ℤ}
use Rattle.std.proofs.Math.Bool.{true, false}
use Prim.Native.Nat.{ℕ, zero, suc, ◌-◌, ◌^◌, ◌≤◌, min}
use native.Mathlib.Omega.{arith}
use Rattle.std.proofs.Math.Dec.{ltb}
use Rattle.std.proofs.Math.ListN.{length-append, take-append-drop}
use borrow.Author.Tests.{ltb-false, le-ltb, ne_eqb}
use Rattle.definition.specs.Answers.{refused}
use Rattle.definition.specs.Pyramid.{needed, cell_count}
use Rattle.definition.specs.Diffusion.{kernel_of}
use Rattle.definition.specs.Model.{Halftone, top_of, steps}
use Rattle.definition.specs.Sound.{is_sound}
use Rattle.definition.specs.Refusals.{power_of, lowest}
use Rattle.definition.specs.Advance.{AdvanceOutcome, dots_due, said_at, sheet_in, advance_refusal, advanced, advance_of}
use Rattle.definition.specs.Quarters.{quarters_from, as_rows}
use Rattle.definition.specs.ByQuarters.{advance_by_quarters}
use Rattle.definition.specs.AdvanceList.{Call, call_of, held_after, model_refusal, model_call, model_reply}
use Rattle.definition.specs.declared.Progress.{Progress}
use Rattle.integers.specs.Tests.{true_T}
use Rattle.refusals.specs.Lowest.{lowest_none}
use Rattle.shares.specs.Kernels.{knit_fit}
use Rattle.layouts.specs.Relaid.{length_quarters}
use Rattle.layouts.specs.Lent.{rows_length}
use Rattle.dots.proofs.Steps.{Sheet, steps_sheet, steps_made}
use Rattle.dots.proofs.StepsMin.{steps_min}
use Rattle.dots.specs.SoundTest.{sound_test}
use Rattle.guarantee.proofs.Lent.{held_of, lent_test, lent_part, lent_back, rows_part, rows_over, rows_stay}

-- what the model does not refuse is long enough
enough : (r : ℕ) (c : Call) → model_refusal r c ≡ 0
    → (needed r ≤ c.pyramid_lent) × (cell_count r ≤ c.serials_lent) × (cell_count r ≤ c.order_lent)
unfolding model_refusal
enough r c e =
    let r₃ = lowest_none 3 (ltb c.pyramid_lent (needed r)) _ (omega arith) e in
    let r₄ = lowest_none 4 (ltb c.serials_lent (cell_count r)) _ (omega arith) r₃.1 in
    let r₅ = lowest_none 4 (ltb c.order_lent (cell_count r)) _ (omega arith) r₄.1 in
    (ltb-false _ _ r₃.0, ltb-false _ _ r₄.0, ltb-false _ _ r₅.0)

module _ (knit : ℕ) (known : knit ≤ 1) (r : ℕ) (big : 2 ≤ 2 ^ r) (power : power_of (2 ^ r) ≡ r)
    (t : Halftone) (sheet : Sheet r t) (p : List ℤ) (s o : List ℕ) (c : Call) where
  -- the parts lent
  abbrev lent_pyramid : List ℤ
  lent_pyramid = take c.pyramid_lent (quarters_from r t.pyramid ++ p)

  -- the part of the pyramid, written row after row
  abbrev lent_rows : List ℤ
  lent_rows = as_rows r lent_pyramid

  abbrev lent_serials : List ℕ
  lent_serials = take c.serials_lent (t.serials ++ s)

  abbrev lent_order : List ℕ
  lent_order = take c.order_lent (t.order ++ o)

  abbrev lent_sheet : Halftone
  lent_sheet = sheet_in r t.dots lent_rows lent_serials lent_order

  -- long enough, they hold the sheet
  sheet_lent : (needed r ≤ c.pyramid_lent) × (cell_count r ≤ c.serials_lent) × (cell_count r ≤ c.order_lent)
      → lent_sheet ≡ t
  unfolding sheet_in
  sheet_lent h =
      λ i.
      record {
        pyramid = rows_part r t.pyramid p c.pyramid_lent sheet.sized.pyramid h.0 i;
        serials = lent_part t.serials s (cell_count r) c.serials_lent sheet.sized.serials h.1 i;
        order = lent_part t.order o (cell_count r) c.order_lent sheet.sized.order h.2 i;
        dots = t.dots;
      }

  -- the call is refused exactly as the model refuses it
  refusal_same : advance_refusal r knit (length lent_rows) (length lent_serials) (length lent_order)
      (is_sound r lent_sheet) ≡ model_refusal r c
  unfolding advance_refusal model_refusal lowest
  refusal_same =
      rw (
        le-ltb 1 knit known,
        ne_eqb r 0 (λ z. omega (arith, ap (λ (n : ℕ). 2 ^ n) z)),
        rows_length r lent_pyramid,
        lent_test (quarters_from r t.pyramid ++ p) c.pyramid_lent (needed r)
            (omega (arith, length-append (quarters_from r t.pyramid) p, length_quarters r t.pyramid)),
        lent_test (t.serials ++ s) c.serials_lent (cell_count r)
            (omega (arith, length-append t.serials s, sheet.sized.serials)),
        lent_test (t.order ++ o) c.order_lent (cell_count r)
            (omega (arith, length-append t.order o, sheet.sized.order)),
      )
      (go (ltb c.pyramid_lent (needed r)) refl (ltb c.serials_lent (cell_count r)) refl
      (ltb c.order_lent (cell_count r)) refl)
    where
      go : (a : Bool) → ltb c.pyramid_lent (needed r) ≡ a → (b : Bool) → ltb c.serials_lent (cell_count r) ≡ b
          → (d : Bool) → ltb c.order_lent (cell_count r) ≡ d
          → ◌≡◌ {A = ℕ} (cond a 3 (cond b 4 (cond d 4 (cond (not (is_sound r lent_sheet)) 5 0))))
          (cond a 3 (cond b 4 (cond d 4 0)))
      go true x b y d z = refl
      go false x true y d z = refl
      go false x false y true z = refl
      go false x false y false z =
          let e : is_sound r lent_sheet
          ≡ true =
          ap (is_sound r) (sheet_lent (ltb-false _ _ x, ltb-false _ _ y, ltb-false _ _ z))
          ∙ true_T (is_sound r t) (sound_test r t sheet.sound) in
          rw e

  abbrev given : Progress
  given = record { side = 2 ^ r; dots = t.dots; knit = knit }

  -- what the call by rows leaves
  abbrev outcome : AdvanceOutcome
  outcome = advance_of given c.budget lent_rows lent_serials lent_order

  outcome_taken : model_refusal r c ≡ 0
      → outcome ≡ advanced r given c.budget lent_rows lent_serials lent_order
  outcome_taken e =
      unfold advance_of in
      rw (power, refusal_same ∙ e, advance_of)
      (ap (λ (k : ℕ). advanced k given c.budget lent_rows lent_serials lent_order) power)

  outcome_refused : (n : ℕ) → model_refusal r c ≡ suc n
      → outcome ≡ record {
        reply = record { progress = given; made = 0; said = refused (suc n) };
        pyramid = lent_rows;
        serials = lent_serials;
        order = lent_order;
      }
  outcome_refused n e = unfold advance_of in rw (power, refusal_same ∙ e, advance_of)

  -- the model's part of it: what the steps made, and how far the number of dots rose
  pub model_taken : model_refusal r c ≡ 0 → model_call knit r t c ≡ steps (kernel_of knit) r c.budget t
  model_taken e = unfold model_call in rw (e, model_call)

  pub model_refused : (n : ℕ) → model_refusal r c ≡ suc n → model_call knit r t c ≡ t
  model_refused n e = unfold model_call in rw (e, model_call)

  pub reply_taken : model_refusal r c ≡ 0 → model_reply knit r t c
      ≡ record {
        progress = record
            { side = 2 ^ r; dots = (steps (kernel_of knit) r c.budget t).dots; knit = knit };
        made = min c.budget (dots_due (top_of t.pyramid));
        said = said_at (top_of (steps (kernel_of knit) r c.budget t).pyramid);
      }
  unfolding model_reply
  reply_taken e =
      rw (e, model_taken e)
      (λ i. record {
        progress = record { side = 2 ^ r; dots = (steps (kernel_of knit) r c.budget t).dots; knit = knit };
        made = made_is i;
        said = said_at (top_of (steps (kernel_of knit) r c.budget t).pyramid);
      })
    where
      made_is : (steps (kernel_of knit) r c.budget t).dots - t.dots ≡ min c.budget (dots_due (top_of t.pyramid))
      made_is = omega (arith, steps_made (kernel_of knit) (knit_fit knit) r big c.budget t sheet)

  pub reply_refused : (n : ℕ) → model_refusal r c ≡ suc n
      → model_reply knit r t c ≡ record { progress = given; made = 0; said = refused (suc n) }
  unfolding model_reply
  reply_refused n e =
      rw (e, model_refused n e) (λ i. record { progress = given; made = none i; said = refused (suc n) })
    where
      none : t.dots - t.dots ≡ 0
      none = omega arith

  -- one call: its reply is the model's, and the buffers begin with the model's sheet
  abbrev expected : AdvanceOutcome
  expected = record {
    reply = model_reply knit r t c;
    pyramid = quarters_from r (model_call knit r t c).pyramid ++ p;
    serials = (model_call knit r t c).serials ++ s;
    order = (model_call knit r t c).order ++ o;
  }

  call_taken : model_refusal r c ≡ 0 → call_of (held_of knit r t p s o) c ≡ expected
  unfolding call_of advance_by_quarters advanced
  call_taken e =
      let h = enough r c e in
      let done = steps (kernel_of knit) r c.budget t in
      let long = (steps_sheet (kernel_of knit) (knit_fit knit) r big c.budget t sheet).sized.pyramid in
      rw (
        power,
        outcome_taken e,
        sheet_lent h,
        steps_min (kernel_of knit) (knit_fit knit) r big c.budget t sheet,
        reply_taken e,
        model_taken e,
      )
      (λ i.
      record {
        reply = record {
          progress = record { side = 2 ^ r; dots = done.dots; knit = knit };
          made = min c.budget (dots_due (top_of t.pyramid));
          said = said_at (top_of done.pyramid);
        };
        pyramid = rows_over r t.pyramid p c.pyramid_lent sheet.sized.pyramid done.pyramid long h.0 i;
        serials =
            lent_back t.serials done.serials s (cell_count r) c.serials_lent sheet.sized.serials h.1 i;
        order = lent_back t.order done.order o (cell_count r) c.order_lent sheet.sized.order h.2 i;
      })

  call_refused : (n : ℕ) → model_refusal r c ≡ suc n → call_of (held_of knit r t p s o) c ≡ expected
  unfolding call_of advance_by_quarters
  call_refused n e =
      rw (power, outcome_refused n e, reply_refused n e, model_refused n e)
      (λ i.
      record {
        reply = record { progress = given; made = 0; said = refused (suc n) };
        pyramid = rows_stay r t.pyramid p c.pyramid_lent sheet.sized.pyramid i;
        serials = take-append-drop c.serials_lent (t.serials ++ s) i;
        order = take-append-drop c.order_lent (t.order ++ o) i;
      })

  pub call_same : call_of (held_of knit r t p s o) c ≡ expected
  call_same = go (model_refusal r c) refl
    where
      go : (k : ℕ) → model_refusal r c ≡ k → call_of (held_of knit r t p s o) c ≡ expected
      go zero e = call_taken e
      go (suc n) e = call_refused n e

  reply_progress : (model_reply knit r t c).progress
      ≡ record { side = 2 ^ r; dots = (model_call knit r t c).dots; knit = knit }
  unfolding model_reply
  reply_progress = refl

  pub held_same : held_after (call_of (held_of knit r t p s o) c) ≡ held_of knit r (model_call knit r t c) p s o
  unfolding held_after
  held_same =
      rw call_same
      (λ i. record {
        progress = reply_progress i;
        pyramid = quarters_from r (model_call knit r t c).pyramid ++ p;
        serials = (model_call knit r t c).serials ++ s;
        order = (model_call knit r t c).order ++ o;
      })
