-- A list of Advance calls on buffers that begin with a sound sheet, and the model fed with it: same buffers and record
-- (`calls_held`), same replies (`calls_replies`). In all, the model makes the smaller of the dots due and the budgets
-- of the calls not refused (`calls_number`).
use Rattle.std.specs.Prelude.{◌≡◌, ◌↔◌, Bool, true, cond, ℕ, zero, suc, ◌+◌, ◌^◌, ◌≤◌, min, ℤ, pos}
use Rattle.std.proofs.Math.Path.{refl, ap, ap₂}
use Rattle.std.proofs.Common.{sym, ◌∙◌, true≢false, arith, zero-add}
use Rattle.std.proofs.Math.Bool.{false}
use mathlib.Core.List.{List, [], ◌∷◌}
use Rattle.std.specs.Int.Signed.{lt_z}
use Rattle.definition.specs.Answers.{finished, more, refused}
use Rattle.definition.specs.Pyramid.{half_dot}
use Rattle.definition.specs.Diffusion.{kernel_of}
use Rattle.definition.specs.Model.{Halftone, top_of, steps}
use Rattle.definition.specs.Refusals.{power_of}
use Rattle.definition.specs.Advance.{Reply, AdvanceOutcome, dots_due, said_at}
use Rattle.definition.specs.AdvanceList.{
  Call,
  outcomes_of,
  held_after_calls,
  replies_of,
  model_refusal,
  model_call,
  model_reply,
  model_after_calls,
  model_replies,
  is_refusal,
  granted,
}
use Rattle.integers.specs.Linear.{ints, up_or_dn}
use Rattle.shares.specs.Kernels.{knit_fit}
use Rattle.dots.proofs.Steps.{Sheet, due_is, steps_sheet, steps_due, steps_made, steps_add}
use Rattle.dots.proofs.StepsMin.{steps_min}
use Rattle.guarantee.proofs.Lent.{held_of}
use Rattle.guarantee.proofs.OneCall.{model_taken, model_refused, reply_taken, reply_refused, call_same, held_same}

-- ---- what is said, and the dots due
pub said_not_refusal : (t : ℤ) → is_refusal (said_at t) ≡ false
unfolding said_at is_refusal
said_not_refusal t = go (lt_z t (pos half_dot))
  where
    go : (b : Bool) → is_refusal (cond b finished more) ≡ false
    go true = refl
    go false = refl

pub finished_due : (t : ℤ) → (said_at t ≡ finished) ↔ (dots_due t ≡ 0)
unfolding said_at
finished_due t = go (lt_z t (pos half_dot)) refl
  where
    go : (b : Bool) → lt_z t (pos half_dot) ≡ b → (cond b finished more ≡ finished) ↔ (dots_due t ≡ 0)
    go true e = ((λ h. omega (ints, due_is t, up_or_dn t)), (λ h. refl))
    go false e = (
      (λ h. let z : ◌≡◌ {A = ℕ} 0 1 = cc in absurd (omega arith)),
      (λ h. absurd (omega (ints, due_is t, up_or_dn t))),
    )

module _ (knit : ℕ) (known : knit ≤ 1) (r : ℕ) (big : 2 ≤ 2 ^ r) (power : power_of (2 ^ r) ≡ r) where
  -- ---- one call of the model: taken, or refused
  pub data Modelled (t : Halftone) (c : Call) : Type 0 where
    taken : model_call knit r t c ≡ steps (kernel_of knit) r c.budget t
        → (model_reply knit r t c).said ≡ said_at (top_of (steps (kernel_of knit) r c.budget t).pyramid)
        → Modelled t c
    refusing : (n : ℕ) → model_call knit r t c ≡ t → (model_reply knit r t c).said ≡ refused n → Modelled t c

  modelled : (t : Halftone) → Sheet r t → (c : Call) → Modelled t c
  modelled t sheet c = go (model_refusal r c) refl
    where
      go : (k : ℕ) → model_refusal r c ≡ k → Modelled t c
      go zero e = taken (model_taken knit known r big power t sheet [] [] [] c e)
          (ap (λ (q : Reply). q.said) (reply_taken knit known r big power t sheet [] [] [] c e))
      go (suc n) e = refusing (suc n) (model_refused knit known r big power t sheet [] [] [] c n e)
          (ap (λ (q : Reply). q.said) (reply_refused knit known r big power t sheet [] [] [] c n e))

  -- what steps keep, a call keeps
  pub call_keeps : (P : Halftone → Type 0) (t : Halftone) → Sheet r t → (c : Call) → P t
      → P (steps (kernel_of knit) r c.budget t) → P (model_call knit r t c)
  call_keeps P t sheet c h k = go (modelled t sheet c)
    where
      go : Modelled t c → P (model_call knit r t c)
      go (taken e f) = rw e k
      go (refusing n e f) = rw e h

  pub call_sheet : (t : Halftone) → Sheet r t → (c : Call) → Sheet r (model_call knit r t c)
  call_sheet t sheet c = call_keeps (Sheet r) t sheet c sheet
      (steps_sheet (kernel_of knit) (knit_fit knit) r big c.budget t sheet)

  pub calls_sheet : (cs : List Call) (t : Halftone) → Sheet r t → Sheet r (model_after_calls knit r t cs)
  unfolding model_after_calls
  calls_sheet [] t sheet = sheet
  calls_sheet (c ∷ cs) t sheet = calls_sheet cs (model_call knit r t c) (call_sheet t sheet c)

  -- what every number of steps keeps, a list of calls keeps
  pub calls_keep : (P : Halftone → Type 0)
      → ((n : ℕ) (t : Halftone) → Sheet r t → P t → P (steps (kernel_of knit) r n t))
      → (cs : List Call) (t : Halftone) → Sheet r t → P t → P (model_after_calls knit r t cs)
  unfolding model_after_calls
  calls_keep P keep [] t sheet h = h
  calls_keep P keep (c ∷ cs) t sheet h = calls_keep P keep cs (model_call knit r t c) (call_sheet t sheet c)
      (call_keeps P t sheet c h (keep c.budget t sheet h))

  -- ---- the same buffers, the same record, the same replies
  module _ (p : List ℤ) (s o : List ℕ) where
    -- what the caller holds is the model's (S 15.2)
    pub calls_held : (cs : List Call) (t : Halftone) → Sheet r t
        → held_after_calls (held_of knit r t p s o) cs ≡ held_of knit r (model_after_calls knit r t cs) p s o
    unfolding held_after_calls model_after_calls
    calls_held [] t sheet = refl
    calls_held (c ∷ cs) t sheet =
        rw (held_same knit known r big power t sheet p s o c)
        (calls_held cs (model_call knit r t c) (call_sheet t sheet c))

    -- and so is every reply (S 15.2)
    pub calls_replies : (cs : List Call) (t : Halftone) → Sheet r t
        → replies_of (held_of knit r t p s o) cs ≡ model_replies knit r t cs
    unfolding replies_of outcomes_of model_replies
    calls_replies [] t sheet = refl
    calls_replies (c ∷ cs) t sheet =
        ap₂ ◌∷◌ (ap (λ (out : AdvanceOutcome). out.reply) (call_same knit known r big power t sheet p s o c))
        (rw (held_same knit known r big power t sheet p s o c)
        (calls_replies cs (model_call knit r t c) (call_sheet t sheet c)))

  -- ---- counting
  -- in all, as many steps as the budgets of the calls not refused
  pub calls_steps : (cs : List Call) (t : Halftone) → Sheet r t
      → model_after_calls knit r t cs ≡ steps (kernel_of knit) r (granted cs (model_replies knit r t cs)) t
  unfolding model_after_calls model_replies granted steps is_refusal
  calls_steps [] t sheet = refl
  calls_steps (c ∷ cs) t sheet = go (modelled t sheet c)
      (calls_steps cs (model_call knit r t c) (call_sheet t sheet c))
    where
      go : Modelled t c
          → model_after_calls knit r (model_call knit r t c) cs
          ≡ steps (kernel_of knit) r (granted cs (model_replies knit r (model_call knit r t c) cs))
          (model_call knit r t c)
          → model_after_calls knit r (model_call knit r t c) cs
          ≡ steps (kernel_of knit) r
          (granted (c ∷ cs) (model_reply knit r t c ∷ model_replies knit r (model_call knit r t c) cs)) t
      go (taken e f) ih =
          rw (f, said_not_refusal (top_of (steps (kernel_of knit) r c.budget t).pyramid))
          (ih ∙ ap (λ (u : Halftone). steps (kernel_of knit) r
          (granted cs (model_replies knit r (model_call knit r t c) cs)) u) e
          ∙ steps_add (kernel_of knit) r c.budget
          (granted cs (model_replies knit r (model_call knit r t c) cs)) t)
      go (refusing n e f) ih =
          rw (f, zero-add)
          (ih ∙ ap (λ (u : Halftone). steps (kernel_of knit) r
          (granted cs (model_replies knit r (model_call knit r t c) cs)) u) e)

  -- so the dots made are the smaller of these and the dots due (S 15.3)
  pub calls_number : (cs : List Call) (t : Halftone) → Sheet r t
      → (model_after_calls knit r t cs).dots
      ≡ t.dots + min (granted cs (model_replies knit r t cs)) (dots_due (top_of t.pyramid))
  calls_number cs t sheet =
      rw (calls_steps cs t sheet)
      (steps_made (kernel_of knit) (knit_fit knit) r big (granted cs (model_replies knit r t cs)) t sheet)

  -- and from a start without dots they are the first ones that the model makes
  pub calls_first : (cs : List Call) (t : Halftone) → Sheet r t → t.dots ≡ 0
      → model_after_calls knit r t cs ≡ steps (kernel_of knit) r (model_after_calls knit r t cs).dots t
  calls_first cs t sheet h =
      calls_steps cs t sheet
      ∙ sym (steps_min (kernel_of knit) (knit_fit knit) r big (granted cs (model_replies knit r t cs)) t sheet)
      ∙ ap (λ (n : ℕ). steps (kernel_of knit) r n t) (omega (arith, calls_number cs t sheet))

  -- ---- finished
  -- a call that isn't refused says finished exactly if no dot is due then (S 15.3)
  pub reply_finished : (t : Halftone) → Sheet r t → (c : Call)
      → is_refusal (model_reply knit r t c).said ≡ false → ((model_reply knit r t c).said ≡ finished)
      ↔ (dots_due (top_of (model_call knit r t c).pyramid) ≡ 0)
  unfolding is_refusal
  reply_finished t sheet c h = go (modelled t sheet c)
    where
      go : Modelled t c → ((model_reply knit r t c).said ≡ finished)
          ↔ (dots_due (top_of (model_call knit r t c).pyramid) ≡ 0)
      go (taken e f) = rw (e, f) (finished_due (top_of (steps (kernel_of knit) r c.budget t).pyramid))
      go (refusing n e f) = let b : is_refusal (refused n) ≡ false = rw f at h in absurd (true≢false b)

  -- the dots made and the dots due stay as many
  pub call_due : (t : Halftone) → Sheet r t → (c : Call)
      → (model_call knit r t c).dots + dots_due (top_of (model_call knit r t c).pyramid)
      ≡ t.dots + dots_due (top_of t.pyramid)
  call_due t sheet c =
      call_keeps (λ u. u.dots + dots_due (top_of u.pyramid)
      ≡ t.dots + dots_due (top_of t.pyramid)) t sheet c refl
      (steps_due (kernel_of knit) (knit_fit knit) r big c.budget t sheet)
