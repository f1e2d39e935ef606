-- A stage of a loaded map is a sheet that so many steps from the start lead to (`Stage`). It depends on its dots alone,
-- so the kept number of dots makes the kept sheet again (`stage_again`).
use Rattle.std.specs.Prelude.{◌≡◌, List, ℕ, ◌+◌, ◌^◌, ◌≤◌, min}
use Rattle.std.proofs.Math.Path.{refl}
use Rattle.std.proofs.Common.{sym, ap, ◌∙◌, arith}
use Rattle.definition.specs.Blocks.{grey_total, total_of}
use Rattle.definition.specs.Diffusion.{kernel_of}
use Rattle.definition.specs.Model.{Halftone, top_of, model_start, steps}
use Rattle.definition.specs.Refusals.{power_of}
use Rattle.definition.specs.Advance.{dots_due}
use Rattle.definition.specs.AdvanceList.{Call, model_call}
use Rattle.shares.specs.Kernels.{knit_fit}
use Rattle.dots.proofs.Steps.{Sheet, steps_sheet, steps_made, steps_add}
use Rattle.dots.proofs.StepsMin.{steps_min}
use Rattle.guarantee.specs.PriceList.{Each}
use Rattle.guarantee.proofs.Start.{start_sheet, start_dots, start_due}
use Rattle.guarantee.proofs.ManyCalls.{call_keeps}

module _ (knit : ℕ) (known : knit ≤ 1) (r : ℕ) (big : 2 ≤ 2 ^ r) (power : power_of (2 ^ r) ≡ r)
    (greys : List ℕ) (bytes : Each (λ grey. grey ≤ 255) greys) where
  abbrev fresh : Halftone
  fresh = model_start r greys

  abbrev total : ℕ
  total = total_of (grey_total r greys)

  fresh_sheet : Sheet r (model_start r greys)
  fresh_sheet = start_sheet r greys bytes

  due_total : dots_due (top_of (model_start r greys).pyramid) ≡ total
  due_total = omega (arith, start_dots r greys bytes, start_due r greys bytes)

  pub record Stage (t : Halftone) : Type 0 where
    pub made : ℕ
    pub is : t ≡ steps (kernel_of knit) r made (model_start r greys)

  pub stage_first : Stage (model_start r greys)
  unfolding steps
  stage_first = record { made = 0; is = refl }

  pub stage_sheet : (t : Halftone) → Stage t → Sheet r t
  stage_sheet t h =
      rw h.is (steps_sheet (kernel_of knit) (knit_fit knit) r big h.made (model_start r greys) fresh_sheet)

  pub dots_of : (n : ℕ) → (steps (kernel_of knit) r n (model_start r greys)).dots ≡ min n total
  dots_of n =
      omega (
        arith,
        steps_made (kernel_of knit) (knit_fit knit) r big n (model_start r greys) fresh_sheet,
        due_total,
        start_dots r greys bytes,
      )

  pub stage_most : (t : Halftone) → Stage t → t.dots ≤ total
  stage_most t h = rw h.is (omega (arith, dots_of h.made))

  -- so many steps from the start make the kept sheet again (S 10.2)
  pub stage_again : (t : Halftone) → Stage t → steps (kernel_of knit) r t.dots (model_start r greys) ≡ t
  stage_again t h =
      ap (λ (u : Halftone). steps (kernel_of knit) r u.dots (model_start r greys)) h.is
      ∙ ap (λ (n : ℕ). steps (kernel_of knit) r n (model_start r greys))
      (omega (arith, dots_of h.made, due_total))
      ∙ steps_min (kernel_of knit) (knit_fit knit) r big h.made (model_start r greys) fresh_sheet
      ∙ sym h.is

  -- an Advance call leads from stage to stage
  pub stage_call : (t : Halftone) → Stage t → (call : Call) → Stage (model_call knit r t call)
  stage_call t h call = call_keeps knit known r big power Stage t (stage_sheet t h) call h further
    where
      further : Stage (steps (kernel_of knit) r call.budget t)
      further =
          record {
            made = h.made + call.budget;
            is =
                ap (steps (kernel_of knit) r call.budget) h.is
                ∙ steps_add (kernel_of knit) r h.made call.budget (model_start r greys);
          }
