-- A sheet made anew: the fresh sheet of the greys, then a run of as many dots as are asked (`made_anew`).
use Rattle.std.specs.Prelude.{◌≡◌, List, ◌++◌, ℕ, ◌+◌, ◌^◌, ◌≤◌, min, length, take, drop, ℤ}
use Rattle.std.proofs.Math.Path.{refl}
use Rattle.std.proofs.Common.{sym, ap, ap₂, ◌∙◌, pow_mono, take_at, drop_at}
use Rattle.definition.specs.Pyramid.{needed, cell_count}
use Rattle.definition.specs.Diffusion.{kernel_of}
use Rattle.definition.specs.Model.{Halftone, top_of, model_start, steps}
use Rattle.definition.specs.Quarters.{rows_from, quarters_from}
use Rattle.definition.specs.Advance.{dots_due}
use Rattle.pyramid.specs.PyramidPart.{fresh_pyramid}
use Rattle.layouts.specs.Relaid.{length_rows, length_quarters, rows_back, quarters_back}
use Rattle.shares.specs.Kernels.{knit_fit}
use Rattle.dots.proofs.Steps.{Sheet}
use Rattle.dots.proofs.StepsMin.{steps_min}
use Rattle.guarantee.proofs.Start.{each_of, start_sheet}
use Rattle.fresh_sheet.specs.Filling.{Filled}
use Rattle.dot_run.specs.Running.{RunAsked, Ran}
use Rattle.checkpoints.specs.Restoring.{AnewAsked, Restored}

-- ---- filled, then run; n and c are what the code has worked out for the needed length and the number of cells
module _ {r : ℕ} {g : List ℕ} (p : List ℤ) (s o : List ℕ) (h : AnewAsked r g (length p) (length s) (length o))
    {n c : ℕ} (en : n ≡ needed r) (ec : c ≡ cell_count r)
    {p₁ : List ℤ} {s₁ o₁ : List ℕ} (f : Filled r g p s o p₁ s₁ o₁) where
  abbrev fresh : Halftone
  fresh = model_start r g

  sheet : Sheet r (model_start r g)
  sheet = start_sheet r g (each_of (λ grey. grey ≤ 255) g 0 (λ i l. h.bytes i))

  big : 2 ≤ 2 ^ r
  big = pow_mono {i = 1} {j = r} h.lent.power

  pyramid_is : p₁ ≡ quarters_from r (model_start r g).pyramid ++ drop (needed r) p
  unfolding model_start fresh_pyramid
  pyramid_is = f.pyramid

  serials_is : s₁ ≡ (model_start r g).serials ++ drop (cell_count r) s
  unfolding model_start
  serials_is = f.serials

  order_is : o₁ ≡ (model_start r g).order ++ drop (cell_count r) o
  unfolding model_start
  order_is = f.order

  take_pyramid : take n p₁ ≡ quarters_from r (model_start r g).pyramid
  take_pyramid =
      rw (en, pyramid_is) (take_at (quarters_from r fresh.pyramid) _ (needed r) (length_quarters r fresh.pyramid))

  rows_pyramid : rows_from r (take n p₁) ≡ (model_start r g).pyramid
  rows_pyramid = ap (rows_from r) take_pyramid ∙ rows_back r fresh.pyramid sheet.sized.pyramid

  take_serials : take c s₁ ≡ (model_start r g).serials
  take_serials = rw (ec, serials_is) (take_at fresh.serials _ (cell_count r) sheet.sized.serials)

  take_order : take c o₁ ≡ (model_start r g).order
  take_order = rw (ec, order_is) (take_at fresh.order _ (cell_count r) sheet.sized.order)

  pub pyramid_part : n ≡ length (take n p₁)
  pyramid_part = rw take_pyramid (en ∙ sym (length_quarters r fresh.pyramid))

  pub whole : length (take n p₁) ≡ needed r
  whole = sym pyramid_part ∙ en

  pub serials_part : c ≡ length (take c s₁)
  serials_part = rw take_serials (ec ∙ sym sheet.sized.serials)

  pub order_part : c ≡ length (take c o₁)
  order_part = rw take_order (ec ∙ sym sheet.sized.order)

  abbrev lent : Halftone
  lent = record { pyramid = rows_from r (take n p₁); serials = take c s₁; order = take c o₁; dots = 0 }

  lent_is : lent ≡ model_start r g
  lent_is = λ i. record { pyramid = rows_pyramid i; serials = take_serials i; order = take_order i; dots = no_dots i }
    where
      no_dots : ◌≡◌ {A = ℕ} 0 (model_start r g).dots
      no_dots = unfold model_start in refl

  pub run_asked : RunAsked r lent
  run_asked = record { power = h.lent.power; small = h.lent.small; sheet = rw lent_is sheet }

  module _ (knit dots : ℕ) {made : ℕ} (p' : List ℤ) {s' o' : List ℕ}
      (long : length p' ≡ length (take n p₁))
      (ran : Ran knit r lent dots made
      (record { pyramid = rows_from r p'; serials = s'; order = o'; dots = 0 + made })) where
    after_is : record { pyramid = rows_from r p'; serials = s'; order = o'; dots = 0 + made }
        ≡ steps (kernel_of knit) r dots (model_start r g)
    after_is =
        ran.after_is
        ∙ ap (λ (k : ℕ). steps (kernel_of knit) r k lent) ran.made_is
        ∙ ap (λ (t : Halftone). steps (kernel_of knit) r (min dots (dots_due (top_of t.pyramid))) t) lent_is
        ∙ steps_min (kernel_of knit) (knit_fit knit) r big dots (model_start r g) sheet

    pub made_anew : Restored knit r dots g p s o (p' ++ drop n p₁) (s' ++ drop c s₁) (o' ++ drop c o₁)
    made_anew =
        record {
          long = rw (← after_is) (length_rows r p');
          pyramid =
              rw (← after_is, en, pyramid_is)
              (ap₂ ◌++◌ (sym (quarters_back r p' (long ∙ whole)))
              (drop_at (quarters_from r fresh.pyramid) _ (needed r) (length_quarters r fresh.pyramid)));
          serials =
              rw (← after_is, ec, serials_is)
              (ap (λ (l : List ℕ). s' ++ l) (drop_at fresh.serials _ (cell_count r) sheet.sized.serials));
          order =
              rw (← after_is, ec, order_is)
              (ap (λ (l : List ℕ). o' ++ l) (drop_at fresh.order _ (cell_count r) sheet.sized.order));
        }
