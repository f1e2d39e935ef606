-- Steps past the dots due change nothing, so n steps are as many as are due, or n (`steps_min`).
use Rattle.std.specs.Prelude.{◌≡◌, refl, Bool, true, false, pos}
use Rattle.std.proofs.Math.Path.{sym}
use Rattle.std.proofs.Common.{◌∙◌}
use Prim.Native.Nat.{ℕ, zero, suc, ◌^◌, ◌≤◌, min}
use native.Mathlib.Omega.{arith}
use Rattle.std.proofs.Math.Decide.{dec_le}
use Rattle.std.specs.Int.Signed.{le_z}
use Rattle.definition.specs.Pyramid.{half_dot}
use Rattle.definition.specs.Diffusion.{Kernel}
use Rattle.definition.specs.Model.{Halftone, top_of, step, steps}
use Rattle.definition.specs.Advance.{dots_due}
use Rattle.integers.specs.Linear.{ints, up_or_dn}
use Rattle.shares.specs.Kernels.{Fit}
use Rattle.dots.proofs.Steps.{Sheet, step_idle, due_is, steps_due, steps_made}

module _ (kernel : Kernel) (fit : Fit kernel) (r : ℕ) (big : 2 ≤ 2 ^ r) where
  -- and steps past the dots due change nothing
  idle : (s : Halftone) → dots_due (top_of s.pyramid) ≡ 0 → step kernel r s ≡ s
  idle s h = step_idle kernel r s (go (le_z (pos half_dot) (top_of s.pyramid)) refl)
    where
      go : (b : Bool) → le_z (pos half_dot) (top_of s.pyramid) ≡ b → le_z (pos half_dot) (top_of s.pyramid) ≡ false
      go true e = absurd (omega (ints, due_is (top_of s.pyramid), up_or_dn (top_of s.pyramid)))
      go false e = e

  pub steps_min : (n : ℕ) (s : Halftone) → Sheet r s
      → steps kernel r (min n (dots_due (top_of s.pyramid))) s ≡ steps kernel r n s
  unfolding steps
  steps_min zero s sheet = let z : min 0 (dots_due (top_of s.pyramid)) ≡ 0 = omega arith in rw z
  steps_min (suc n) s sheet = go (dec_le (suc n) (dots_due (top_of s.pyramid))) (steps_min n s sheet)
    where
      go : Dec (suc n ≤ dots_due (top_of s.pyramid))
          → steps kernel r (min n (dots_due (top_of s.pyramid))) s ≡ steps kernel r n s
          → steps kernel r (min (suc n) (dots_due (top_of s.pyramid))) s ≡ step kernel r (steps kernel r n s)
      go (yes d) ih = let z : min (suc n) (dots_due (top_of s.pyramid)) ≡ suc n = omega arith in rw z
      go (no d) ih =
          let z : min (suc n) (dots_due (top_of s.pyramid)) ≡ min n (dots_due (top_of s.pyramid)) = omega arith in
          rw z ih ∙ sym (idle (steps kernel r n s)
          (omega (arith, steps_due kernel fit r big n s sheet, steps_made kernel fit r big n s sheet)))
