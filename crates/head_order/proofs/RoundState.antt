-- What a run by two heads keeps from round to round (`State`), and what it reaches (`Ended`).
use Rattle.std.specs.Prelude.{◌≡◌, ℤ, pos, ◌+ℤ◌}
use Prim.Native.Nat.{ℕ, ◌+◌, ◌*◌, ◌-◌, ◌≤◌, ◌<◌}
use Rattle.definition.specs.Pyramid.{one_dot, cell_count}
use Rattle.definition.specs.Diffusion.{Kernel}
use Rattle.definition.specs.Model.{Halftone, top_of}
use Rattle.shares.specs.Kernels.{Fit}
use Rattle.dots.proofs.Steps.{Sheet}
use Rattle.heads.specs.TwoHeads.{work_all, macroblocks}

module _ (kernel : Kernel) (fit : Fit kernel) (r : ℕ) (four≤ : 4 ≤ r) where
  -- the holes' worth and the debt
  abbrev pub Balance : ℤ → Halftone → Type 0
  Balance z s = pos (one_dot * s.dots) +ℤ top_of s.pyramid ≡ z

  -- the last `idle` of the t rounds made no hole, and would make none again
  abbrev pub Quiet : ℕ → ℕ → Halftone → Type 0
  Quiet t idle s = (u : ℕ) → u < t → t ≤ u + idle → work_all kernel r s (macroblocks r u) ≡ s

  -- What is kept: t rounds have been made, the last `idle` of them without a hole, and `fuel` are enough to end.
  pub record State (z : ℤ) (fuel t idle : ℕ) (s : Halftone) : Type 0 where
    pub sheet : Sheet r s
    pub balance : Balance z s
    pub quiet : Quiet t idle s
    pub few : idle ≤ 4
    pub past : idle ≤ t
    pub enough : 4 * (cell_count r - s.dots) + 4 ≤ fuel + idle

  -- and what is reached
  pub record Ended (z : ℤ) (s : Halftone) : Type 0 where
    pub sheet : Sheet r s
    pub balance : Balance z s
    pub still : (u : ℕ) → work_all kernel r s (macroblocks r u) ≡ s
