-- Four rounds on end are all rounds (`still_all`).
use Rattle.std.specs.Prelude.{◌≡◌}
use Rattle.std.proofs.Common.{ap, ◌∙◌, arith}
use Prim.Native.Nat.{ℕ, ◌+◌, ◌*◌, ◌-◌, ◌/◌, ◌%◌, ◌≤◌}
use Rattle.definition.specs.Diffusion.{Kernel}
use Rattle.definition.specs.Model.{Halftone}
use Rattle.shares.specs.Kernels.{Fit}
use Rattle.heads.specs.TwoHeads.{work_all, row_offset, column_offset, macroblocks}
use Rattle.head_order.proofs.RoundState.{Quiet}

-- ---- a round goes by its number's remainder on division by 4
round_turn : (r u v : ℕ) → u % 4 ≡ v % 4 → macroblocks r u ≡ macroblocks r v
unfolding macroblocks
round_turn r u v e =
    let a : column_offset u ≡ column_offset v = omega arith in
    let b : row_offset u ≡ row_offset v = ap (λ (n : ℕ). n / 2) e in
    rw (a, b)

module _ (kernel : Kernel) (fit : Fit kernel) (r : ℕ) (four≤ : 4 ≤ r) where
  -- four rounds are all rounds
  pub still_all : (t : ℕ) (s : Halftone) → 4 ≤ t → Quiet kernel fit r four≤ t 4 s → (u : ℕ)
      → work_all kernel r s (macroblocks r u) ≡ s
  still_all t s h q u =
      let v = t - 4 + (u + 4 * t - (t - 4)) % 4 in
      ap (work_all kernel r s) (round_turn r u v (omega arith)) ∙ q v (omega arith) (omega arith)
