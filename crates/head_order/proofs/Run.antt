-- A map run to the end with two heads (`TwoHeads`, `two_heads_lem`): the sheet is sound, no cell is burnt twice, holes
-- and debt add up to the greys, no further round makes a hole, and the order within a round does not matter.
use Rattle.std.proofs.Common.{ap, arith, add-sub_cancel}
use Rattle.std.specs.Prelude.{◌≢◌, List, ℕ, ◌+◌, ◌*◌, ◌≤◌, ◌<◌, get_or, pos}
use Rattle.definition.specs.Blocks.{grey_total}
use Rattle.definition.specs.Diffusion.{Kernel}
use Rattle.definition.specs.Model.{Halftone, model_start}
use Rattle.definition.specs.Sound.{Sound}
use Rattle.heads.specs.TwoHeads.{Macroblock, macroblocks, most_rounds, two_heads_in, two_heads}
use Rattle.shares.specs.Kernels.{Fit}
use Rattle.dots.proofs.Steps.{Sheet}
use Rattle.guarantee.specs.PriceList.{Each}
use Rattle.guarantee.proofs.Start.{start_sheet}
use Rattle.head_order.specs.Promise.{Reordered, TwoHeads}
use Rattle.head_order.proofs.Working.{Alike, alike_refl}
use Rattle.head_order.proofs.Orders.{run_any_order}
use Rattle.head_order.proofs.Rounds.{runs, start_state}
use Rattle.head_order.proofs.RoundState.{Ended}

-- the serials of the first places are their numbers
different : (r : ℕ) (s : Halftone) → Sound r s → (i j : ℕ) → i < j → j < s.dots
    → get_or s.order i 0 ≢ get_or s.order j 0
different r s sound i j h k e =
    let a = (sound.in_order (i + 1) (omega arith) (omega arith)).1 in
    let b = (sound.in_order (j + 1) (omega arith) (omega arith)).1 in
    omega (
      arith,
      rw (add-sub_cancel i 1) at a,
      rw (add-sub_cancel j 1) at b,
      ap (λ (c : ℕ). get_or s.serials c 0) e,
    )

module _ (kernel : Kernel) (fit : Fit kernel) (r : ℕ) (four≤ : 4 ≤ r) (greys : List ℕ)
    (bytes : Each (λ grey. grey ≤ 255) greys) where
  run_ended : Ended kernel fit r four≤ (pos (256 * grey_total r greys)) (two_heads kernel r greys)
  unfolding two_heads two_heads_in
  run_ended =
      runs kernel fit r four≤ (pos (256 * grey_total r greys)) (most_rounds r) 0 0 (model_start r greys)
      (start_state kernel fit r four≤ greys bytes)

  -- it is a sheet in buffers of just the needed lengths
  pub run_sheet : Sheet r (two_heads kernel r greys)
  run_sheet = run_ended.sheet

  run_alike : (order : ℕ → List Macroblock) → ((t : ℕ) → Reordered (macroblocks r t) (order t))
      → Alike kernel fit r four≤ (two_heads_in kernel r order greys) (two_heads kernel r greys)
  unfolding two_heads two_heads_in
  run_alike order e =
      let fresh = model_start r greys in
      run_any_order kernel fit r four≤ order e (most_rounds r) 0 0 fresh fresh
      (alike_refl kernel fit r four≤ fresh (start_sheet r greys bytes))

  -- what a run leaves (S 15.15)
  pub two_heads_lem : TwoHeads kernel r greys (two_heads kernel r greys)
  two_heads_lem =
      record {
        sound = run_sheet.sound;
        once = different r (two_heads kernel r greys) run_sheet.sound;
        debt = run_ended.balance;
        stopped = run_ended.still;
        any_order = λ order e.
            let same = run_alike order e in
            record { pyramid = same.pyramid; cells = same.burnt };
      }
