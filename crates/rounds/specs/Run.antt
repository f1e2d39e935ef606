-- The run: rounds until four in a row have made no hole (`Going`, `goes_on`, `over`).
use Rattle.std.specs.Prelude.{◌≡◌, refl, cond, List, ℕ, suc, ◌+◌, ◌*◌, ◌-◌, ◌≤◌, ◌<◌, eqb, length, ℤ, ◌+ℤ◌}
use Rattle.std.proofs.Common.{sym, ◌∙◌, arith, add-one}
use Rattle.std.proofs.Math.Nat.{sub-zero}
use Rattle.std.proofs.Math.IntN.{pos}
use Rattle.std.specs.Int.{w64}
use mir.Val as word
use Rattle.definition.specs.Pyramid.{one_dot}
use Rattle.definition.specs.Quarters.{rows_from}
use Rattle.definition.specs.Diffusion.{kernel_of}
use Rattle.definition.specs.Model.{Halftone, top_of}
use Rattle.heads.specs.TwoHeads.{work_all, macroblocks, rounds, most_rounds}
use Rattle.integers.specs.Linear.{zz, ints}
use Rattle.quadtree.specs.Levels.{cells_few}
use Rattle.shares.specs.Kernels.{knit_fit}
use Rattle.head_order.proofs.Rounds.{rounds_over, state_fuel, state_on, rounds_next}
use Rattle.head_order.proofs.RoundState.{State}
use Rattle.macroblock.specs.FourBlocks.{LargeSheet}

-- ---- the run
-- t rounds have been made, the last `idle` of them without a hole: the rounds left lead to where all of them lead from
-- the start
pub record Going (knit r : ℕ) (p₀ : List ℤ) (s₀ o₀ : List ℕ)
    (p : List ℤ) (s o : List ℕ) (dots idle t : ℕ) : Type 0 where
  pub least : 4 ≤ r
  pub state : State (kernel_of knit) (knit_fit knit) r least (top_of (rows_from r p₀)) (most_rounds r - t) t idle
      (record { pyramid = rows_from r p; serials = s; order = o; dots = dots })
  pub long : length p ≡ length p₀
  pub rest : rounds (kernel_of knit) r (macroblocks r) (most_rounds r - t) t idle
      (record { pyramid = rows_from r p; serials = s; order = o; dots = dots })
      ≡ rounds (kernel_of knit) r (macroblocks r) (most_rounds r) 0 0
      (record { pyramid = rows_from r p₀; serials = s₀; order = o₀; dots = 0 })

module _ (knit r : ℕ) (p₀ : List ℤ) (s₀ o₀ : List ℕ)
    (h : LargeSheet r (record { pyramid = rows_from r p₀; serials = s₀; order = o₀; dots = 0 })) where
  abbrev first : Halftone
  first = record { pyramid = rows_from r p₀; serials = s₀; order = o₀; dots = 0 }

  start_enough : State (kernel_of knit) (knit_fit knit) r h.least (top_of (rows_from r p₀)) (most_rounds r) 0 0 first
  unfolding most_rounds
  start_enough =
      record {
        sheet = h.sheet;
        balance = none_owed (top_of (rows_from r p₀));
        quiet = λ u lo hi. absurd (omega arith);
        few = omega arith;
        past = omega arith;
        enough = omega arith;
      }
    where
      none_owed : (z : ℤ) → pos (one_dot * 0) +ℤ z ≡ z
      none_owed z = simp zz (omega ints)

  pub begins : Going knit r p₀ s₀ o₀ p₀ s₀ o₀ 0 0 0
  begins =
      record {
        least = h.least;
        state = rw (sub-zero (most_rounds r)) start_enough;
        long = refl;
        rest = rw (sub-zero (most_rounds r)) refl;
      }

  rounds_few : most_rounds r ≤ 262148
  unfolding most_rounds
  rounds_few = omega (arith, cells_few r h.most)

  module _ (p : List ℤ) (s o : List ℕ) (dots idle t : ℕ) (g : Going knit r p₀ s₀ o₀ p s o dots idle t) where
    abbrev sheet_now : Halftone
    sheet_now = record { pyramid = rows_from r p; serials = s; order = o; dots = dots }

    -- four in a row
    pub over : 4 ≤ idle → sheet_now ≡ rounds (kernel_of knit) r (macroblocks r) (most_rounds r) 0 0 first
    over le = sym (rounds_over (kernel_of knit) r (macroblocks r) (most_rounds r - t) t idle sheet_now le) ∙ g.rest

    -- one more
    module _ (lt : idle < 4) where
      left : 0 < most_rounds r - t
      left = state_fuel (kernel_of knit) (knit_fit knit) r g.least _ (most_rounds r - t) t idle sheet_now g.state lt

      pub next_fits : word.Fits w64 (t + 1)
      next_fits = record { fits = omega (arith, left, rounds_few) }

      pub fewer : most_rounds r - (t + 1) < most_rounds r - t
      fewer = omega (arith, left)

      pub goes_on : (p' : List ℤ) (s' o' : List ℕ) (dots' idle' : ℕ) → length p' ≡ length p
          → record { pyramid = rows_from r p'; serials = s'; order = o'; dots = dots' }
          ≡ work_all (kernel_of knit) r sheet_now (macroblocks r t)
          → idle' ≡ cond (eqb dots' dots) (suc idle) 0
          → Going knit r p₀ s₀ o₀ p' s' o' dots' idle' (t + 1)
      goes_on p' s' o' dots' idle' kept e ei =
          let k = kernel_of knit in
          let f = knit_fit knit in
          let one : most_rounds r - t - 1 ≡ most_rounds r - suc t = omega arith in
          let state = state_on k f r g.least _ (most_rounds r - t) t idle sheet_now g.state lt in
          let next = rounds_next k f r g.least _ (most_rounds r - t) t idle sheet_now g.state lt in
          record {
            least = g.least;
            state = rw (ei, add-one t) (rw (← e, one) at state);
            long = kept ∙ g.long;
            rest = rw (ei, add-one t) (sym (rw (← e, one) at next)) ∙ g.rest;
          }
