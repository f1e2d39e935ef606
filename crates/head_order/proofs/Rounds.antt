-- Rounds, as a loop makes them: what a run keeps (`State` of `RoundState`, with `start_state` and `next_state_lem`),
-- one round more (`rounds_on`), the end (`rounds_over`), and that a run ends only where no round makes a hole (`runs`).
use Rattle.std.specs.Prelude.{◌≡◌, ◌⊎◌, Bool, cond, eqb, ℤ, pos, ◌-ℤ◌}
use Rattle.std.proofs.Math.Path.{refl}
use Rattle.std.proofs.Common.{sym, ap, ◌∙◌, inl, arith}
use Rattle.std.proofs.Math.Logic.{inr}
use Rattle.std.proofs.Math.Bool.{true, false}
use mathlib.Core.List.{List, [], ◌∷◌}
use Prim.Native.Nat.{ℕ, zero, suc, ◌+◌, ◌*◌, ◌-◌, ◌≤◌, ◌<◌}
use Rattle.std.proofs.Math.Decide.{ℕ_discrete}
use Rattle.std.proofs.Math.Dec.{leb}
use borrow.Author.Tests.{eq-eqb, ne_eqb, leb-true, leb-false, le-leb, lt-leb}
use Rattle.definition.specs.Pyramid.{one_dot}
use Rattle.definition.specs.Blocks.{grey_total}
use Rattle.definition.specs.Diffusion.{Kernel}
use Rattle.definition.specs.Model.{Halftone, top_of, model_start, place_dot}
use Rattle.heads.specs.TwoHeads.{Macroblock, burns, wanted, work, work_all, macroblocks, rounds, most_rounds}
use Rattle.integers.specs.Linear.{zz, ints}
use Rattle.shares.specs.Kernels.{Fit}
use Rattle.dots.proofs.Steps.{Sheet, dot_top}
use Rattle.guarantee.specs.PriceList.{Each}
use Rattle.guarantee.proofs.Start.{start_sheet, start_capped}
use Rattle.head_order.specs.Promise.{Fits}
use Rattle.head_order.proofs.Working.{
  big,
  cell_row,
  cell_column,
  cell_owes,
  burned_dots,
  work_keeps,
  work_sheet,
  work_made,
  work_idle,
}
use Rattle.head_order.proofs.RoundState.{Balance, State, Ended}
use Rattle.head_order.proofs.FourRounds.{still_all}
use Rattle.head_order.proofs.Orders.{round_fits, all_sheet}

-- ---- rounds by their definition, in any order
module _ (kernel : Kernel) (r : ℕ) (order : ℕ → List Macroblock) where
  -- what round t makes of a sheet, and the rounds without a hole then
  abbrev pub after_round : ℕ → Halftone → Halftone
  after_round t s = work_all kernel r s (order t)

  abbrev pub next_idle : ℕ → ℕ → Halftone → ℕ
  next_idle t idle s = cond (eqb (after_round t s).dots s.dots) (suc idle) 0

  pub rounds_on : (fuel t idle : ℕ) (s : Halftone) → leb 4 idle ≡ false
      → rounds kernel r order (suc fuel) t idle s
      ≡ rounds kernel r order fuel (suc t) (next_idle t idle s) (after_round t s)
  unfolding rounds
  rounds_on fuel t idle s e = rw (e, rounds)

  -- four rounds on end without a hole are the end (S 13.4)
  pub rounds_over : (fuel t idle : ℕ) (s : Halftone) → 4 ≤ idle → rounds kernel r order fuel t idle s ≡ s
  unfolding rounds
  rounds_over zero t idle s h = refl
  rounds_over (suc fuel) t idle s h = rw (le-leb 4 idle h, rounds)

-- one hole more or none, then some more or none
grows_on : (s one all : Halftone) → (one.dots ≡ suc s.dots) ⊎ (one ≡ s) → (one.dots < all.dots) ⊎ (all ≡ one)
    → (s.dots < all.dots) ⊎ (all ≡ s)
grows_on s one all (inl d) (inl g) = inl (omega arith)
grows_on s one all (inl d) (inr e) = inl (omega (arith, ap (λ (t : Halftone). t.dots) e))
grows_on s one all (inr d) (inl g) = inl (omega (arith, ap (λ (t : Halftone). t.dots) d))
grows_on s one all (inr d) (inr e) = inr (e ∙ d)

module _ (kernel : Kernel) (fit : Fit kernel) (r : ℕ) (four≤ : 4 ≤ r) where
  -- ---- one macroblock
  -- a hole takes one dot's worth from the top
  burned_top : (s : Halftone) (sheet : Sheet r s) (m : Macroblock) (fits : Fits r m) → burns r s.pyramid m ≡ true
      → top_of (place_dot kernel r s (wanted r s.pyramid m)).pyramid ≡ top_of s.pyramid -ℤ pos one_dot
  burned_top s sheet m fits b =
      let c = wanted r s.pyramid m in
      dot_top kernel fit r (big r four≤) s sheet c.0 c.1 (cell_row kernel fit r four≤ s sheet m fits b)
      (cell_column kernel fit r four≤ s sheet m fits b) (cell_owes kernel fit r four≤ s sheet m fits b)

  work_balance : (z : ℤ) (s : Halftone) → Sheet r s → (m : Macroblock) → Fits r m → Balance kernel fit r four≤ z s
      → Balance kernel fit r four≤ z (work kernel r s m)
  work_balance z s sheet m fits h =
      work_keeps kernel fit r four≤ (Balance kernel fit r four≤ z) s m h
      (λ b.
      let t = burned_top s sheet m fits b in
      let d = burned_dots kernel fit r four≤ s sheet m fits b in
      rw (t, d) (simp zz (omega (ints, simp zz at h))))

  -- a hole more, or nothing
  pub work_grows : (s : Halftone) → Sheet r s → (m : Macroblock) → Fits r m
      → ((work kernel r s m).dots ≡ suc s.dots) ⊎ (work kernel r s m ≡ s)
  work_grows s sheet m fits = go (burns r s.pyramid m) refl
    where
      go : (b : Bool) → burns r s.pyramid m ≡ b
          → ((work kernel r s m).dots ≡ suc s.dots) ⊎ (work kernel r s m ≡ s)
      go true e =
          inl (ap (λ (t : Halftone). t.dots) (work_made kernel r s m e)
          ∙ burned_dots kernel fit r four≤ s sheet m fits e)
      go false e = inr (work_idle kernel r s m e)

  -- ---- a list of macroblocks
  all_balance : (z : ℤ) (ms : List Macroblock) → Each (Fits r) ms → (s : Halftone) → Sheet r s
      → Balance kernel fit r four≤ z s
      → Balance kernel fit r four≤ z (work_all kernel r s ms)
  unfolding work_all
  all_balance z [] f s sheet h = h
  all_balance z (m ∷ ms) f s sheet h =
      all_balance z ms f.1 (work kernel r s m) (work_sheet kernel fit r four≤ s sheet m f.0)
      (work_balance z s sheet m f.0 h)

  -- holes more, or nothing
  pub all_grows : (ms : List Macroblock) → Each (Fits r) ms → (s : Halftone) → Sheet r s
      → (s.dots < (work_all kernel r s ms).dots) ⊎ (work_all kernel r s ms ≡ s)
  unfolding work_all
  all_grows [] f s sheet = inr refl
  all_grows (m ∷ ms) f s sheet =
      grows_on s (work kernel r s m) (work_all kernel r (work kernel r s m) ms) (work_grows s sheet m f.0)
      (all_grows ms f.1 (work kernel r s m) (work_sheet kernel fit r four≤ s sheet m f.0))

  -- ---- a run, by row then column
  abbrev after : ℕ → Halftone → Halftone
  after t s = after_round kernel r (macroblocks r) t s

  abbrev idle_next : ℕ → ℕ → Halftone → ℕ
  idle_next t idle s = next_idle kernel r (macroblocks r) t idle s

  pub state_fuel : (z : ℤ) (fuel t idle : ℕ) (s : Halftone) → State kernel fit r four≤ z fuel t idle s → idle < 4
      → 0 < fuel
  state_fuel z fuel t idle s h lt = omega (arith, h.enough)

  pub next_state_lem : (z : ℤ) (fuel t idle : ℕ) (s : Halftone) → State kernel fit r four≤ z (suc fuel) t idle s
      → idle < 4
      → State kernel fit r four≤ z fuel (suc t) (idle_next t idle s) (after t s)
  next_state_lem z fuel t idle s h lt = go (all_grows (macroblocks r t) (round_fits r t) s h.sheet)
    where
      sheet' : Sheet r (after t s)
      sheet' = all_sheet kernel fit r four≤ (macroblocks r t) (round_fits r t) s h.sheet

      go : (s.dots < (after t s).dots) ⊎ (after t s ≡ s) → State kernel fit r four≤ z fuel (suc t) (idle_next t idle s)
          (after t s)
      go (inl g) =
          rw (ne_eqb (after t s).dots s.dots (λ e. omega arith))
          (record {
            sheet = sheet';
            balance = all_balance z (macroblocks r t) (round_fits r t) s h.sheet h.balance;
            quiet = λ u lo hi. absurd (omega arith);
            few = omega arith;
            past = omega arith;
            enough = omega (arith, h.enough, sheet'.sound.few_dots_lem);
          })
      go (inr e) =
          rw (e, eq-eqb s.dots s.dots refl)
          (record {
            sheet = h.sheet;
            balance = h.balance;
            quiet = λ u lo hi. last u lo hi (ℕ_discrete u t);
            few = omega arith;
            past = omega (arith, h.past);
            enough = omega (arith, h.enough);
          })
        where
          last : (u : ℕ) → u < suc t → suc t ≤ u + suc idle → Dec (u ≡ t) → work_all kernel r s (macroblocks r u) ≡ s
          last u lo hi (yes z) = ap (λ (v : ℕ). work_all kernel r s (macroblocks r v)) z ∙ e
          last u lo hi (no z) = h.quiet u (omega arith) (omega arith)

  -- the same for a loop that counts its fuel down from a number that it knows not to be 0
  some_left : (z : ℤ) (fuel t idle : ℕ) (s : Halftone) → State kernel fit r four≤ z fuel t idle s → idle < 4
      → suc (fuel - 1) ≡ fuel
  some_left z fuel t idle s h lt = omega (arith, h.enough)

  pub state_on : (z : ℤ) (fuel t idle : ℕ) (s : Halftone) → State kernel fit r four≤ z fuel t idle s → idle < 4
      → State kernel fit r four≤ z (fuel - 1) (suc t) (idle_next t idle s) (after t s)
  state_on z fuel t idle s h lt =
      let e = some_left z fuel t idle s h lt in
      next_state_lem z (fuel - 1) t idle s (rw e h) lt

  pub rounds_next : (z : ℤ) (fuel t idle : ℕ) (s : Halftone) → State kernel fit r four≤ z fuel t idle s → idle < 4
      → rounds kernel r (macroblocks r) fuel t idle s
      ≡ rounds kernel r (macroblocks r) (fuel - 1) (suc t) (idle_next t idle s) (after t s)
  rounds_next z fuel t idle s h lt =
      ap (λ (n : ℕ). rounds kernel r (macroblocks r) n t idle s) (sym (some_left z fuel t idle s h lt))
      ∙ rounds_on kernel r (macroblocks r) (fuel - 1) t idle s (lt-leb 4 idle lt)

  pub ended : (z : ℤ) (fuel t idle : ℕ) (s : Halftone) → State kernel fit r four≤ z fuel t idle s → idle ≡ 4
      → Ended kernel fit r four≤ z s
  ended z fuel t idle s h e =
      record {
        sheet = h.sheet;
        balance = h.balance;
        still = still_all kernel fit r four≤ t s (omega (arith, h.past)) (λ u lo hi. h.quiet u lo (omega arith));
      }

  pub runs : (z : ℤ) (fuel t idle : ℕ) (s : Halftone) → State kernel fit r four≤ z fuel t idle s
      → Ended kernel fit r four≤ z (rounds kernel r (macroblocks r) fuel t idle s)
  unfolding rounds
  runs z zero t idle s h = ended z 0 t idle s h (omega (arith, h.few, h.enough))
  runs z (suc fuel) t idle s h = go (leb 4 idle) refl (runs z fuel (suc t) (idle_next t idle s) (after t s))
    where
      go : (b : Bool) → leb 4 idle ≡ b
          → (State kernel fit r four≤ z fuel (suc t) (idle_next t idle s) (after t s)
          → Ended kernel fit r four≤ z (rounds kernel r (macroblocks r) fuel (suc t) (idle_next t idle s) (after t s)))
          → Ended kernel fit r four≤ z (rounds kernel r (macroblocks r) (suc fuel) t idle s)
      go true b ih = rw (b, rounds) (ended z (suc fuel) t idle s h (omega (arith, leb-true 4 idle b, h.few)))
      go false b ih = rw (b, rounds) (ih (next_state_lem z fuel t idle s h (omega (arith, leb-false 4 idle b))))

  -- at the start of a map
  pub start_state : (greys : List ℕ) → Each (λ grey. grey ≤ 255) greys
      → State kernel fit r four≤ (pos (256 * grey_total r greys)) (most_rounds r) 0 0 (model_start r greys)
  unfolding most_rounds
  start_state greys bytes =
      record {
        sheet = start_sheet r greys bytes;
        balance = (start_capped r greys bytes).total;
        quiet = λ u lo hi. absurd (omega arith);
        few = omega arith;
        past = omega arith;
        enough = omega arith;
      }
