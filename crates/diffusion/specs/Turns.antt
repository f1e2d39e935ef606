-- The turns of the diffusion, one neighbour after the other (`Turns`, `turn`).
use Rattle.std.specs.Prelude.{◌≡◌, ◌≢◌, List, ℕ, zero, suc, ◌+◌, ◌*◌, ◌-◌, ◌/◌, ◌^◌, ◌≤◌, ◌<◌, length, get_or, ℤ, pos}
use Rattle.std.proofs.Math.Path.{refl}
use Rattle.std.proofs.Common.{sym, ◌∙◌, arith, div-le_self, add-one}
use Rattle.definition.specs.Lists.{sum_to}
use Rattle.definition.specs.Diffusion.{places_in_turn, kernel_of, row_near, column_near, weight_at, share, diffuse}
use Rattle.layouts.specs.Cells.{rows_level}
use Rattle.pyramid.specs.PyramidPart.{Within}
use Rattle.pyramid.specs.Four.{within_mono}
use Rattle.shares.specs.Neighbours.{weight_on_map}
use Rattle.diffusion.specs.OneTurn.{share_taken, ShareAsked, DiffuseAsked}
use Rattle.diffusion.specs.Weights.{turn_nine, sum_none, sum_next, sum_more}
use Rattle.diffusion.specs.Shares.{share_fair, taken_within}

module _ (knit r row column d : ℕ) (cells : List ℤ) where
  abbrev weights : ℕ → ℕ
  weights = weight_at (kernel_of knit) r row column

  diffuse_none : cells ≡ diffuse (kernel_of knit) r row column d 0 cells
  unfolding diffuse
  diffuse_none = refl

  diffuse_suc : (n : ℕ) → diffuse (kernel_of knit) r row column d (suc n) cells
      ≡ share_taken r row column (get_or places_in_turn n 4) (weights n) (share 9 weights d n)
      (diffuse (kernel_of knit) r row column d n cells)
  unfolding diffuse share_taken kernel_of
  diffuse_suc n = refl

  share_is : (n : ℕ) {before w all s : ℕ} → before ≡ sum_to n weights → w ≡ weights n
      → all ≡ sum_to 9 weights → s ≡ d * (before + w) / all - d * before / all → s ≡ share 9 weights d n
  unfolding share sum_to
  share_is n eb ew ea es = es ∙ rw (eb, ew, ea)

  diffuse_within : d ≤ 2 ^ 41 → ((i : ℕ) → Within (2 ^ 40) (get_or cells i (pos 0)))
      → (n : ℕ) → n ≤ 9 → (i : ℕ)
      → Within (2 ^ 40 + n * 2 ^ 46) (get_or (diffuse (kernel_of knit) r row column d n cells) i (pos 0))
  diffuse_within f h zero le i = rw (sym diffuse_none) (h i)
  diffuse_within f h (suc n) le i =
      let fair : share 9 weights d n ≤ 2 ^ 46 =
      rw (sym (share_is n refl refl refl refl))
      (share_fair d (sum_to n weights) (sum_to n weights + weights n) (sum_to 9 weights) f
      (sum_next knit r row column n (omega arith) refl refl)) in
      rw (diffuse_suc n)
      (within_mono _ _ _ (omega arith)
      (taken_within (2 ^ 40 + n * 2 ^ 46) r row column (get_or places_in_turn n 4) (weights n) (share 9 weights d n)
      (diffuse (kernel_of knit) r row column d n cells) (diffuse_within f h n (omega arith)) i))

-- the loop after n turns: the weights, what was given and, row after row, the cells so far
pub record Turns (cells : List ℤ) (knit r row column d all : ℕ) (part : List ℤ) (sum given n : ℕ) : Type 0 where
  pub few : n ≤ 9
  pub weighed : sum ≡ sum_to n (weight_at (kernel_of knit) r row column)
  pub gave : given ≡ d * sum / all
  pub list : rows_level r part ≡ diffuse (kernel_of knit) r row column d n (rows_level r cells)
  pub long : length part ≡ length cells

pub turns_none : (cells : List ℤ) (knit r row column d all : ℕ) → Turns cells knit r row column d all cells 0 0 0
turns_none cells knit r row column d all =
    record {
      few = omega arith;
      weighed = sum_none knit r row column;
      gave = omega (arith, div-le_self (d * 0) all);
      list = diffuse_none knit r row column d (rows_level r cells);
      long = refl;
    }

module _ (cells : List ℤ) (knit r row column d : ℕ) (h : DiffuseAsked cells r row column d) (all : ℕ)
    (part : List ℤ) (sum given n : ℕ) (t : Turns cells knit r row column d all part sum given n) (lt : n < 9)
    (w : ℕ) (ew : w ≡ weight_at (kernel_of knit) r row column n) (until : ℕ)
    (eu : until ≡ d * (sum + w) / all) where
  module _ (p : ℕ) (ep : p ≡ get_or places_in_turn n 4) where
    -- a neighbour that weighs something lies on the map
    on_map_lem : w ≢ 0 → (1 ≤ row_near row p) × (row_near row p ≤ 2 ^ r)
        × (1 ≤ column_near column p) × (column_near column p ≤ 2 ^ r)
    unfolding kernel_of
    on_map_lem ne = rw ep (weight_on_map (kernel_of knit) r row column n (λ z. ne (ew ∙ z)))

    pub turn_asked : ShareAsked part r row column p w (until - given)
    turn_asked =
        record {
          cell = h.cell;
          nine = turn_nine n lt ep;
          near = on_map_lem;
          fair =
              rw (t.gave, eu)
              (share_fair d sum (sum + w) all h.fair (sum_next knit r row column n lt t.weighed ew));
          whole = t.long ∙ h.whole;
          small = λ i.
              rw t.list
              (within_mono _ _ _ (omega arith)
              (diffuse_within knit r row column d (rows_level r cells) h.fair h.small n t.few i));
        }

    pub turn : (next : List ℤ) → all ≡ sum_to 9 (weight_at (kernel_of knit) r row column)
        → rows_level r next ≡ share_taken r row column p w (until - given) (rows_level r part)
        → length next ≡ length part → Turns cells knit r row column d all next (sum + w) until (n + 1)
    turn next ea e k =
        let s : until - given ≡ share 9 (weight_at (kernel_of knit) r row column) d n =
        share_is knit r row column d (rows_level r cells) n t.weighed ew ea (rw (t.gave, eu)) in
        record {
          few = omega arith;
          weighed = sum_more knit r row column n t.weighed ew;
          gave = eu;
          list =
              e ∙ rw (t.list, s, ew, ep, add-one n) (sym (diffuse_suc knit r row column d (rows_level r cells) n));
          long = k ∙ t.long;
        }
