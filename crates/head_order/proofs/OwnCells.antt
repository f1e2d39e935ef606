-- What two heads need in order to work at the same time. A macroblock reads the residuals of its own 64 cells only, and
-- changes no other cell (`OwnCells`, `own_cells`); and two macroblocks of one round have no cell in common
-- (`round_places_apart`; `round_apart` of `Orders` says it of the list).
use Rattle.std.specs.Prelude.{◌≡◌, refl, Bool, true, false, List, [], ◌∷◌, ℕ, zero, suc, ◌+◌, ◌*◌, ◌^◌, ◌≤◌, ◌<◌}
use Rattle.std.specs.Prelude.{length, get_or, ℤ, pos, ◌-ℤ◌}
use Rattle.std.proofs.Common.{sym, ap, ap₂, ◌∙◌, arith}
use Rattle.definition.specs.Pyramid.{entry}
use Rattle.definition.specs.Blocks.{burnt_at}
use Rattle.definition.specs.Diffusion.{Kernel}
use Rattle.definition.specs.Model.{Halftone}
use Rattle.heads.specs.TwoHeads.{Macroblock, wanted, burns, work, macroblocks}
use Rattle.integers.specs.Linear.{up}
use Rattle.quadtree.specs.Points.{δ}
use Rattle.shares.specs.Kernels.{Fit}
use Rattle.shares.specs.Neighbours.{fall}
use Rattle.dots.proofs.Kept.{sound_summed}
use Rattle.dots.proofs.Steps.{Sheet}
use Rattle.guarantee.specs.PriceList.{Each}
use Rattle.head_order.specs.Promise.{Has, Fits, Apart, Agree, OwnCells}
use Rattle.head_order.proofs.Working.{
  has_row,
  has_column,
  wanted_same,
  burns_same,
  cell_has,
  burned_falls,
  burned_burnt,
  work_made,
  work_idle,
  work_away,
  work_unburnt,
}
use Rattle.head_order.proofs.Orders.{Pairs, round_apart}

module _ (kernel : Kernel) (fit : Fit kernel) (r : ℕ) (four≤ : 4 ≤ r) (s : Halftone) (sheet : Sheet r s)
    (m : Macroblock) (fits : Fits r m) where
  module _ (t : Halftone) (sheet' : Sheet r t) (agree : Agree r m s t) where
    burns_too : burns r s.pyramid m ≡ burns r t.pyramid m
    burns_too =
        burns_same r four≤ s.pyramid t.pyramid (sound_summed sheet.sound) (sound_summed sheet'.sound)
        m fits agree

    wanted_too : wanted r s.pyramid m ≡ wanted r t.pyramid m
    wanted_too =
        wanted_same r four≤ s.pyramid t.pyramid (sound_summed sheet.sound) (sound_summed sheet'.sound)
        m fits agree

    -- the cell owes the same in both
    owes_too : burns r s.pyramid m ≡ true
        → entry s.pyramid r (wanted r s.pyramid m).0 (wanted r s.pyramid m).1
        ≡ entry t.pyramid r (wanted r t.pyramid m).0 (wanted r t.pyramid m).1
    owes_too e =
        agree (wanted r s.pyramid m).0 (wanted r s.pyramid m).1 (cell_has kernel fit r four≤ s sheet m fits e)
        ∙ ap (λ (c : ℕ × ℕ). entry t.pyramid r c.0 c.1) wanted_too

    module _ (x y : ℕ) (has : Has m x y) where
      i : x < 2 ^ r
      i = has_row r four≤ m fits x y has

      j : y < 2 ^ r
      j = has_column r four≤ m fits x y has

      leaves_same : (b : Bool) → burns r s.pyramid m ≡ b
          → entry (work kernel r s m).pyramid r x y ≡ entry (work kernel r t m).pyramid r x y
      leaves_same false e =
          rw (work_idle kernel r s m e, work_idle kernel r t m (sym burns_too ∙ e)) (agree x y has)
      leaves_same true e =
          let f = sym burns_too ∙ e in
          rw (work_made kernel r s m e, work_made kernel r t m f)
          (burned_falls kernel fit r four≤ s sheet m fits e x y i j
          ∙ ap₂ (λ (z : ℤ) (n : ℕ). z -ℤ pos n) (agree x y has)
          (ap₂ (λ (c : ℕ × ℕ) (z : ℤ). fall kernel r c.0 c.1 (up z) x y) wanted_too (owes_too e))
          ∙ sym (burned_falls kernel fit r four≤ t sheet' m fits f x y i j))

      marks_same : (b : Bool) → burns r s.pyramid m ≡ b
          → burnt_at r s.serials x y ≡ burnt_at r t.serials x y
          → burnt_at r (work kernel r s m).serials x y ≡ burnt_at r (work kernel r t m).serials x y
      marks_same false e same = rw (work_idle kernel r s m e, work_idle kernel r t m (sym burns_too ∙ e)) same
      marks_same true e same =
          let f = sym burns_too ∙ e in
          rw (work_made kernel r s m e, work_made kernel r t m f)
          (burned_burnt kernel fit r four≤ s sheet m fits e x y i j
          ∙ ap₂ (λ (n : ℕ) (c : ℕ × ℕ). n + δ c.0 x * δ c.1 y) same wanted_too
          ∙ sym (burned_burnt kernel fit r four≤ t sheet' m fits f x y i j))

  pub own_cells : OwnCells kernel r s m
  own_cells =
      record {
        reads = λ t sheet' agree. (burns_too t sheet' agree, wanted_too t sheet' agree);
        leaves = λ t sheet' agree x y has. leaves_same t sheet' agree x y has (burns r s.pyramid m) refl;
        marks = λ t sheet' agree x y has. marks_same t sheet' agree x y has (burns r s.pyramid m) refl;
        writes = λ x y p q out. (
          work_away kernel fit r four≤ s sheet m fits x y p q out,
          work_unburnt kernel fit r four≤ s sheet m fits x y p q out,
        );
      }

-- ---- two macroblocks of one round, by their places in its list
each_place : {A : Type 0} (P : A → Type 0) (l : List A) (d : A) → Each P l → (i : ℕ) → i < length l → P (get_or l i d)
each_place P [] d h i k = absurd (omega arith)
each_place P (x ∷ xs) d h zero k = h.0
each_place P (x ∷ xs) d h (suc i) k = each_place P xs d h.1 i (omega arith)

pairs_place : {A : Type 0} (R : A → A → Type 0) (l : List A) (d : A) → Pairs R l
    → (i j : ℕ) → i < j → j < length l → R (get_or l i d) (get_or l j d)
pairs_place R [] d h i j lt k = absurd (omega arith)
pairs_place R (x ∷ xs) d h i zero lt k = absurd (omega arith)
pairs_place R (x ∷ xs) d h zero (suc j) lt k = each_place (R x) xs d h.0 j (omega arith)
pairs_place R (x ∷ xs) d h (suc i) (suc j) lt k = pairs_place R xs d h.1 i j (omega arith) (omega arith)

pub round_places_apart : (r t i j : ℕ) → i < j → j < length (macroblocks r t)
    → Apart (get_or (macroblocks r t) i (0, 0)) (get_or (macroblocks r t) j (0, 0))
round_places_apart r t i j lt k = pairs_place Apart (macroblocks r t) (0, 0) (round_apart r t) i j lt k
