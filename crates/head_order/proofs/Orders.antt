-- The macroblocks of a round lie on the map (`round_fits`, `round_fits_at`) and no two of them share a cell
-- (`round_apart`, `round_apart_at`). So they can be worked in any order, and each round of a run in an order of its own
-- (`round_any_order`, `run_any_order`): the pyramid and the burnt cells are the same.
use Rattle.std.specs.Prelude.{◌≡◌, ◌≢◌, Bool, true, false, cond, leb, eqb}
use Rattle.std.proofs.Math.Path.{refl}
use Rattle.std.proofs.Common.{ap, ap₂, arith, div-add-mod', div-lt_iff_lt-mul, mod-lt}
use mathlib.Core.List.{List, [], ◌∷◌, ◌++◌}
use Prim.Native.Nat.{ℕ, zero, suc, ◌+◌, ◌*◌, ◌/◌, ◌%◌, ◌≤◌, ◌<◌}
use Rattle.definition.specs.Lists.{tabulate_from}
use Rattle.definition.specs.Diffusion.{Kernel}
use Rattle.definition.specs.Model.{Halftone}
use Rattle.heads.specs.TwoHeads.{Macroblock, work, work_all, row_offset, column_offset, across, macroblocks, rounds}
use Rattle.shares.specs.Kernels.{Fit}
use Rattle.dots.proofs.Steps.{Sheet}
use Rattle.guarantee.specs.PriceList.{Each}
use Rattle.head_order.specs.Promise.{Fits, Apart, Reordered}
use Rattle.head_order.proofs.ApartOf.{apart_of}
use Rattle.head_order.proofs.Working.{
  apart_sym,
  Alike,
  alike_refl,
  alike_trans,
  work_sheet,
  work_swap,
  work_alike,
}

-- ---- lists
-- R holds of each two elements, the earlier one first
abbrev pub Pairs : {A : Type 0} → (A → A → Type 0) → List A → Type 0
Pairs R [] = Unit {0}
Pairs R (x ∷ xs) = Each (R x) xs × Pairs R xs

pub reordered_refl : {A : Type 0} (xs : List A) → Reordered xs xs
reordered_refl [] = refl
reordered_refl (x ∷ xs) = record { before = []; after = xs; is = refl; rest = reordered_refl xs }

module _ {A : Type 0} (P : A → Type 0) where
  each_before : (xs ys : List A) → Each P (xs ++ ys) → Each P xs
  each_before [] ys h = tt
  each_before (x ∷ xs) ys h = (h.0, each_before xs ys h.1)

  each_insert : (x : A) (xs ys : List A) → P x → Each P (xs ++ ys) → Each P (xs ++ x ∷ ys)
  each_insert x [] ys p h = (p, h)
  each_insert x (z ∷ xs) ys p h = (h.0, each_insert x xs ys p h.1)

  pub each_reordered : (xs ys : List A) → Reordered xs ys → Each P xs → Each P ys
  each_reordered [] ys e h = rw e tt
  each_reordered (x ∷ xs) ys e h =
      rw e.is
      (each_insert x e.before e.after h.0 (each_reordered xs (e.before ++ e.after) e.rest h.1))

  pub each_tabulate : (i n : ℕ) (f : ℕ → A) → ((k : ℕ) → i ≤ k → k < i + n → P (f k)) → Each P (tabulate_from i n f)
  unfolding tabulate_from
  each_tabulate i zero f h = tt
  each_tabulate i (suc n) f h =
      (h i (omega arith) (omega arith), each_tabulate (suc i) n f (λ k l m. h k (omega arith) (omega arith)))

pairs_tabulate : {A : Type 0} (R : A → A → Type 0) (i n : ℕ) (f : ℕ → A)
    → ((k l : ℕ) → k < l → l < i + n → R (f k) (f l)) → Pairs R (tabulate_from i n f)
unfolding tabulate_from
pairs_tabulate R i zero f h = tt
pairs_tabulate R i (suc n) f h = (
  each_tabulate (R (f i)) (suc i) n f (λ k l m. h i k (omega arith) (omega arith)),
  pairs_tabulate R (suc i) n f (λ k l m o. h k l m (omega arith)),
)

-- ---- the macroblocks of a round
-- how many there are, and the i-th of them
abbrev pub in_round : ℕ → ℕ → ℕ
in_round r t = across r (row_offset t) * across r (column_offset t)

abbrev pub in_place : ℕ → ℕ → ℕ → Macroblock
in_place r t i =
    (row_offset t + 2 * (i / across r (column_offset t)), column_offset t + 2 * (i % across r (column_offset t)))

pub round_is : (r t : ℕ) → macroblocks r t ≡ tabulate_from 0 (in_round r t) (in_place r t)
unfolding macroblocks
round_is r t = refl

some_across : (k n i : ℕ) → i < k * n → 0 < n
some_across k zero i h = absurd (omega arith)
some_across k (suc n) i h = omega arith

row_of : (n k i : ℕ) → 0 < n → i < k * n → i / n < k
row_of n k i p h = (div-lt_iff_lt-mul p).1 h

-- each lies on the map
pub round_fits_at : (r t i : ℕ) → i < in_round r t → Fits r (in_place r t i)
round_fits_at r t i h =
    let some = some_across (across r (row_offset t)) (across r (column_offset t)) i h in
    record {
      row = omega (arith, row_of (across r (column_offset t)) (across r (row_offset t)) i some h);
      column = omega (arith, mod-lt i some);
    }

-- all of a round lie wholly on the map (S 13.1)
pub round_fits : (r t : ℕ) → Each (Fits r) (macroblocks r t)
unfolding macroblocks
round_fits r t = each_tabulate (Fits r) 0 (in_round r t) (in_place r t) (λ i l h. round_fits_at r t i (omega arith))

differ : (n i j : ℕ) → i ≢ j → i / n ≡ j / n → i % n ≡ j % n → ⊥
differ n i j ne e f = ne (omega (arith, div-add-mod' i n, div-add-mod' j n, ap (λ (q : ℕ). q * n) e))

pub round_apart_at : (r t i j : ℕ) → i ≢ j → Apart (in_place r t i) (in_place r t j)
round_apart_at r t i j ne = apart_of _ _ _ _ _ _ (λ e f. differ (across r (column_offset t)) i j ne e f)

pub round_apart : (r t : ℕ) → Pairs Apart (macroblocks r t)
unfolding macroblocks
round_apart r t =
    pairs_tabulate Apart 0 (in_round r t) (in_place r t) (λ i j lt h. round_apart_at r t i j (λ e. omega arith))

-- ---- macroblocks one after the other
-- the first of a list by place, and none
pub work_first : (kernel : Kernel) (r : ℕ) (s : Halftone) (i n : ℕ) (f : ℕ → Macroblock)
    → work_all kernel r s (tabulate_from i (suc n) f)
    ≡ work_all kernel r (work kernel r s (f i)) (tabulate_from (suc i) n f)
unfolding work_all tabulate_from
work_first kernel r s i n f = refl

pub work_none : (kernel : Kernel) (r : ℕ) (s : Halftone) (i : ℕ) (f : ℕ → Macroblock)
    → work_all kernel r s (tabulate_from i 0 f) ≡ s
unfolding work_all tabulate_from
work_none kernel r s i f = refl

module _ (kernel : Kernel) (fit : Fit kernel) (r : ℕ) (four≤ : 4 ≤ r) where
  abbrev Same : Halftone → Halftone → Type 0
  Same = Alike kernel fit r four≤

  pub all_sheet : (ms : List Macroblock) → Each (Fits r) ms → (s : Halftone) → Sheet r s
      → Sheet r (work_all kernel r s ms)
  unfolding work_all
  all_sheet [] f s h = h
  all_sheet (m ∷ ms) f s h =
      all_sheet ms f.1 (work kernel r s m) (work_sheet kernel fit r four≤ s h m f.0)

  pub all_alike : (ms : List Macroblock) → Each (Fits r) ms → (s t : Halftone) → Same s t
      → Same (work_all kernel r s ms) (work_all kernel r t ms)
  unfolding work_all
  all_alike [] f s t h = h
  all_alike (m ∷ ms) f s t h =
      all_alike ms f.1 (work kernel r s m) (work kernel r t m) (work_alike kernel fit r four≤ s t h m f.0)

  swapped : (n m : Macroblock) → Fits r n → Fits r m → Apart m n → (s : Halftone) → Sheet r s
      → Same (work kernel r (work kernel r s n) m) (work kernel r (work kernel r s m) n)
  swapped n m f g a s h = work_swap kernel fit r four≤ s h n m f g (apart_sym m n a)

  -- one that shares no cell with those before it can be worked first
  to_front : (m : Macroblock) (before after : List Macroblock) → Fits r m → Each (Fits r) (before ++ after)
      → Each (Apart m) before → (s : Halftone) → Sheet r s
      → Same (work_all kernel r s (before ++ m ∷ after)) (work_all kernel r (work kernel r s m) (before ++ after))
  unfolding work_all
  to_front m [] after f fs a s h =
      alike_refl kernel fit r four≤ _ (all_sheet after fs _ (work_sheet kernel fit r four≤ s h m f))
  to_front m (n ∷ before) after f fs a s h =
      alike_trans kernel fit r four≤ _ _ _
      (to_front m before after f fs.1 a.1 (work kernel r s n) (work_sheet kernel fit r four≤ s h n fs.0))
      (all_alike (before ++ after) fs.1 _ _ (swapped n m fs.0 f a.0 s h))

  -- macroblocks of which no two share a cell, worked in any order
  pub any_order : (ms ns : List Macroblock) → Reordered ms ns → Each (Fits r) ms → Pairs Apart ms
      → (s : Halftone) → Sheet r s → Same (work_all kernel r s ns) (work_all kernel r s ms)
  unfolding work_all
  any_order [] ns e f a s h = rw e (alike_refl kernel fit r four≤ s h)
  any_order (m ∷ ms) ns e f a s h =
      let others = each_reordered (Fits r) ms (e.before ++ e.after) e.rest f.1 in
      let apart = each_reordered (Apart m) ms (e.before ++ e.after) e.rest a.0 in
      rw e.is
      (alike_trans kernel fit r four≤ _ _ _
      (to_front m e.before e.after f.0 others (each_before (Apart m) e.before e.after apart) s h)
      (any_order ms (e.before ++ e.after) e.rest f.1 a.1 (work kernel r s m)
      (work_sheet kernel fit r four≤ s h m f.0)))

  -- a round
  pub round_any_order : (t : ℕ) (ns : List Macroblock) → Reordered (macroblocks r t) ns → (s : Halftone) → Sheet r s
      → Same (work_all kernel r s ns) (work_all kernel r s (macroblocks r t))
  round_any_order t ns e s h = any_order (macroblocks r t) ns e (round_fits r t) (round_apart r t) s h

  -- a run, each round in an order of its own (S 15.15)
  pub run_any_order : (order : ℕ → List Macroblock) → ((t : ℕ) → Reordered (macroblocks r t) (order t))
      → (fuel t idle : ℕ) (s u : Halftone) → Same s u
      → Same (rounds kernel r order fuel t idle s) (rounds kernel r (macroblocks r) fuel t idle u)
  unfolding rounds
  run_any_order order e zero t idle s u h = h
  run_any_order order e (suc fuel) t idle s u h = go (leb 4 idle) refl (run_any_order order e fuel)
    where
      after : Same (work_all kernel r s (order t)) (work_all kernel r u (macroblocks r t))
      after =
          alike_trans kernel fit r four≤ (work_all kernel r s (order t)) (work_all kernel r s (macroblocks r t))
          (work_all kernel r u (macroblocks r t))
          (round_any_order t (order t) (e t) s h.first) (all_alike (macroblocks r t) (round_fits r t) s u h)

      idle_same : cond (eqb (work_all kernel r s (order t)).dots s.dots) (suc idle) 0
          ≡ cond (eqb (work_all kernel r u (macroblocks r t)).dots u.dots) (suc idle) 0
      idle_same = ap₂ (λ (m n : ℕ). cond (eqb m n) (suc idle) 0) after.dots h.dots

      go : (b : Bool) → leb 4 idle ≡ b
          → ((t idle : ℕ) (s u : Halftone) → Same s u
          → Same (rounds kernel r order fuel t idle s) (rounds kernel r (macroblocks r) fuel t idle u))
          → Same (rounds kernel r order (suc fuel) t idle s) (rounds kernel r (macroblocks r) (suc fuel) t idle u)
      go true b ih = rw (b, rounds) h
      go false b ih =
          rw (b, rounds, idle_same)
          (ih (suc t) (cond (eqb (work_all kernel r u (macroblocks r t)).dots u.dots) (suc idle) 0)
          (work_all kernel r s (order t)) (work_all kernel r u (macroblocks r t)) after)
