-- A list whose first n places hold a function of their place: what a loop that fills a list leaves after n turns
-- (`filled_none`, `filled_store`, `filled_all`).
use Rattle.std.specs.Prelude.{◌≡◌, drop}
use Rattle.std.proofs.Math.Path.{refl, sym, ap}
use Rattle.std.proofs.Common.{◌∙◌, zero-add, length-append, length-drop, drop_of_length-le, drop-cons}
use Rattle.std.proofs.Common.{get_or-append-add}
use mathlib.Core.List.{List, [], ◌∷◌, ◌++◌, append-nil, append_assoc}
use Prim.Native.Nat.{ℕ, zero, suc, ◌+◌, ◌-◌, ◌≤◌, ◌<◌}
use Rattle.std.proofs.Math.Numerals.{add-one}
use native.Mathlib.Omega.{arith}
use Rattle.std.proofs.Math.ListN.{length, get_or, set}
use Rattle.std.proofs.Math.Seq.{drop_at, get_or-drop}
use Rattle.definition.specs.Lists.{tabulate, tabulate_from}
use Rattle.integers.specs.Lists.{length_tabulate, set_append_add}

module _ {A : Type 0} where
  -- n places before the rest of a list: one store more behind them, and the length
  pub front_store : (front l : List A) (v : A) {n : ℕ} → length front ≡ n → n < length l
      → set (front ++ drop n l) n v ≡ (front ++ v ∷ []) ++ drop (n + 1) l
  front_store front l v {n} e h =
      let at : length front + 0 ≡ n = omega arith in
      rw at at (set_append_add front (drop n l) 0 v) ∙ rw (drop-cons l n v h, add-one n, append_assoc)

  pub length_front : (front l : List A) {n : ℕ} → length front ≡ n → n ≤ length l
      → length (front ++ drop n l) ≡ length l
  length_front front l {n} e h = omega (arith, length-append front (drop n l), length-drop n l)

  unfoldable pub filled : (ℕ → A) → ℕ → List A → List A
  filled f n l = tabulate n f ++ drop n l

  pub filled_none : (f : ℕ → A) (l : List A) → l ≡ filled f 0 l
  unfolding filled tabulate_from
  filled_none f l = refl

  tabulate_snoc : (f : ℕ → A) (i n : ℕ) → tabulate_from i (suc n) f ≡ tabulate_from i n f ++ f (i + n) ∷ []
  unfolding tabulate_from
  tabulate_snoc f i zero = ap (λ (k : ℕ). f k ∷ []) (omega arith)
  tabulate_snoc f i (suc n) =
      ap (λ (t : List A). f i ∷ t)
      (tabulate_snoc f (suc i) n ∙ ap (λ (k : ℕ). tabulate_from (suc i) n f ++ f k ∷ []) (omega arith))

  -- one store more
  pub filled_store : (f : ℕ → A) (n : ℕ) (l : List A) {p : List A} {v : A} → n < length l → p ≡ filled f n l → v ≡ f n
      → set p n v ≡ filled f (n + 1) l
  unfolding filled
  filled_store f n l {p} {v} h e q =
      let t = tabulate n f in
      let last : t ++ v ∷ [] ≡ tabulate (suc n) f = ap (λ (u : A). t ++ u ∷ []) (q ∙ ap f (sym (zero-add n)))
      ∙ sym (tabulate_snoc f 0 n) in
      ap (λ (u : List A). set u n v) e ∙ front_store t l v (length_tabulate 0 n f) h ∙ rw (last, add-one n)

  pub length_filled : (f : ℕ → A) (n : ℕ) (l : List A) → n ≤ length l → length (filled f n l) ≡ length l
  unfolding filled
  length_filled f n l h = length_front (tabulate n f) l (length_tabulate 0 n f) h

  -- the places past the first n are as they were
  pub filled_past : (f : ℕ → A) (n : ℕ) (l : List A) (i : ℕ) (d : A) → n ≤ i → get_or (filled f n l) i d ≡ get_or l i d
  unfolding filled
  filled_past f n l i d h =
      let long : length (tabulate n f) ≡ n = length_tabulate 0 n f in
      let at : length (tabulate n f) + (i - n) ≡ i = omega arith in
      let back : n + (i - n) ≡ i = omega arith in
      rw at at (get_or-append-add (tabulate n f) (drop n l) (i - n) d) ∙ get_or-drop n l (i - n) d
      ∙ ap (λ (k : ℕ). get_or l k d) back

  pub drop_filled : (f : ℕ → A) (n : ℕ) (l : List A) → drop n (filled f n l) ≡ drop n l
  unfolding filled
  drop_filled f n l = drop_at (tabulate n f) (drop n l) n (length_tabulate 0 n f)

  -- all of them
  pub filled_all : (f : ℕ → A) (n : ℕ) (l : List A) → length l ≤ n → filled f n l ≡ tabulate n f
  unfolding filled
  filled_all f n l h =
      ap (λ (t : List A). tabulate n f ++ t) (drop_of_length-le l {i = n} h) ∙ append-nil (tabulate n f)
