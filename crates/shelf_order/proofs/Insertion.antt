-- What insertion does to a list of plate numbers: which numbers it holds (`times_in_order`), that it stays in order
-- (`in_order_pairs`), and at which place a plate is put (`insert_at`).
use Rattle.std.specs.Prelude.{◌≡◌, ◌⊎◌, Bool, true, eqb, ltb, get_or, take, drop}
use Rattle.std.proofs.Math.Path.{refl, ap}
use Rattle.std.proofs.Common.{sym, ◌∙◌, inl, inr, true≢false, arith}
use Rattle.std.proofs.Math.Bool.{false}
use mathlib.Core.List.{List, [], ◌∷◌, ◌++◌}
use Prim.Native.Nat.{ℕ, zero, suc, ◌+◌, ◌≤◌, ◌<◌}
use Rattle.std.proofs.Math.Decide.{ℕ_discrete, dec_lt}
use Rattle.std.proofs.Math.ListN.{length}
use borrow.Author.Tests.{eq-eqb, ne_eqb, lt-ltb, le-ltb}
use Rattle.definition.specs.Answers.{Compared, same}
use Rattle.definition.specs.Shelf.{compared, plate_at, is_before, insert, in_order}
use Rattle.integers.specs.Tests.{bit}
use Rattle.shelf_order.specs.Differences.{not_before}
use Rattle.shelf_order.proofs.Order.{
  OneWay,
  goes_before,
  is_same,
  goes_after,
  one_way,
  chain,
  same_iff,
  alike,
}
use Rattle.shelf_order.specs.Insertion.{Each, Pairs, times}

pub each_map : {A : Type 0} (P Q : A → Type 0) → ((x : A) → P x → Q x) → (xs : List A)
    → Each P xs → Each Q xs
each_map P Q f [] h = tt
each_map P Q f (x ∷ xs) h = (f x h.0, each_map P Q f xs h.1)

pub each_at : (P : ℕ → Type 0) (ys : List ℕ) (i : ℕ) → i < length ys → Each P ys → P (get_or ys i 0)
each_at P [] i lt h = absurd (omega arith)
each_at P (y ∷ ys) zero lt h = h.0
each_at P (y ∷ ys) (suc i) lt h = each_at P ys i (omega arith) h.1

pub pairs_at : (R : ℕ → ℕ → Type 0) (ys : List ℕ) (i j : ℕ) → i < j → j < length ys → Pairs R ys
    → R (get_or ys i 0) (get_or ys j 0)
pairs_at R [] i j lt l h = absurd (omega arith)
pairs_at R (y ∷ ys) zero zero lt l h = absurd (omega arith)
pairs_at R (y ∷ ys) zero (suc j) lt l h = each_at (R y) ys j (omega arith) h.0
pairs_at R (y ∷ ys) (suc i) zero lt l h = absurd (omega arith)
pairs_at R (y ∷ ys) (suc i) (suc j) lt l h = pairs_at R ys i j (omega arith) (omega arith) h.1

module _ (r : ℕ) (plates : List ℕ) where
  -- how plate x stands to plate y
  abbrev pub stands : ℕ → ℕ → Compared
  stands x y = compared r (plate_at r plates x) (plate_at r plates y)

  -- plate x comes before plate y, or is the same and has the lower number
  abbrev pub Precedes : ℕ → ℕ → Type 0
  Precedes x y = (is_before (stands x y) ≡ true) ⊎ ((stands x y ≡ same) × (x < y))

  pub precedes_chain : (x y z : ℕ) → Precedes x y → Precedes y z → Precedes x z
  precedes_chain x y z (inl h) (inl k) = inl (chain r _ _ _ h k)
  precedes_chain x y z (inl h) (inr k) = inl (ap is_before (sym (alike r _ _ (plate_at r plates x) k.0).1) ∙ h)
  precedes_chain x y z (inr h) (inl k) = inl (ap is_before (alike r _ _ (plate_at r plates z) h.0).0 ∙ k)
  precedes_chain x y z (inr h) (inr k) = inr ((alike r _ _ (plate_at r plates z) h.0).0 ∙ k.0, omega arith)

  pub itself : (x : ℕ) → stands x x ≡ same
  itself x = (same_iff r _ _).1 (λ u v a b. refl)

  pub not_itself : {A : Type 0} (x : ℕ) → Precedes x x → A
  not_itself x (inl h) = not_before (itself x) h
  not_itself x (inr h) = absurd (omega arith)

  -- of two plates that stand one before the other, where the second does not come before the first
  pub precedes : (x y : ℕ) → is_before (stands y x) ≡ false → (stands x y ≡ same → x < y) → Precedes x y
  precedes x y h k = go (one_way r (plate_at r plates x) (plate_at r plates y))
    where
      go : OneWay r (plate_at r plates x) (plate_at r plates y) → Precedes x y
      go (goes_before p q s) = inl p
      go (is_same p q s) = let e = (same_iff r _ _).1 p in inr (e, k e)
      go (goes_after p q s) = absurd (true≢false (sym p ∙ h))

  -- ---- one plate put in
  module _ (x y : ℕ) (ys : List ℕ) where
    insert_front : is_before (stands x y) ≡ true → insert r plates x (y ∷ ys) ≡ x ∷ y ∷ ys
    insert_front e = unfold insert in rw (e, insert)

    insert_later : is_before (stands x y) ≡ false → insert r plates x (y ∷ ys) ≡ y ∷ insert r plates x ys
    insert_later e = unfold insert in rw (e, insert)

    -- what holds of the list with x in front, and of the one with y in front, holds
    either : (P : List ℕ → Type 0) → (is_before (stands x y) ≡ true → P (x ∷ y ∷ ys))
        → (is_before (stands x y) ≡ false → P (y ∷ insert r plates x ys)) → P (insert r plates x (y ∷ ys))
    either P front later = go (is_before (stands x y)) refl
      where
        go : (b : Bool) → is_before (stands x y) ≡ b → P (insert r plates x (y ∷ ys))
        go true e = rw (insert_front e) (front e)
        go false e = rw (insert_later e) (later e)

  times_insert : (z x : ℕ) (ys : List ℕ) → times z (insert r plates x ys) ≡ bit (eqb z x) + times z ys
  unfolding times
  times_insert z x [] = unfold insert in refl
  times_insert z x (y ∷ ys) =
      either x y ys (λ l. times z l ≡ bit (eqb z x) + times z (y ∷ ys)) (λ e. refl)
      (λ e. omega (arith, times_insert z x ys))

  insert_length : (x : ℕ) (ys : List ℕ) → length (insert r plates x ys) ≡ suc (length ys)
  insert_length x [] = unfold insert in refl
  insert_length x (y ∷ ys) =
      either x y ys (λ l. length l ≡ suc (length (y ∷ ys))) (λ e. refl) (λ e. ap suc (insert_length x ys))

  each_insert : (P : ℕ → Type 0) (x : ℕ) (ys : List ℕ) → P x → Each P ys → Each P (insert r plates x ys)
  each_insert P x [] p h = unfold insert in (p, tt)
  each_insert P x (y ∷ ys) p h = either x y ys (Each P) (λ e. (p, h)) (λ e. (h.0, each_insert P x ys p h.1))

  insert_ordered : (x : ℕ) (ys : List ℕ) → Each (λ y. y < x) ys → Pairs Precedes ys
      → Pairs Precedes (insert r plates x ys)
  insert_ordered x [] l h = unfold insert in (tt, tt)
  insert_ordered x (y ∷ ys) l h =
      either x y ys (Pairs Precedes)
      (λ e. ((inl e, each_map (Precedes y) (Precedes x) (λ z p. precedes_chain x y z (inl e) p) ys h.0), h))
      (λ e. (each_insert (Precedes y) x ys (precedes y x e (λ z. l.0)) h.0, insert_ordered x ys l.1 h.1))

  -- ---- plate after plate
  pub times_in_order : (n z : ℕ) → times z (in_order r plates n) ≡ bit (ltb z n)
  unfolding in_order times bit
  times_in_order zero z = rw (le-ltb z 0 (omega arith))
  times_in_order (suc n) z = times_insert z n (in_order r plates n) ∙ go (ℕ_discrete z n) (times_in_order n z)
    where
      go : Dec (z ≡ n) → times z (in_order r plates n) ≡ bit (ltb z n)
          → bit (eqb z n) + times z (in_order r plates n) ≡ bit (ltb z (suc n))
      go (yes e) ih = rw (eq-eqb z n e, ih, le-ltb z n (omega arith), lt-ltb z (suc n) (omega arith))
      go (no e) ih = rw (ne_eqb z n e, ih) (other (dec_lt z n))
        where
          other : Dec (z < n) → bit false + bit (ltb z n) ≡ bit (ltb z (suc n))
          other (yes l) = rw (lt-ltb z n l, lt-ltb z (suc n) (omega arith))
          other (no l) = rw (le-ltb z n (omega arith), le-ltb z (suc n) (omega arith))

  pub in_order_length : (n : ℕ) → length (in_order r plates n) ≡ n
  unfolding in_order
  in_order_length zero = refl
  in_order_length (suc n) = insert_length n (in_order r plates n) ∙ ap suc (in_order_length n)

  pub in_order_below : (n : ℕ) → Each (λ y. y < n) (in_order r plates n)
  unfolding in_order
  in_order_below zero = tt
  in_order_below (suc n) =
      each_insert (λ y. y < suc n) n (in_order r plates n) (omega arith)
      (each_map (λ y. y < n) (λ y. y < suc n) (λ y h. omega arith) (in_order r plates n) (in_order_below n))

  pub in_order_pairs : (n : ℕ) → Pairs Precedes (in_order r plates n)
  unfolding in_order
  in_order_pairs zero = tt
  in_order_pairs (suc n) = insert_ordered n (in_order r plates n) (in_order_below n) (in_order_pairs n)

  -- ---- the place of a plate, for the search by halves
  -- whether plate x comes before the one at place i
  abbrev pub before_at_place : ℕ → List ℕ → ℕ → Bool
  before_at_place x ys i = is_before (stands x (get_or ys i 0))

  -- a place with no plate on its left that x comes before, and with such a plate in it, or at the end: there x is put
  pub insert_at : (x : ℕ) (ys : List ℕ) (p : ℕ) → p ≤ length ys
      → ((i : ℕ) → i < p → before_at_place x ys i ≡ false)
      → (p < length ys → before_at_place x ys p ≡ true) → insert r plates x ys ≡ take p ys ++ x ∷ drop p ys
  insert_at x [] p le lo hi = let z : p ≡ 0 = omega arith in rw z (unfold insert in refl)
  insert_at x (y ∷ ys) zero le lo hi = insert_front x y ys (hi (omega arith))
  insert_at x (y ∷ ys) (suc p) le lo hi =
      insert_later x y ys (lo 0 (omega arith))
      ∙ ap (λ (l : List ℕ). y ∷ l)
      (insert_at x ys p (omega arith) (λ i h. lo (suc i) (omega arith)) (λ h. hi (omega arith)))

  -- where x comes before a plate of a list in order, it comes before all behind it
  pub before_onwards : (x : ℕ) (ys : List ℕ) (i j : ℕ) → i < j → j < length ys → Pairs Precedes ys
      → before_at_place x ys i ≡ true → before_at_place x ys j ≡ true
  before_onwards x ys i j lt l h e = go (pairs_at Precedes ys i j lt l h)
    where
      go : Precedes (get_or ys i 0) (get_or ys j 0) → before_at_place x ys j ≡ true
      go (inl q) = chain r _ _ _ e q
      go (inr q) = ap is_before (sym (alike r _ _ (plate_at r plates x) q.0).1) ∙ e
