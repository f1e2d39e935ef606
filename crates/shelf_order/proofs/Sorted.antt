-- What the list of a shelf is (`sorted`), and that no other list is so (`only_list`).
use Rattle.std.specs.Prelude.{◌≡◌, ◌≢◌, false, List, [], ◌∷◌, ℕ, suc, ◌≤◌, ◌<◌, ltb, length, get_or}
use Rattle.std.proofs.Math.Path.{refl}
use Rattle.std.proofs.Common.{sym, ap₂, ◌∙◌, inl, inr, true≢false, arith, eq-eqb, ne_eqb}
use Rattle.std.proofs.Math.Decide.{ℕ_discrete}
use Rattle.definition.specs.Answers.{same}
use Rattle.definition.specs.Shelf.{is_before, plate_at, in_order}
use Rattle.integers.specs.Tests.{bit}
use Rattle.shelf_order.specs.Differences.{not_before}
use Rattle.shelf_order.proofs.Order.{OneWay, goes_before, is_same, goes_after, one_way, same_iff}
use Rattle.shelf_order.specs.Insertion.{Each, Pairs, times}
use Rattle.shelf_order.proofs.Insertion.{each_map, pairs_at, stands, Precedes, precedes_chain, not_itself, precedes}
use Rattle.shelf_order.proofs.Insertion.{times_in_order, in_order_pairs}

-- ---- two lists with the same numbers, both in a strict order
module _ (R : ℕ → ℕ → Type 0) (through : (x y z : ℕ) → R x y → R y z → R x z) where
  -- neighbours in order are enough
  linked : (l : List ℕ) → ((i : ℕ) → suc i < length l → R (get_or l i 0) (get_or l (suc i) 0)) → Pairs R l
  linked [] h = tt
  linked (x ∷ []) h = (tt, tt)
  linked (x ∷ y ∷ ys) h =
      let rest = linked (y ∷ ys) (λ i lt. h (suc i) (omega arith)) in
      let first = h 0 (omega arith) in
      ((first, each_map (R y) (R x) (λ z p. through x y z first p) ys rest.0), rest)

times_none : (x : ℕ) → times x [] ≡ 0
times_none x = unfold times in refl

times_here : (z x : ℕ) (xs : List ℕ) → z ≡ x → times z (x ∷ xs) ≡ suc (times z xs)
unfolding times bit
times_here z x xs e = rw (eq-eqb z x e) (omega arith)

times_other : (z x : ℕ) (xs : List ℕ) → z ≢ x → times z (x ∷ xs) ≡ times z xs
unfolding times bit
times_other z x xs ne = rw (ne_eqb z x ne) (omega arith)

-- what holds of each holds of a number that stands there
stands_there : (P : ℕ → Type 0) (z : ℕ) (xs : List ℕ) → 1 ≤ times z xs → Each P xs → P z
stands_there P z [] l h = absurd (unfold times in omega (arith, l))
stands_there P z (x ∷ xs) l h = go (ℕ_discrete z x) (λ m. stands_there P z xs m h.1)
  where
    go : Dec (z ≡ x) → (1 ≤ times z xs → P z) → P z
    go (yes e) later = rw e h.0
    go (no e) later = later (omega (arith, times_other z x xs e))

module _ (R : ℕ → ℕ → Type 0) (through : (x y z : ℕ) → R x y → R y z → R x z)
    (strict : (x : ℕ) → R x x → ⊥) where
  only : (l m : List ℕ) → Pairs R l → Pairs R m → ((z : ℕ) → times z l ≡ times z m) → l ≡ m
  only [] [] p q e = refl
  only [] (y ∷ ys) p q e = absurd (omega (arith, e y, times_none y, times_here y y ys refl))
  only (x ∷ xs) [] p q e = absurd (omega (arith, e x, times_none x, times_here x x xs refl))
  only (x ∷ xs) (y ∷ ys) p q e = go (ℕ_discrete x y) (only xs ys p.1 q.1)
    where
      fewer : x ≡ y → (z : ℕ) → Dec (z ≡ x) → times z xs ≡ times z ys
      fewer s z (yes d) = omega (arith, e z, times_here z x xs d, times_here z y ys (d ∙ s))
      fewer s z (no d) = omega (arith, e z, times_other z x xs d, times_other z y ys (λ w. d (w ∙ sym s)))

      -- if the heads differ, each stands in the other's tail
      other : x ≢ y → R x y
      other ne =
          let far = times_other y x xs (λ d. ne (sym d)) in
          stands_there (R x) y xs (omega (arith, e y, times_here y y ys refl, far)) p.0

      other' : x ≢ y → R y x
      other' ne = stands_there (R y) x ys (omega (arith, e x, times_here x x xs refl, times_other x y ys ne)) q.0

      go : Dec (x ≡ y) → (((z : ℕ) → times z xs ≡ times z ys) → xs ≡ ys) → x ∷ xs ≡ y ∷ ys
      go (yes d) ih = ap₂ ◌∷◌ d (ih (λ z. fewer d z (ℕ_discrete z x)))
      go (no d) ih = absurd (strict x (through x y x (other d) (other' d)))

module _ (r : ℕ) (plates : List ℕ) where
  pub record Sorted (n : ℕ) (l : List ℕ) : Type 0 where
    -- each number below n stands in it once, and no other number
    pub each_once : (x : ℕ) → times x l ≡ bit (ltb x n)
    -- of two neighbours the first is not after the second
    pub neighbours : (i : ℕ) → suc i < length l
        → is_before (stands r plates (get_or l (suc i) 0) (get_or l i 0)) ≡ false
    -- of equal plates the lower number comes first
    pub lower_first : (i j : ℕ) → i < j → j < length l → stands r plates (get_or l i 0) (get_or l j 0) ≡ same
        → get_or l i 0 < get_or l j 0

  -- the list of a shelf is so
  pub sorted : (n : ℕ) → Sorted n (in_order r plates n)
  sorted n =
      record {
        each_once = times_in_order r plates n;
        neighbours = λ i lt. not_back (pair i (suc i) (omega arith) lt);
        lower_first = λ i j lt l e. lower (pair i j lt l) e;
      }
    where
      pair : (i j : ℕ) → i < j → j < length (in_order r plates n)
          → Precedes r plates (get_or (in_order r plates n) i 0) (get_or (in_order r plates n) j 0)
      pair i j lt l = pairs_at (Precedes r plates) (in_order r plates n) i j lt l (in_order_pairs r plates n)

      not_back : {x y : ℕ} → Precedes r plates x y → is_before (stands r plates y x) ≡ false
      not_back {x} {y} h = go (one_way r (plate_at r plates x) (plate_at r plates y)) h
        where
          go : OneWay r (plate_at r plates x) (plate_at r plates y) → Precedes r plates x y
              → is_before (stands r plates y x) ≡ false
          go (goes_before p q s) h = q
          go (is_same p q s) h = s
          go (goes_after p q s) (inl k) = absurd (true≢false (sym k ∙ q))
          go (goes_after p q s) (inr k) = absurd (s ((same_iff r _ _).0 k.0))

      lower : {x y : ℕ} → Precedes r plates x y → stands r plates x y ≡ same → x < y
      lower (inl h) e = not_before e h
      lower (inr h) e = h.1

  -- and no other list is (S 15.12)
  pub only_list : (n : ℕ) (l : List ℕ) → Sorted n l → l ≡ in_order r plates n
  only_list n l h =
      only (Precedes r plates) (precedes_chain r plates) (λ x. not_itself r plates x) l (in_order r plates n)
      (linked (Precedes r plates) (precedes_chain r plates) l
      (λ i lt. precedes r plates _ _ (h.neighbours i lt) (h.lower_first i (suc i) (omega arith) lt)))
      (in_order_pairs r plates n)
      (λ z. h.each_once z ∙ sym (times_in_order r plates n z))
