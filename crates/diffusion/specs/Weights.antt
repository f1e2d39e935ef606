-- The turns of the spread (`turn_is`) and the weights around a cell (`weight_plain`, `weight_ribbed`), as the code
-- finds them; the weights' sums are small (`sum_fits`), and the sum of all isn't 0 (`sum_some`).
use Rattle.std.specs.Prelude.{◌≡◌, refl, ◌⊎◌, Bool, ◌||◌, List, [], ◌∷◌, T, eqb}
use Rattle.std.proofs.Common.{sym, ◌∙◌, inl, inr, arith, add-one, eqb→eq, pow_mono, Fits}
use Prim.Native.Nat.{ℕ, zero, suc, ◌+◌, ◌*◌, ◌/◌, ◌%◌, ◌^◌, ◌≤◌, ◌<◌}
use Rattle.std.proofs.Math.Dec.{leb, leb→le}
use Rattle.std.proofs.Math.ListN.{get_or}
use Rattle.std.specs.Int.{w64}
use Rattle.definition.specs.Lists.{sum_to, all_to}
use Rattle.definition.specs.Diffusion.{weights_of, places_in_turn, kernel_of, on_map, weight_at}
use Rattle.integers.specs.Tests.{T_or, all_to_at, cond_both}
use Rattle.integers.specs.Sums.{sum_to_none, sum_to_suc, sum_to_bound}
use Rattle.shares.specs.Kernels.{knit_fit}
use Rattle.shares.specs.Neighbours.{on, on_yes, on_no, weight_is}
use Rattle.shares.proofs.Outflow.{weights_some}
use Rattle.diffusion.specs.OneTurn.{CellAsked}

-- ---- the weights of the nine places: what holds for all is tested for each
pub weight_own : (knit p : ℕ) → p ≡ 4 → 0 ≡ get_or (weights_of knit) p 0
unfolding weights_of
weight_own zero p e = rw e
weight_own (suc n) p e = rw e

-- the weights of a knit are those of another rule, but for the cell itself
unfoldable same_weights : (ℕ → ℕ) → List ℕ → Bool
same_weights rule nine = all_to 9 (λ q. eqb q 4 || eqb (rule q) (get_or nine q 0))

weight_other : (rule : ℕ → ℕ) (nine : List ℕ) → T (same_weights rule nine)
    → (p : ℕ) → p < 9 → (p ≡ 4 → ⊥) → rule p ≡ get_or nine p 0
unfolding same_weights
weight_other rule nine t p h ne =
    go (T_or (eqb p 4) (eqb (rule p) (get_or nine p 0))
    (all_to_at 9 (λ q. eqb q 4 || eqb (rule q) (get_or nine q 0)) t p h))
  where
    go : T (eqb p 4) ⊎ T (eqb (rule p) (get_or nine p 0)) → rule p ≡ get_or nine p 0
    go (inl e) = absurd (ne (eqb→eq _ _ e))
    go (inr e) = eqb→eq _ _ e

pub weight_plain : (knit p : ℕ) → p < 9 → (p ≡ 4 → ⊥) → knit ≡ 0
    → 1 + p % 2 ≡ get_or (weights_of knit) p 0
unfolding same_weights all_to weights_of
weight_plain knit p h ne e = rw e (weight_other (λ q. 1 + q % 2) (weights_of 0) tt p h ne)

pub weight_ribbed : (knit p : ℕ) → p < 9 → (p ≡ 4 → ⊥) → (knit ≡ 0 → ⊥)
    → p % 2 ≡ get_or (weights_of knit) p 0
unfolding same_weights all_to weights_of
weight_ribbed zero p h ne k = absurd (k refl)
weight_ribbed (suc n) p h ne k = weight_other (λ q. q % 2) (weights_of (suc n)) tt p h ne

-- no weight is more than 2
unfoldable small_nine : List ℕ → Bool
small_nine nine = all_to 9 (λ q. leb (get_or nine q 0) 2)

small_nine_lem : (knit : ℕ) → T (small_nine (weights_of knit))
unfolding small_nine all_to weights_of
small_nine_lem zero = tt
small_nine_lem (suc n) = tt

-- ---- the turns: the code's list of them
pub turn_is : (n : ℕ) → n < 9
    → get_or (0 ∷ 2 ∷ 6 ∷ 8 ∷ 1 ∷ 3 ∷ 5 ∷ 7 ∷ 4 ∷ []) n 0 ≡ get_or places_in_turn n 4
unfolding places_in_turn all_to
turn_is n h =
    let nine : List ℕ = 0 ∷ 2 ∷ 6 ∷ 8 ∷ 1 ∷ 3 ∷ 5 ∷ 7 ∷ 4 ∷ [] in
    eqb→eq _ _ (all_to_at 9 (λ m. eqb (get_or nine m 0) (get_or nine m 4)) tt n h)

-- every turn has one of the nine places
pub turn_nine : (n : ℕ) {p : ℕ} → n < 9 → p ≡ get_or places_in_turn n 4 → p < 9
unfolding kernel_of
turn_nine n h e = rw e ((knit_fit 0).turns n h)

-- ---- the weight of place p, which comes in turn n
module _ (knit r row column n : ℕ) {p : ℕ} (t : p ≡ get_or places_in_turn n 4) where
  abbrev here : ℕ
  here = weight_at (kernel_of knit) r row column n

  as_product : here ≡ get_or (weights_of knit) p 0 * (on r (row + p / 3) * on r (column + p % 3))
  unfolding kernel_of
  as_product = rw t (weight_is (kernel_of knit) r row column n)

  off_row : (row + p / 3 ≡ 0) ⊎ (2 ^ r < row + p / 3) → 0 ≡ here
  off_row h = sym (as_product ∙ rw (on_no r (row + p / 3) h) (omega arith))

  off_column : (column + p % 3 ≡ 0) ⊎ (2 ^ r < column + p % 3) → 0 ≡ here
  off_column h = sym (as_product ∙ rw (on_no r (column + p % 3) h) (omega arith))

  pub weight_above : row + p / 3 ≡ 0 → 0 ≡ here
  weight_above e = off_row (inl e)

  pub weight_below : {side : ℕ} → side ≡ 2 ^ r → side < row + p / 3 → 0 ≡ here
  weight_below e h = off_row (inr (omega (arith, e)))

  pub weight_left : column + p % 3 ≡ 0 → 0 ≡ here
  weight_left e = off_column (inl e)

  pub weight_right : {side : ℕ} → side ≡ 2 ^ r → side < column + p % 3 → 0 ≡ here
  weight_right e h = off_column (inr (omega (arith, e)))

  pub weight_on : {side w : ℕ} → side ≡ 2 ^ r → (row + p / 3 ≡ 0 → ⊥) → row + p / 3 ≤ side
      → (column + p % 3 ≡ 0 → ⊥) → column + p % 3 ≤ side → w ≡ get_or (weights_of knit) p 0 → w ≡ here
  weight_on e a b c d q =
      q
      ∙ sym
      (as_product
      ∙ rw (
        on_yes r (row + p / 3) (omega arith) (omega (arith, e)),
        on_yes r (column + p % 3) (omega arith) (omega (arith, e)),
      )
      (omega arith))

-- ---- their sums
module _ (knit r row column : ℕ) where
  abbrev weights : ℕ → ℕ
  weights = weight_at (kernel_of knit) r row column

  weight_le : (n : ℕ) → n < 9 → weights n ≤ 2
  unfolding weight_at kernel_of small_nine
  weight_le n h =
      let p : ℕ = get_or places_in_turn n 4 in
      cond_both (λ (z : ℕ). z ≤ 2) (on_map r row column p) _ 0
      (λ t. leb→le _ 2
      (all_to_at 9 (λ q. leb (get_or (weights_of knit) q 0) 2) (small_nine_lem knit) p (turn_nine n h refl)))
      (λ t. omega arith)

  sum_le : (n : ℕ) → n ≤ 9 → sum_to n weights ≤ 18
  sum_le n h = omega (arith, sum_to_bound n 2 weights (λ m k. weight_le m (omega arith)))

  pub sum_none : 0 ≡ sum_to 0 weights
  sum_none = sym (sum_to_none weights)

  pub sum_more : (n : ℕ) {c w : ℕ} → c ≡ sum_to n weights → w ≡ weights n → c + w ≡ sum_to (n + 1) weights
  sum_more n e q = rw (add-one n) (omega (arith, sum_to_suc n weights))

  pub sum_next : (n : ℕ) {c w : ℕ} → n < 9 → c ≡ sum_to n weights → w ≡ weights n → c + w ≤ 18
  sum_next n h e q = omega (arith, sum_more n e q, sum_le (n + 1) (omega arith))

  pub sum_fits : (n : ℕ) {c w : ℕ} → n < 9 → c ≡ sum_to n weights → w ≡ weights n → Fits w64 (c + w)
  sum_fits n h e q = record { fits = omega (arith, sum_next n h e q) }

  pub sum_some : {all : ℕ} → CellAsked r row column → all ≡ sum_to 9 weights → 0 < all
  sum_some h e =
      let big : 2 ≤ 2 ^ r = pow_mono {i = 1} {j = r} h.least in
      rw e
      (weights_some (kernel_of knit) r row column (knit_fit knit) big 0 0 (2 ^ r) (omega arith) (omega arith)
      (omega (arith, h.above)) (omega (arith, h.left)))
