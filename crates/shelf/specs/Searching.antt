-- The search by halves for a plate's place (`Searching`, `left_half`, `right_half`).
use Rattle.std.specs.Prelude.{◌≡◌, refl, Bool, true, false, List, ℕ, ◌+◌, ◌-◌, ◌/◌, ◌≤◌, ◌<◌, length, get_or}
use Rattle.std.proofs.Common.{sym, ap, ◌∙◌, true≢false, arith, mul-le-mul_right, suc-mul, get_or-take}
use Rattle.std.proofs.Math.Decide.{ℕ_discrete}
use Rattle.definition.specs.Pyramid.{cell_count}
use Rattle.definition.specs.Shelf.{is_before, in_order}
use Rattle.shelf_order.proofs.Insertion.{each_at, stands, in_order_length, in_order_below, in_order_pairs}
use Rattle.shelf_order.proofs.Insertion.{before_at_place, before_onwards}
use Rattle.shelf.specs.PlatesLent.{PairAsked, PlaceAsked}

-- ---- the search
-- it has the places from low to high − 1 left: plate n comes before none on their left and before all on their right
pub record Searching (plates list : List ℕ) (r n low high : ℕ) : Type 0 where
  pub rises : low ≤ high
  pub most : high ≤ n
  pub none : (i : ℕ) → i < low → before_at_place r plates n list i ≡ false
  pub all : (i : ℕ) → high ≤ i → i < n → before_at_place r plates n list i ≡ true

module _ {plates list : List ℕ} {r n : ℕ} (h : PlaceAsked plates list r n) where
  -- the list up to n is the list in order
  at_place : (i : ℕ) → i < n → get_or (in_order r plates n) i 0 ≡ get_or list i 0
  at_place i lt = ap (λ (l : List ℕ). get_or l i 0) (sym h.sorted) ∙ get_or-take n list i 0 lt

  pub before_place : (i : ℕ) → i < n
      → before_at_place r plates n (in_order r plates n) i ≡ before_at_place r plates n list i
  before_place i lt = ap (λ (z : ℕ). is_before (stands r plates n z)) (at_place i lt)

  -- a plate of the list is one of the first n, and stands on the shelf
  place_below : (i : ℕ) → i < n → get_or list i 0 < n
  place_below i lt =
      let count = in_order_length r plates n in
      let below = each_at (λ y. y < n) (in_order r plates n) i (omega (arith, count)) (in_order_below r plates n) in
      rw (← at_place i lt) below

  on_shelf : (i : ℕ) → i < n → PairAsked (length plates) r n (get_or list i 0)
  on_shelf i lt =
      let y = get_or list i 0 in
      record {
        power = h.power;
        powers = h.powers;
        first = h.room;
        second = omega (arith, mul-le-mul_right (cell_count r) (place_below i lt), suc-mul y (cell_count r), h.room);
      }

  -- once plate n comes before one, it comes before those behind it
  onwards : (i j : ℕ) → i < j → j < n → before_at_place r plates n list i ≡ true
      → before_at_place r plates n list j ≡ true
  onwards i j lt l e =
      let ys = in_order r plates n in
      let within : j < length ys = omega (arith, in_order_length r plates n) in
      let first = before_place i (omega arith) ∙ e in
      sym (before_place j l) ∙ before_onwards r plates n ys i j lt within (in_order_pairs r plates n) first

  module _ {low high middle : ℕ} (s : Searching plates list r n low high) (p : low ≤ middle)
      (q : middle < high) where
    search_left : true ≡ before_at_place r plates n list middle → Searching plates list r n low middle
    search_left e =
        record {
          rises = p;
          most = omega (arith, s.most);
          none = s.none;
          all = λ i lo hi. go i lo hi (ℕ_discrete i middle);
        }
      where
        go : (i : ℕ) → middle ≤ i → i < n → Dec (i ≡ middle) → before_at_place r plates n list i ≡ true
        go i lo hi (yes z) = ap (before_at_place r plates n list) z ∙ sym e
        go i lo hi (no z) = onwards middle i (omega arith) hi (sym e)

    search_right : false ≡ before_at_place r plates n list middle → Searching plates list r n (middle + 1) high
    search_right e =
        record {
          rises = omega arith;
          most = s.most;
          none = λ i lo. go i lo (ℕ_discrete i middle) (before_at_place r plates n list i) refl;
          all = s.all;
        }
      where
        go : (i : ℕ) → i < middle + 1 → Dec (i ≡ middle) → (b : Bool)
            → before_at_place r plates n list i ≡ b → before_at_place r plates n list i ≡ false
        go i lo (yes z) b f = ap (before_at_place r plates n list) z ∙ sym e
        go i lo (no z) false f = f
        go i lo (no z) true f =
            let there = onwards i middle (omega arith) (omega (arith, s.most)) f in
            absurd (true≢false (sym there ∙ sym e))

  -- the middle that the code takes
  module _ {low high : ℕ} (s : Searching plates list r n low high) (lt : low < high) where
    pub middle_asked : PairAsked (length plates) r n (get_or list (low + (high - low) / 2) 0)
    middle_asked = on_shelf (low + (high - low) / 2) (omega (arith, s.most))

    -- b is what the code has asked of plate n and the one in the middle
    module _ {b : Bool} (is : b ≡ before_at_place r plates n list (low + (high - low) / 2)) where
      pub left_half : b ≡ true → Searching plates list r n low (low + (high - low) / 2)
      left_half e = search_left s (omega arith) (omega arith) (sym e ∙ is)

      pub right_half : b ≡ false → Searching plates list r n (low + (high - low) / 2 + 1) high
      right_half e = search_right s (omega arith) (omega arith) (sym e ∙ is)
