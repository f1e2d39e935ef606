-- The list with a plate put at its place, and plate after plate (`Sorting`, `sort_next`).
use Rattle.std.specs.Prelude.{◌≡◌, refl, ℕ, suc, ◌+◌, ◌-◌, ◌≤◌, ◌<◌, length}
use Rattle.std.proofs.Math.Path.{sym, ap, ap₂}
use Rattle.std.proofs.Common.{◌∙◌, arith, mul-le-mul_right, suc-mul, add-one, length-append, length-drop}
use Rattle.std.proofs.Common.{take_at, take-add, drop-drop}
use mathlib.Core.List.{List, ◌∷◌, ◌++◌, append_assoc}
use Rattle.std.proofs.Math.ListN.{take, drop}
use Rattle.std.proofs.Math.Seq.{length-take-le, drop_at, take-take}
use Rattle.definition.specs.Pyramid.{cell_count}
use Rattle.definition.specs.Shelf.{in_order}
use Rattle.shelf_order.proofs.Insertion.{in_order_length, insert_at}
use Rattle.shelf.specs.PlatesLent.{PlaceAsked, PlaceFor, SortAsked}
use Rattle.shelf.specs.Searching.{before_place}

-- ---- plate n put at its place
module _ {plates list : List ℕ} {r n : ℕ} (h : PlaceAsked plates list r n) where
  put_is : (p : ℕ) → PlaceFor plates list r n p
      → take p list ++ n ∷ take (n - p) (drop p list) ≡ in_order r plates (suc n)
  unfolding in_order
  put_is p w =
      let ys = in_order r plates n in
      let count = in_order_length r plates n in
      let front : take p ys ≡ take p list = ap (take p) (sym h.sorted) ∙ take-take p n list w.most in
      let d : p + (n - p) ≡ n = omega (arith, w.most) in
      let long = length-take-le p list (omega (arith, w.most, h.places)) in
      let rest : drop p ys ≡ take (n - p) (drop p list)
      = ap (drop p) (sym h.sorted) ∙ ap (λ (k : ℕ). drop p (take k list)) (sym d)
      ∙ ap (drop p) (take-add p (n - p) list) ∙ drop_at (take p list) (take (n - p) (drop p list)) p long in
      let put
      = insert_at r plates n ys p (omega (arith, w.most, count))
      (λ i lt. before_place h i (omega (arith, w.most)) ∙ w.none i lt)
      (λ lt. before_place h p (omega (arith, count)) ∙ w.next (omega (arith, count))) in
      sym (put ∙ ap₂ (λ (a b : List ℕ). a ++ n ∷ b) front rest)

-- ---- plate after plate
-- the first i plates are in order, and the list is as it was behind them
pub record Sorting (plates list₀ list : List ℕ) (r n i : ℕ) : Type 0 where
  pub most : i ≤ n
  pub long : length list ≡ length list₀
  pub sorted : take i list ≡ in_order r plates i
  pub rest : drop i list ≡ drop i list₀

pub sort_start : (plates list : List ℕ) (r n : ℕ) → Sorting plates list list r n 0
unfolding in_order
sort_start plates list r n = record { most = omega arith; long = refl; sorted = refl; rest = refl }

module _ {plates list₀ list : List ℕ} {r n i : ℕ} (h : SortAsked (length plates) (length list₀) r n)
    (s : Sorting plates list₀ list r n i) (lt : i < n) where
  pub place_asked : PlaceAsked plates list r i
  place_asked =
      record {
        power = h.power;
        powers = h.powers;
        room = omega (arith, mul-le-mul_right (cell_count r) lt, suc-mul i (cell_count r), h.room);
        places = omega (arith, h.places, s.long);
        sorted = s.sorted;
      }

  pub sort_next : {p : ℕ} → PlaceFor plates list r i p → {after : List ℕ}
      → after ≡ take p list ++ i ∷ (take (i - p) (drop p list) ++ drop (i + 1) list)
      → Sorting plates list₀ after r n (i + 1)
  sort_next {p} w {after} e =
      let rows = take p list ++ i ∷ take (i - p) (drop p list) in
      let is : after ≡ rows ++ drop (i + 1) list
      = e ∙ sym (append_assoc (take p list) (i ∷ take (i - p) (drop p list)) (drop (i + 1) list)) in
      let ys = in_order r plates (i + 1) in
      let zs = drop (i + 1) list in
      let front : rows ≡ ys = put_is place_asked p w ∙ ap (in_order r plates) (sym (add-one i)) in
      let whole : after ≡ ys ++ zs = is ∙ ap (λ (l : List ℕ). l ++ zs) front in
      let count = in_order_length r plates (i + 1) in
      let lengths : length (ys ++ zs) ≡ length list₀
      = omega (arith, length-append ys zs, count, length-drop (i + 1) list, s.long, h.places) in
      let one_more : drop (i + 1) list ≡ drop (i + 1) list₀
      = sym (drop-drop 1 i list) ∙ ap (drop 1) s.rest ∙ drop-drop 1 i list₀ in
      record {
        most = omega arith;
        long = ap length whole ∙ lengths;
        sorted = ap (take (i + 1)) whole ∙ take_at ys zs (i + 1) count;
        rest = ap (drop (i + 1)) whole ∙ drop_at ys zs (i + 1) count ∙ one_more;
      }
