-- What the call Shelf leaves is the one list that is in order (`shelf_list`), and the places past it stay
-- (`shelf_rest`).
use Rattle.std.specs.Prelude.{◌≡◌, ◌↔◌, List, [], ◌++◌, ℕ, length, take, drop}
use Rattle.std.proofs.Common.{sym, ap, ◌∙◌, take_at, drop_at}
use Rattle.definition.specs.Answers.{returned}
use Rattle.definition.specs.Refusals.{power_of}
use Rattle.definition.specs.Shelf.{in_order, shelf_refusal, ShelfOutcome, shelf_of}
use Rattle.shelf_order.proofs.Insertion.{in_order_length}
use Rattle.shelf_order.proofs.Sorted.{Sorted, sorted, only_list}

module _ (side n : ℕ) (plates list : List ℕ)
    (accepted : shelf_refusal (power_of side) n (length plates) (length list) ≡ 0) where
  outcome : shelf_of side n plates list
      ≡ record { said = returned []; list = in_order (power_of side) plates n ++ drop n list }
  outcome = unfold shelf_of in rw (accepted, shelf_of)

  is_left : (shelf_of side n plates list).list ≡ in_order (power_of side) plates n ++ drop n list
  is_left = ap (λ (o : ShelfOutcome). o.list) outcome

  -- what Shelf writes is the one list that is so (S 11.2, S 15.12)
  pub shelf_list : (l : List ℕ)
      → Sorted (power_of side) plates n l ↔ (l ≡ take n (shelf_of side n plates list).list)
  shelf_list l =
      let r = power_of side in
      let first : take n (shelf_of side n plates list).list ≡ in_order r plates n
      = ap (take n) is_left ∙ take_at (in_order r plates n) (drop n list) n (in_order_length r plates n) in
      (λ h. only_list r plates n l h ∙ sym first, λ e. rw (e, first) (sorted r plates n))

  -- and the places past the n-th stay (S 11.2)
  pub shelf_rest : drop n (shelf_of side n plates list).list ≡ drop n list
  shelf_rest =
      ap (drop n) is_left
      ∙ drop_at (in_order (power_of side) plates n) (drop n list) n (in_order_length (power_of side) plates n)
