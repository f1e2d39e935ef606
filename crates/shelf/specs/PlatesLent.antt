-- What the functions of the sort ask for and answer (`PairAsked`, `PlaceFor`, `SortAsked`): numbers that the refusals
-- have been checked for, and buffers that are long enough.
use Rattle.std.specs.Prelude.{◌≡◌, true, false, List, ℕ, ◌+◌, ◌*◌, ◌≤◌, ◌<◌, length, take}
use Rattle.definition.specs.Pyramid.{cell_count}
use Rattle.definition.specs.Shelf.{in_order}
use Rattle.shelf_order.proofs.Insertion.{before_at_place}

-- plates x and y of a shelf with `lent` places
pub record PairAsked (lent r x y : ℕ) : Type 0 where
  pub power : 1 ≤ r
  pub powers : r ≤ 8
  pub first : x * cell_count r + cell_count r ≤ lent
  pub second : y * cell_count r + cell_count r ≤ lent

-- plate n stands on the shelf, and the first n places of the list hold the numbers of those before it, in order
pub record PlaceAsked (plates list : List ℕ) (r n : ℕ) : Type 0 where
  pub power : 1 ≤ r
  pub powers : r ≤ 8
  pub room : n * cell_count r + cell_count r ≤ length plates
  pub places : n ≤ length list
  pub sorted : take n list ≡ in_order r plates n

-- plate n comes before no plate on the left of place p, and before the one at it, if there is one
pub record PlaceFor (plates list : List ℕ) (r n p : ℕ) : Type 0 where
  pub most : p ≤ n
  pub none : (i : ℕ) → i < p → before_at_place r plates n list i ≡ false
  pub next : p < n → before_at_place r plates n list p ≡ true

-- place p of the first n, in a list of `lent` places with one more
pub record PutAsked (lent p n : ℕ) : Type 0 where
  pub most : p ≤ n
  pub room : n < lent

-- n plates on a shelf with `lent` places, and a list of `list` places
pub record SortAsked (lent list r n : ℕ) : Type 0 where
  pub power : 1 ≤ r
  pub powers : r ≤ 8
  pub room : n * cell_count r ≤ lent
  pub places : n ≤ list
