-- The floor of every aligned square (`floor`). Of the sheet only two facts are used: the cap of every aligned square,
-- and the total. So it holds for every rule of burning that keeps these two. From a block to a quarter: the quarter has
-- what the three others don't have of the block's dots.
use Rattle.std.specs.Prelude.{◌≡◌, List, ℕ, suc, ◌^◌, ◌≤◌, ◌<◌}
use native.Mathlib.Omega.{arith}
use Rattle.std.proofs.Math.Nat.{div-le_self}
use Rattle.definition.specs.Blocks.{block_side, grey_at, burnt_at, grey_sum, grey_total, total_of, dots_in, all_dots}
use Rattle.quadtree.specs.Quarters.{Quarters, quarters_of, side_halves, block_quarters, every_block}
use Rattle.guarantee.specs.PriceList.{EachBlock, UnderCap, OverFloor}

module _ (r : ℕ) (greys serials : List ℕ) (cap : EachBlock r (UnderCap r greys serials))
    (total : all_dots r serials ≡ total_of (grey_total r greys)) where
  whole : OverFloor r greys serials 0 0 0
  unfolding all_dots grey_total
  whole = omega (arith, total)

  pass : (k a b : ℕ) → k < r → a < 2 ^ k → b < 2 ^ k → OverFloor r greys serials k a b
      → Quarters (OverFloor r greys serials (suc k)) a b
  unfolding grey_sum dots_in
  pass k a b h u v f =
      let c = quarters_of k (UnderCap r greys serials (suc k)) (λ x y. cap (suc k) x y h) a b u v in
      let d = block_quarters r (burnt_at r serials) k a b h in
      let g = block_quarters r (grey_at r greys) k a b h in
      let s = side_halves r k h in
      let n : block_side r k ≤ 2 ^ r = div-le_self (2 ^ r) (2 ^ k) in
      (omega arith, omega arith, omega arith, omega arith)

  -- the floor of every aligned square (S 15.5)
  pub floor : EachBlock r (OverFloor r greys serials)
  floor = every_block r (OverFloor r greys serials) whole pass
