-- Cloth with holes in all of its cells does not hold in the frame. With no grey above 240, a map of side 4 or more
-- never has a hole in every cell (`no_map_full`), nor has one of its squares of side 32 or more
-- (`no_large_square_full`). Smaller ones can have: a map of side 2 with four greys of 240 comes to four holes (P2).
use Rattle.std.specs.Prelude.{◌≡◌, List, ℕ, ◌+◌, ◌*◌, ◌-◌, ◌^◌, ◌≤◌, ◌<◌, get_or, ℤ}
use native.Mathlib.Omega.{arith}
use Rattle.std.proofs.Math.Nat.{mul-le-mul}
use Rattle.std.proofs.Common.{mul-le-mul_right}
use Rattle.definition.specs.Pyramid.{cell_count, cell_number}
use Rattle.definition.specs.Blocks.{block_side, grey_at, grey_sum, grey_total, dots_in, all_dots}
use Rattle.definition.specs.Refusals.{power_of}
use Rattle.definition.specs.AdvanceList.{Call, Held, held_after_load, held_after_calls}
use Rattle.quadtree.specs.Areas.{area, area_mono, area_rows, span_const, block_area}
use Rattle.quadtree.specs.Levels.{block_side_lem, block_on_map, cell_lt}
use Rattle.guarantee.specs.PriceList.{Accepted, PriceList}
use Rattle.guarantee.proofs.Start.{accepted_loaded, low_map_at}
use Rattle.guarantee.proofs.Promised.{price_list}

-- a square of low greys has at most 240 for each of its cells
module _ (r : ℕ) (greys : List ℕ) (low : (i : ℕ) → i < cell_count r → get_or greys i 0 ≤ 240) where
  low_area : (p q n : ℕ) → p + n ≤ 2 ^ r → q + n ≤ 2 ^ r → area p q n (grey_at r greys) ≤ 240 * (n * n)
  unfolding grey_at
  low_area p q n down right =
      let each : n * (n * 240) ≡ 240 * (n * n) = omega arith in
      rw (← each, ← span_const p n 240, ← area_rows p q n (λ x. 240))
      (area_mono p q n (grey_at r greys) (λ x y. 240)
      (λ x y u v. low (cell_number r x y) (cell_lt (2 ^ r) x y (omega arith) (omega arith))))

  low_block : (k a b : ℕ) → k ≤ r → a < 2 ^ k → b < 2 ^ k
      → grey_sum r greys k a b ≤ 240 * (block_side r k * block_side r k)
  unfolding grey_sum
  low_block k a b level row column =
      let side = block_side_lem r (r - k) k (omega arith) in
      rw (block_area r (grey_at r greys) k a b, side)
      (low_area (a * 2 ^ (r - k)) (b * 2 ^ (r - k)) (2 ^ (r - k))
      (block_on_map r (r - k) k a (omega arith) row) (block_on_map r (r - k) k b (omega arith) column))

module _ (side knit : ℕ) (greys : List ℕ) (pyramid : List ℤ) (serials order : List ℕ)
    (accepted : Accepted side knit greys pyramid serials order) (calls : List Call) where
  abbrev r : ℕ
  r = power_of side

  abbrev held : Held
  held = held_after_calls (held_after_load side knit greys pyramid serials order) calls

  promised : PriceList side knit greys pyramid serials order calls
  promised = price_list side knit greys pyramid serials order accepted calls

  low_greys : (i : ℕ) → i < cell_count r → get_or greys i 0 ≤ 240
  low_greys =
      let h = accepted_loaded side knit greys pyramid serials order accepted in
      low_map_at r greys h.low h.lent.greys_long

  -- no square of side 32 or more is ever full (S 15.8)
  pub no_large_square_full : (k a b : ℕ) → k ≤ r → a < 2 ^ k → b < 2 ^ k → 32 ≤ block_side r k
      → dots_in r held.serials k a b < block_side r k * block_side r k
  no_large_square_full k a b level row column large =
      let s = block_side r k in
      omega (
        arith,
        promised.cap k a b level row column,
        low_block r greys low_greys k a b level row column,
        mul-le-mul_right s large,
      )

  -- no map of side 4 or more is ever full (S 15.8)
  pub no_map_full : 4 ≤ 2 ^ r → all_dots r held.serials < 2 ^ r * 2 ^ r
  unfolding grey_total
  no_map_full large =
      let whole = low_block r greys low_greys 0 0 0 (omega arith) (omega arith) (omega arith) in
      let one = block_side_lem r r 0 (omega arith) in
      omega (arith, promised.all_dots_lem, promised.number, rw one at whole, mul-le-mul large large)
