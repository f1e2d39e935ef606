-- The quote page: every figure fits its width, for all greys and serials (`figures_fit`); and where the cap holds, no
-- line of the page has more holes than its cap (`under_quote`).
use Rattle.std.specs.Prelude.{List, ℕ, ◌*◌, ◌^◌, ◌≤◌, ◌<◌, get_or}
use native.Mathlib.Omega.{arith}
use Rattle.std.proofs.Math.Nat.{div-le_self, mul-le-mul}
use Rattle.std.proofs.Math.Pow.{pow_mono}
use Rattle.definition.specs.Pyramid.{cell_number}
use Rattle.definition.specs.Blocks.{block_side, grey_at, burnt_at, grey_sum, dots_in}
use Rattle.definition.specs.QuotePage.{quote_cap, figures}
use Rattle.quadtree.specs.Areas.{block_most}
use Rattle.dots.specs.Marks.{burnt_at_le}
use Rattle.guarantee.specs.PriceList.{Each, UnderCap, InWidth, printed}

module _ (r : ℕ) (greys serials : List ℕ) (k a b : ℕ) where
  abbrev s : ℕ
  s = block_side r k

  dots_most : dots_in r serials k a b ≤ s * s
  unfolding dots_in
  dots_most = omega (arith, block_most r (burnt_at r serials) 1 k a b (burnt_at_le r serials))

  greys_most : ((i : ℕ) → get_or greys i 0 ≤ 255) → grey_sum r greys k a b ≤ 255 * (s * s)
  unfolding grey_sum grey_at
  greys_most bytes = block_most r (grey_at r greys) 255 k a b (λ x y. bytes (cell_number r x y))

  -- every figure fits its column (S 6.5, S 8.4)
  pub figures_fit : r ≤ 8 → k ≤ r → a < 2 ^ k → b < 2 ^ k → ((i : ℕ) → get_or greys i 0 ≤ 255)
      → Each InWidth (figures r greys serials k a b)
  unfolding figures quote_cap
  figures_fit small level u v bytes =
      let n = pow_mono {i = k} {j = 8} (omega arith) in
      let m = pow_mono {i = r} {j = 8} small in
      let side : s ≤ 256 = omega (arith, div-le_self (2 ^ r) (2 ^ k)) in
      let square = mul-le-mul side side in
      (omega arith, (omega arith, (omega (arith, greys_most bytes), (omega (arith, dots_most), (omega arith, tt)))))

  -- under the cap, the printed holes are at most the printed cap (S 8.3, S 15.4)
  pub under_quote : UnderCap r greys serials k a b
      → printed (figures r greys serials k a b) 3 ≤ printed (figures r greys serials k a b) 4
  unfolding figures quote_cap
  under_quote cap = omega (arith, dots_most)
