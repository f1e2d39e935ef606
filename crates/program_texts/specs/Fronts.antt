-- Greys and serials at the start of longer buffers: the quote page is that of the map, whatever lies behind it
-- (`finished_front`, `quoted_front`).
use Rattle.std.specs.Prelude.{◌≡◌, refl, List, ◌++◌, ℕ, zero, suc, ◌+◌, ◌-◌, ◌^◌, ◌≤◌, ◌<◌, length, get_or}
use Rattle.std.proofs.Common.{sym, ap₂, ◌∙◌, lt-ltb, le-ltb}
use Rattle.std.proofs.Math.Path.{ap}
use Rattle.std.proofs.Math.Decide.{dec_lt}
use native.Mathlib.Omega.{arith}
use Rattle.std.proofs.Math.ListN.{get_or-append}
use Rattle.definition.specs.Lists.{joined}
use Rattle.definition.specs.Pyramid.{cell_count, cell_number}
use Rattle.definition.specs.Blocks.{block_sum, grey_at, burnt, burnt_at, grey_sum, dots_in}
use Rattle.definition.specs.Diffusion.{plain}
use Rattle.definition.specs.Model.{Halftone}
use Rattle.definition.specs.Refusals.{power_of}
use Rattle.definition.specs.QuotePage.{figures, quote_text}
use Rattle.definition.specs.Plate.{finished_of}
use Rattle.definition.specs.Quote.{quote_of_map}
use Rattle.quadtree.specs.Areas.{area_ext, block_area}
use Rattle.quadtree.specs.Levels.{cell_lt, block_side_lem, block_on_map}
use Rattle.guarantee.proofs.Start.{start_front}

-- a block's sum sees the cells of the map only
block_ext : (r k a b : ℕ) (f g : ℕ → ℕ → ℕ) → k ≤ r → a < 2 ^ k → b < 2 ^ k
    → ((x y : ℕ) → x < 2 ^ r → y < 2 ^ r → f x y ≡ g x y) → block_sum r f k a b ≡ block_sum r g k a b
block_ext r k a b f g level u v same =
    let j = r - k in
    let e : j + k ≡ r = omega arith in
    let row = block_on_map r j k a e u in
    let column = block_on_map r j k b e v in
    block_area r f k a b
    ∙ rw (block_side_lem r j k e) (area_ext _ _ _ f g (λ x y m n. same x y (omega arith) (omega arith)))
    ∙ sym (block_area r g k a b)

-- the lists of two functions that agree below n
joined_ext : (n : ℕ) (f g : ℕ → List ℕ) → ((i : ℕ) → i < n → f i ≡ g i) → joined n f ≡ joined n g
unfolding joined
joined_ext zero f g same = refl
joined_ext (suc n) f g same = ap₂ ◌++◌ (joined_ext n f g (λ i h. same i (omega arith))) (same n (omega arith))

module _ (r : ℕ) (front rest : List ℕ) (count : length front ≡ cell_count r) where
  cell_front : (x y : ℕ) → x < 2 ^ r → y < 2 ^ r
      → get_or (front ++ rest) (cell_number r x y) 0 ≡ get_or front (cell_number r x y) 0
  cell_front x y p q =
      get_or-append front rest 0 (cell_number r x y) (omega (arith, count, cell_lt (2 ^ r) x y p q))

  module _ (k a b : ℕ) (level : k ≤ r) (u : a < 2 ^ k) (v : b < 2 ^ k) where
    grey_sum_front : grey_sum r (front ++ rest) k a b ≡ grey_sum r front k a b
    unfolding grey_sum grey_at
    grey_sum_front = block_ext r k a b _ _ level u v cell_front

    dots_front : dots_in r (front ++ rest) k a b ≡ dots_in r front k a b
    unfolding dots_in burnt_at
    dots_front = block_ext r k a b _ _ level u v (λ x y p q. ap burnt (cell_front x y p q))

-- the page with a longer buffer of greys, and with one of serials
module _ (r : ℕ) (front rest : List ℕ) (count : length front ≡ cell_count r) (k : ℕ) (level : k ≤ r) where
  page_greys : (serials : List ℕ) → quote_text r (front ++ rest) serials k ≡ quote_text r front serials k
  unfolding quote_text figures
  page_greys serials =
      joined_ext (2 ^ k) _ _
      (λ a u. joined_ext (2 ^ k) _ _ (λ b v. rw (grey_sum_front r front rest count k a b level u v)))

  pub page_serials : (greys : List ℕ) → quote_text r greys (front ++ rest) k ≡ quote_text r greys front k
  unfolding quote_text figures
  page_serials greys =
      joined_ext (2 ^ k) _ _
      (λ a u. joined_ext (2 ^ k) _ _ (λ b v. rw (dots_front r front rest count k a b level u v)))

-- what `quote` prints for a map whose greys stand at the start of a longer buffer
module _ (side : ℕ) (values rest : List ℕ) (count : length values ≡ cell_count (power_of side)) where
  abbrev r : ℕ
  r = power_of side

  pub finished_front : finished_of plain r (values ++ rest) ≡ finished_of plain r values
  unfolding finished_of
  finished_front = rw (start_front r values rest (omega arith))

  pub quoted_front : (level : ℕ) → quote_of_map level side (values ++ rest) ≡ quote_of_map level side values
  quoted_front level = go (dec_lt r level)
    where
      go : Dec (r < level) → quote_of_map level side (values ++ rest) ≡ quote_of_map level side values
      go (yes h) = unfold quote_of_map in rw (lt-ltb r level h, quote_of_map)
      go (no h) =
          let within : level ≤ r = omega arith in
          unfold quote_of_map in
          rw (le-ltb r level within, quote_of_map)
          (page_greys r values rest count level within (finished_of plain r (values ++ rest)).serials
          ∙ ap (λ (t : Halftone). quote_text r values t.serials level) finished_front)
