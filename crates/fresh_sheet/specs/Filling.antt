-- What the filling of a fresh sheet is asked (`FillLent`), and what it leaves (`Filled`, `all_filled`).
use Rattle.std.specs.Prelude.{◌≡◌, List, ◌++◌, ℕ, ◌≤◌, ◌<◌, length, take, drop, replicate, ℤ}
use Rattle.std.proofs.Common.{sym, ◌∙◌, arith, length-take-le}
use Rattle.definition.specs.Pyramid.{needed, cell_count}
use Rattle.definition.specs.Quarters.{quarters_from}
use Rattle.refusals.specs.Lowest.{LoadLent}
use Rattle.pyramid.specs.PyramidPart.{FillAsked, fresh_pyramid}

-- a power, and lengths that are enough for it
pub record FillLent (r greys pyramid serials order : ℕ) : Type 0 where
  pub small : r ≤ 8
  pub power : 0 < r
  pub greys_long : cell_count r ≤ greys
  pub pyramid_long : needed r ≤ pyramid
  pub serials_long : cell_count r ≤ serials
  pub order_long : cell_count r ≤ order

-- where Load is not refused
pub fill_lent : {r knit g p s o : ℕ} → r ≤ 8 → LoadLent r knit g p s o → FillLent r g p s o
fill_lent small h =
    record {
      small = small;
      power = h.power;
      greys_long = h.greys_long;
      pyramid_long = h.pyramid_long;
      serials_long = h.serials_long;
      order_long = h.order_long;
    }

-- the three buffers, filled; the pyramid lies by quarters
pub record Filled (r : ℕ) (g : List ℕ) (p : List ℤ) (s o : List ℕ)
    (p' : List ℤ) (s' o' : List ℕ) : Type 0 where
  pub pyramid : p' ≡ quarters_from r (fresh_pyramid r g) ++ drop (needed r) p
  pub serials : s' ≡ replicate (cell_count r) 0 ++ drop (cell_count r) s
  pub order : o' ≡ replicate (cell_count r) 0 ++ drop (cell_count r) o

-- ---- filling: n and c are what the code has worked out for the needed length and the number of cells
module _ {r g s o : ℕ} (p : List ℤ) (h : FillLent r g (length p) s o) where
  module _ {n : ℕ} (en : n ≡ needed r) where
    pub pyramid_in : n ≤ length p
    pyramid_in = omega (arith, h.pyramid_long)

    pub part_length : n ≡ length (take n p)
    part_length = sym (length-take-le n p pyramid_in)

    pub fill_asked : FillAsked (take n p) g r
    fill_asked = record { most = h.small; whole = sym part_length ∙ en; enough = h.greys_long }

  module _ {c : ℕ} (ec : c ≡ cell_count r) where
    pub serials_in : c ≤ s
    serials_in = omega (arith, h.serials_long)

    pub order_in : c ≤ o
    order_in = omega (arith, h.order_long)

module _ {r n c : ℕ} (en : n ≡ needed r) (ec : c ≡ cell_count r) where
  pub all_filled : {g : List ℕ} {p p' : List ℤ} {s o s' o' : List ℕ}
      → p' ≡ quarters_from r (fresh_pyramid r g)
      → s' ≡ replicate c 0 ++ drop c s → o' ≡ replicate c 0 ++ drop c o
      → Filled r g p s o (p' ++ drop n p) s' o'
  all_filled {g} {p} ep es eo = record { pyramid = rw (ep, en); serials = rw (es, ec); order = rw (eo, ec) }
