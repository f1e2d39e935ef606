-- The page of a level: what its functions ask for (`PageAsked`), and how long a line, a row of lines and the page are
-- (`page_length_lem`).
use Rattle.std.specs.Prelude.{◌≡◌, List, ℕ, zero, suc, ◌+◌, ◌*◌, ◌-◌, ◌^◌, ◌≤◌, ◌<◌, length, get_or}
use Rattle.std.proofs.Common.{◌∙◌, mul-le-mul, pow_mono, length-append}
use native.Mathlib.Omega.{arith}
use Rattle.definition.specs.Lists.{joined}
use Rattle.definition.specs.Pyramid.{cell_count}
use Rattle.definition.specs.Blocks.{grey_sum, dots_in}
use Rattle.definition.specs.QuotePage.{quote_cap, figures, columns, aligned_line, quote_line, quote_text}
use Rattle.quadtree.specs.Levels.{block_side_lem}
use Rattle.decimals.specs.Writing.{Wrote}
use Rattle.guarantee.proofs.Quote.{figures_fit}
use Rattle.quote_page.specs.Lines.{length_line}

-- 29 bytes for each block of level k
abbrev pub page_length : ℕ → ℕ
page_length k = 29 * cell_count k

-- a level of a map of side 2^r, and greys and serials for all its cells; a grey is a byte
pub record PageAsked (greys serials : List ℕ) (r k : ℕ) : Type 0 where
  pub power : 1 ≤ r
  pub powers : r ≤ 8
  pub level : k ≤ r
  pub greys_room : 2 ^ r * 2 ^ r ≤ length greys
  pub serials_room : 2 ^ r * 2 ^ r ≤ length serials
  pub bytes : (i : ℕ) → get_or greys i 0 ≤ 255

-- ---- lists of one length, one behind the other
length_joined : (n m : ℕ) (f : ℕ → List ℕ) → ((i : ℕ) → i < n → length (f i) ≡ m) → length (joined n f) ≡ m * n
unfolding joined
length_joined zero m f h = omega arith
length_joined (suc n) m f h =
    omega (arith, length-append (joined n f) (f n), length_joined n m f (λ i l. h i (omega arith)), h n (omega arith))

module _ (greys serials : List ℕ) {r k : ℕ} (powers : r ≤ 8) (level : k ≤ r) (bytes : (i : ℕ) → get_or greys i 0 ≤ 255)
  where
    line_length : (a b : ℕ) → a < 2 ^ k → b < 2 ^ k → length (quote_line r greys serials k a b) ≡ 29
    unfolding figures
    line_length a b u v = length_line a b _ _ _ (figures_fit r greys serials k a b powers level u v bytes)

    row_length : (a n : ℕ) → a < 2 ^ k → n ≤ 2 ^ k → length (joined n (quote_line r greys serials k a)) ≡ 29 * n
    row_length a n u l = length_joined n 29 (quote_line r greys serials k a) (λ b v. line_length a b u (omega arith))

    rows_length : (n : ℕ) → n ≤ 2 ^ k
        → length (joined n (λ a. joined (2 ^ k) (quote_line r greys serials k a))) ≡ 29 * 2 ^ k * n
    rows_length n l =
        length_joined n (29 * 2 ^ k) (λ a. joined (2 ^ k) (quote_line r greys serials k a))
        (λ a u. row_length a (2 ^ k) (omega arith) (omega arith))

    pub page_length_lem : length (quote_text r greys serials k) ≡ page_length k
    unfolding quote_text
    page_length_lem = rows_length (2 ^ k) (omega arith) ∙ omega arith

-- ---- what the inner functions get from what is asked
module _ {greys serials : List ℕ} {r k : ℕ} (h : PageAsked greys serials r k) where
  -- what the code has worked out for a block's line
  module _ {side grey dots cap : ℕ} (a b : ℕ) (es : side ≡ 2 ^ (r - k)) (eg : grey ≡ grey_sum r greys k a b)
      (ed : dots ≡ dots_in r serials k a b) (ec : cap ≡ quote_cap side grey) where
    pub block_wrote : {l l₁ : List ℕ} {at next : ℕ} → Wrote l at (aligned_line (columns a b grey dots cap)) next l₁
        → Wrote l at (quote_line r greys serials k a b) next l₁
    unfolding figures
    block_wrote w = rw (← eg, ← ed, block_side_lem r (r - k) k (omega (arith, h.level)), ← es, ← ec) w

  -- where the writers stand
  few_blocks : 2 ^ k ≤ 256
  few_blocks = pow_mono {i = k} {j = 8} (omega (arith, h.level, h.powers))

  pub row_end : {l l₁ : List ℕ} {from at : ℕ} (a n : ℕ) → a < 2 ^ k → n ≤ 2 ^ k
      → Wrote l from (joined n (quote_line r greys serials k a)) at l₁ → at ≤ from + 29 * 256
  row_end a n u l w =
      omega (arith, w.place, row_length greys serials h.powers h.level h.bytes a n u l, few_blocks)

  pub rows_end : {l l₁ : List ℕ} {at : ℕ} (n : ℕ) → n ≤ 2 ^ k
      → Wrote l 0 (joined n (λ a. joined (2 ^ k) (quote_line r greys serials k a))) at l₁ → at ≤ 29 * 256 * 256
  rows_end n l w =
      let most : 29 * 2 ^ k ≤ 29 * 256 = omega (arith, few_blocks) in
      let few : n ≤ 256 = omega (arith, few_blocks) in
      omega (arith, w.place, rows_length greys serials h.powers h.level h.bytes n l, mul-le-mul most few)
