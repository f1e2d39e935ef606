-- The sum of f over n places from p on, and over a square of n by n cells whose top left cell is (p, q): sums and
-- multiples (`area_add`, `area_mul`), monotone (`area_mono`), read only at the cells of the square (`area_ext`), and by
-- quarters. A block of the definitions is such a square (`block_area`).
use Rattle.std.specs.Prelude.{◌≡◌, refl, ℕ, ◌+◌, ◌*◌, ◌≤◌, ◌<◌}
use Rattle.std.proofs.Common.{ap, ◌∙◌, add-zero, zero-add}
use native.Mathlib.Omega.{arith}
use Rattle.definition.specs.Lists.{sum_to}
use Rattle.definition.specs.Blocks.{block_side, block_sum}
use Rattle.integers.specs.Sums.{sum_to_add, sum_to_mul, sum_to_mono<, sum_to_ext<, sum_to_split, sum_to_const}

unfoldable pub span : ℕ → ℕ → (ℕ → ℕ) → ℕ
span p n f = sum_to n (λ x. f (p + x))

unfoldable pub area : ℕ → ℕ → ℕ → (ℕ → ℕ → ℕ) → ℕ
area p q n f = span p n (λ x. span q n (f x))

-- x is one of the n places from p on
abbrev pub In : ℕ → ℕ → ℕ → Type 0
In p n x = (p ≤ x) × (x < p + n)

pub span_add : (p n : ℕ) (f g : ℕ → ℕ) → span p n (λ x. f x + g x) ≡ span p n f + span p n g
unfolding span
span_add p n f g = sum_to_add n (λ x. f (p + x)) (λ x. g (p + x))

pub span_mul : (p n k : ℕ) (f : ℕ → ℕ) → span p n (λ x. k * f x) ≡ k * span p n f
unfolding span
span_mul p n k f = sum_to_mul n k (λ x. f (p + x))

pub span_mono : (p n : ℕ) (f g : ℕ → ℕ) → ((x : ℕ) → In p n x → f x ≤ g x) → span p n f ≤ span p n g
unfolding span
span_mono p n f g h = sum_to_mono< n (λ x. f (p + x)) (λ x. g (p + x)) (λ x k. h (p + x) (omega arith))

pub span_ext : (p n : ℕ) (f g : ℕ → ℕ) → ((x : ℕ) → In p n x → f x ≡ g x) → span p n f ≡ span p n g
unfolding span
span_ext p n f g h = sum_to_ext< n (λ x. f (p + x)) (λ x. g (p + x)) (λ x k. h (p + x) (omega arith))

pub span_halves : (p n : ℕ) (f : ℕ → ℕ) → span p (n + n) f ≡ span p n f + span (p + n) n f
unfolding span
span_halves p n f =
    sum_to_split n n (λ x. f (p + x))
    ∙ ap (λ (k : ℕ). sum_to n (λ x. f (p + x)) + k) (sum_to_ext< n _ _ (λ x k. ap f (omega arith)))

-- n times a number
pub span_const : (p n k : ℕ) → span p n (λ x. k) ≡ n * k
unfolding span
span_const p n k = sum_to_const n k

module _ (p q n : ℕ) where
  pub area_add : (f g : ℕ → ℕ → ℕ) → area p q n (λ x y. f x y + g x y) ≡ area p q n f + area p q n g
  unfolding area
  area_add f g =
      span_ext p n _ _ (λ x i. span_add q n (f x) (g x)) ∙ span_add p n (λ x. span q n (f x)) (λ x. span q n (g x))

  pub area_mul : (k : ℕ) (f : ℕ → ℕ → ℕ) → area p q n (λ x y. k * f x y) ≡ k * area p q n f
  unfolding area
  area_mul k f = span_ext p n _ _ (λ x i. span_mul q n k (f x)) ∙ span_mul p n k (λ x. span q n (f x))

  pub area_mono : (f g : ℕ → ℕ → ℕ) → ((x y : ℕ) → In p n x → In q n y → f x y ≤ g x y) → area p q n f ≤ area p q n g
  unfolding area
  area_mono f g h = span_mono p n _ _ (λ x i. span_mono q n (f x) (g x) (λ y j. h x y i j))

  pub area_ext : (f g : ℕ → ℕ → ℕ) → ((x y : ℕ) → In p n x → In q n y → f x y ≡ g x y) → area p q n f ≡ area p q n g
  unfolding area
  area_ext f g h = span_ext p n _ _ (λ x i. span_ext q n (f x) (g x) (λ y j. h x y i j))

  pub area_zero : area p q n (λ x y. 0) ≡ 0
  area_zero = area_mul 0 (λ x y. 0) ∙ omega arith

  -- a sum over the rows alone, or over the columns alone
  pub area_rows : (f : ℕ → ℕ) → area p q n (λ x y. f x) ≡ n * span p n f
  unfolding area
  area_rows f = span_ext p n _ _ (λ x i. span_const q n (f x)) ∙ span_mul p n n f

  pub area_columns : (f : ℕ → ℕ) → area p q n (λ x y. f y) ≡ n * span q n f
  unfolding area
  area_columns f = span_const p n (span q n f)

  pub area_product : (f g : ℕ → ℕ) → area p q n (λ x y. f x * g y) ≡ span p n f * span q n g
  unfolding area
  area_product f g =
      span_ext p n _ _ (λ x i. span_mul q n (f x) g ∙ omega arith) ∙ span_mul p n (span q n g) f ∙ omega arith

  pub area_quarters : (f : ℕ → ℕ → ℕ)
      → area p q (n + n) f ≡ area p q n f + area p (q + n) n f + area (p + n) q n f + area (p + n) (q + n) n f
  unfolding area
  area_quarters f =
      span_halves p n (λ x. span q (n + n) (f x))
      ∙ omega (arith, halves p, halves (p + n))
    where
      halves : (m : ℕ)
          → span m n (λ x. span q (n + n) (f x)) ≡ span m n (λ x. span q n (f x)) + span m n (λ x. span (q + n) n (f x))
      halves m =
          span_ext m n _ _ (λ x i. span_halves q n (f x))
          ∙ span_add m n (λ x. span q n (f x)) (λ x. span (q + n) n (f x))

pub area_one : (p q : ℕ) (f : ℕ → ℕ → ℕ) → area p q 1 f ≡ f p q
unfolding area span sum_to
area_one p q f = simp (add-zero, zero-add)

-- a block of the definitions is the square at (a s, b s)
pub block_area : (r : ℕ) (f : ℕ → ℕ → ℕ) (k a b : ℕ)
    → block_sum r f k a b ≡ area (a * block_side r k) (b * block_side r k) (block_side r k) f
unfolding block_sum area span
block_area r f k a b = refl

-- where no cell has more than m, a block has at most m for each of its cells
pub block_most : (r : ℕ) (f : ℕ → ℕ → ℕ) (m k a b : ℕ) → ((x y : ℕ) → f x y ≤ m)
    → block_sum r f k a b ≤ m * (block_side r k * block_side r k)
block_most r f m k a b h =
    let s = block_side r k in
    omega (
      arith,
      block_area r f k a b,
      area_mono (a * s) (b * s) s f (λ x y. m) (λ x y i j. h x y),
      area_rows (a * s)
          (b * s) s (λ x. m),
      ap (λ (n : ℕ). s * n) (span_const (a * s) s m),
    )
