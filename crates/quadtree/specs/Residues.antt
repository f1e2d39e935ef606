-- The sum of integers over a square: by quarters (`area_z_quarters`), read only at the cells of the square
-- (`area_z_ext`), and falling by as much as the cells fall in all (`area_z_fall`).
use Rattle.std.specs.Prelude.{◌≡◌, refl, ℕ, ◌+◌, ◌*◌, ℤ, pos, ◌+ℤ◌, ◌-ℤ◌}
use Rattle.std.proofs.Common.{ap, ◌∙◌, arith, add-zero}
use Rattle.std.proofs.Math.IntN.{+ℤ_idl}
use Rattle.definition.specs.Lists.{sum_to, sum_z_to}
use Rattle.definition.specs.Blocks.{block_side, block_sum_z}
use Rattle.integers.specs.Linear.{zz, ints}
use Rattle.integers.specs.Sums.{sum_z_to_add, sum_z_to_sub, sum_z_to_ext<, sum_z_to_split, sum_z_to_pos}
use Rattle.quadtree.specs.Areas.{In, span, area}

unfoldable pub span_z : ℕ → ℕ → (ℕ → ℤ) → ℤ
span_z p n f = sum_z_to n (λ x. f (p + x))

unfoldable pub area_z : ℕ → ℕ → ℕ → (ℕ → ℕ → ℤ) → ℤ
area_z p q n f = span_z p n (λ x. span_z q n (f x))

sum_fall : (n : ℕ) (f : ℕ → ℤ) (g : ℕ → ℕ) → sum_z_to n (λ x. f x -ℤ pos (g x)) ≡ sum_z_to n f -ℤ pos (sum_to n g)
sum_fall n f g = sum_z_to_sub n f (λ x. pos (g x)) ∙ ap (λ (z : ℤ). sum_z_to n f -ℤ z) (sum_z_to_pos n g)

span_z_ext : (p n : ℕ) (f g : ℕ → ℤ) → ((x : ℕ) → In p n x → f x ≡ g x) → span_z p n f ≡ span_z p n g
unfolding span_z
span_z_ext p n f g h = sum_z_to_ext< n (λ x. f (p + x)) (λ x. g (p + x)) (λ x k. h (p + x) (omega arith))

span_z_halves : (p n : ℕ) (f : ℕ → ℤ) → span_z p (n + n) f ≡ span_z p n f +ℤ span_z (p + n) n f
unfolding span_z
span_z_halves p n f =
    sum_z_to_split n n (λ x. f (p + x))
    ∙ ap (λ (z : ℤ). sum_z_to n (λ x. f (p + x)) +ℤ z) (sum_z_to_ext< n _ _ (λ x k. ap f (omega arith)))

span_z_add : (p n : ℕ) (f g : ℕ → ℤ) → span_z p n (λ x. f x +ℤ g x) ≡ span_z p n f +ℤ span_z p n g
unfolding span_z
span_z_add p n f g = sum_z_to_add n (λ x. f (p + x)) (λ x. g (p + x))

module _ (p q n : ℕ) where
  pub area_z_ext : (f g : ℕ → ℕ → ℤ) → ((x y : ℕ) → In p n x → In q n y → f x y ≡ g x y) → area_z p q n f
      ≡ area_z p q n g
  unfolding area_z
  area_z_ext f g h = span_z_ext p n _ _ (λ x i. span_z_ext q n (f x) (g x) (λ y j. h x y i j))

  pub area_z_fall : (f : ℕ → ℕ → ℤ) (g : ℕ → ℕ → ℕ)
      → area_z p q n (λ x y. f x y -ℤ pos (g x y)) ≡ area_z p q n f -ℤ pos (area p q n g)
  unfolding area_z area span_z span
  area_z_fall f g =
      sum_z_to_ext< n _ _ (λ x k. sum_fall n (λ y. f (p + x) (q + y)) (λ y. g (p + x) (q + y)))
      ∙ sum_fall n (λ x. sum_z_to n (λ y. f (p + x) (q + y))) (λ x. sum_to n (λ y. g (p + x) (q + y)))

  pub area_z_pos : (g : ℕ → ℕ → ℕ) → area_z p q n (λ x y. pos (g x y)) ≡ pos (area p q n g)
  unfolding area_z area span_z span
  area_z_pos g =
      sum_z_to_ext< n _ _ (λ x k. sum_z_to_pos n (λ y. g (p + x) (q + y)))
      ∙ sum_z_to_pos n (λ x. sum_to n (λ y. g (p + x) (q + y)))

  pub area_z_quarters : (f : ℕ → ℕ → ℤ)
      → area_z p q (n + n) f ≡ area_z p q n f +ℤ area_z p (q + n) n f +ℤ area_z (p + n) q n f +ℤ area_z (p + n) (q + n)
      n f
  unfolding area_z
  area_z_quarters f =
      span_z_halves p n (λ x. span_z q (n + n) (f x)) ∙ rw (halves p, halves (p + n)) (simp zz (omega ints))
    where
      halves : (m : ℕ)
          → span_z m n (λ x. span_z q (n + n) (f x)) ≡ span_z m n (λ x. span_z q n (f x))
          +ℤ span_z m n (λ x. span_z (q + n) n (f x))
      halves m =
          span_z_ext m n _ _ (λ x i. span_z_halves q n (f x))
          ∙ span_z_add m n (λ x. span_z q n (f x)) (λ x. span_z (q + n) n (f x))

pub area_z_one : (p q : ℕ) (f : ℕ → ℕ → ℤ) → area_z p q 1 f ≡ f p q
unfolding area_z span_z sum_z_to
area_z_one p q f = simp (add-zero, +ℤ_idl)

-- a block of the definitions is the square at (a s, b s)
pub block_z_area : (r : ℕ) (f : ℕ → ℕ → ℤ) (k a b : ℕ)
    → block_sum_z r f k a b ≡ area_z (a * block_side r k) (b * block_side r k) (block_side r k) f
unfolding block_sum_z area_z span_z
block_z_area r f k a b = refl
