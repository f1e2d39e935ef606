-- The sides of some of a square's cells (`some_sides`).
use Rattle.std.specs.Prelude.{ℕ, ◌*◌, ◌≤◌, ◌<◌}
use Rattle.std.proofs.Common.{arith, mul-le-mul_right}
use Rattle.quadtree.specs.Areas.{In, area, area_mono}
use Rattle.quadtree.specs.Sides.{sides, sides_sum}

-- the sides of some of the cells, each at most once
pub some_sides : (p q n : ℕ) → 0 < n → (f : ℕ → ℕ → ℕ) → ((x y : ℕ) → In p n x → In q n y → f x y ≤ 1)
    → area p q n (λ x y. f x y * sides p q n x y) ≤ 4 * n
some_sides p q n h f once =
    omega (
      arith,
      sides_sum p q n h,
      area_mono p q n (λ x y. f x y * sides p q n x y) (sides p q n)
          (λ x y i j. omega (arith, mul-le-mul_right (sides p q n x y) (once x y i j))),
    )
