-- How many of a square's four sides a cell lies on: over all cells of the square, four times its side (`sides_sum`).
use Rattle.std.specs.Prelude.{◌≡◌, ℕ, ◌+◌, ◌*◌, ◌-◌, ◌<◌}
use Rattle.std.proofs.Common.{arith}
use Rattle.quadtree.specs.Areas.{span, area, span_add, area_add, area_rows, area_columns}
use Rattle.quadtree.specs.Points.{δ, span_in}

-- how many of the two ends of the n places from p on x is: 2 where there is one place
unfoldable pub ends : ℕ → ℕ → ℕ → ℕ
ends p n x = δ p x + δ (p + (n - 1)) x

unfoldable pub sides : ℕ → ℕ → ℕ → ℕ → ℕ → ℕ
sides p q n x y = ends p n x + ends q n y

ends_sum : (p n : ℕ) → 0 < n → span p n (ends p n) ≡ 2
unfolding ends
ends_sum p n h =
    omega (
      arith,
      span_add p n (δ p) (δ (p + (n - 1))),
      span_in p n p (omega arith),
      span_in p n (p + (n - 1))
          (omega arith),
    )

pub sides_sum : (p q n : ℕ) → 0 < n → area p q n (sides p q n) ≡ 4 * n
unfolding sides
sides_sum p q n h =
    rw (
      area_add p q n (λ x y. ends p n x) (λ x y. ends q n y),
      area_rows p q n (ends p n),
      area_columns p q n
          (ends q n),
      ends_sum p n h,
      ends_sum q n h,
    ) (omega arith)
