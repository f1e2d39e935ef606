-- Tables of weights that the laws hold for (`Fit`), by one test that is computed (`fit_of`, and `knit_fit` for the
-- table of each knit): over every kind of cell, as seen from a square and from the map, the weights' sum D divides
-- 65,280, and three times the weight outside the square is at most D for each side of the square that the cell lies on.
use Rattle.std.specs.Prelude.{◌≡◌, ◌⊎◌, Bool, ◌&&◌, ◌||◌, ℕ, zero, suc, ◌+◌, ◌*◌, ◌-◌, ◌/◌, ◌%◌, ◌≤◌, ◌<◌, T, leb, ltb}
use Rattle.std.specs.Prelude.{eqb}
use Rattle.std.proofs.Common.{inl, inr, arith, leb→le, ltb→lt, eqb→eq}
use Rattle.std.proofs.Math.Nat.{div-add-mod}
use Rattle.definition.specs.Lists.{sum_to, all_to}
use Rattle.definition.specs.Pyramid.{one_dot}
use Rattle.definition.specs.Diffusion.{Kernel, weights_of, places_in_turn, kernel_of}
use Rattle.integers.specs.Tests.{T_and, T_or, all_to_at}

-- The row (or column) next to a cell's own on one side: in the square; on the map only; off the map.
pub data Next : Type 0 where
  within beyond off : Next

-- 1 if it is on the map; if it is in the square; if the cell lies on the square's side there
unfoldable pub present : Next → ℕ
present within = 1
present beyond = 1
present off = 0

unfoldable pub inside : Next → ℕ
inside within = 1
inside beyond = 0
inside off = 0

unfoldable pub touching : Next → ℕ
touching within = 0
touching beyond = 1
touching off = 1

-- of the three rows around a cell, from above: the cell's own is 1
unfoldable pub of_three : ℕ → ℕ → ℕ → ℕ
of_three zero x z = x
of_three (suc zero) x z = 1
of_three (suc (suc n)) x z = z

-- ---- one kind of cell: what is above, below, left and right of it
module _ (kernel : Kernel) (t b l r : Next) where
  -- the weight of the place in turn n, and whether that place is in the square
  unfoldable pub kind_weight : ℕ → ℕ
  kind_weight n =
      let p = kernel.turn n in
      kernel.weight p * (of_three (p / 3) (present t) (present b) * of_three (p % 3) (present l) (present r))

  unfoldable pub kind_stays : ℕ → ℕ
  kind_stays n = let p = kernel.turn n in of_three (p / 3) (inside t) (inside b) * of_three (p % 3) (inside l)
      (inside r)

  unfoldable pub kind_sides : ℕ
  kind_sides = touching t + touching b + (touching l + touching r)

  -- a map has two rows at least, so a cell has a neighbour above or below it, and one to the left or right
  unfoldable pub kind_fits : Bool
  kind_fits =
      eqb (present t + present b) 0 || eqb (present l + present r) 0
      || (eqb (one_dot % sum_to 9 kind_weight) 0
      && leb (3 * sum_to 9 (λ n. kind_weight n * (1 - kind_stays n))) (sum_to 9 kind_weight * kind_sides))

abbrev every : (Next → Bool) → Bool
every test = test within && (test beyond && test off)

unfoldable pub all_kinds_fit : Kernel → Bool
all_kinds_fit kernel = every (λ t. every (λ b. every (λ l. every (λ r. kind_fits kernel t b l r))))

-- nine turns to nine places, and the cell itself weighs nothing
unfoldable pub is_fit : Kernel → Bool
is_fit kernel = all_kinds_fit kernel && (all_to 9 (λ n. ltb (kernel.turn n) 9) && eqb (kernel.weight 4) 0)

-- ---- what the test says
pub record KindFits (kernel : Kernel) (t b l r : Next) : Type 0 where
  pub unit : ℕ
  pub divides : sum_to 9 (kind_weight kernel t b l r) * unit ≡ one_dot
  pub outside : 3 * sum_to 9 (λ n. kind_weight kernel t b l r n * (1 - kind_stays kernel t b l r n))
      ≤ sum_to 9 (kind_weight kernel t b l r) * kind_sides kernel t b l r

pub record Fit (kernel : Kernel) : Type 0 where
  pub kinds : (t b l r : Next) → 0 < present t + present b → 0 < present l + present r → KindFits kernel t b l r
  pub turns : (n : ℕ) → n < 9 → kernel.turn n < 9
  pub hollow : kernel.weight 4 ≡ 0

every_at : (test : Next → Bool) → T (every test) → (s : Next) → T (test s)
every_at test t within = (T_and (test within) (test beyond && test off) t).0
every_at test t beyond = (T_and (test beyond) (test off) (T_and (test within) (test beyond && test off) t).1).0
every_at test t off = (T_and (test beyond) (test off) (T_and (test within) (test beyond && test off) t).1).1

kind_fits_lem : (kernel : Kernel) (t b l r : Next) → T (kind_fits kernel t b l r) → 0 < present t + present b
    → 0 < present l + present r → KindFits kernel t b l r
unfolding kind_fits
kind_fits_lem kernel t b l r h v w =
    go (T_or (eqb (present t + present b) 0 || eqb (present l + present r) 0) divided h)
  where
    D : ℕ
    D = sum_to 9 (kind_weight kernel t b l r)

    out : ℕ
    out = 3 * sum_to 9 (λ n. kind_weight kernel t b l r n * (1 - kind_stays kernel t b l r n))

    divided : Bool
    divided = eqb (one_dot % D) 0 && leb out (D * kind_sides kernel t b l r)

    none : T (eqb (present t + present b) 0) ⊎ T (eqb (present l + present r) 0) → ⊥
    none (inl e) = omega (arith, eqb→eq (present t + present b) 0 e)
    none (inr e) = omega (arith, eqb→eq (present l + present r) 0 e)

    go : T (eqb (present t + present b) 0 || eqb (present l + present r) 0) ⊎ T divided → KindFits kernel t b l r
    go (inl e) = absurd (none (T_or (eqb (present t + present b) 0) (eqb (present l + present r) 0) e))
    go (inr e) =
        let d = T_and (eqb (one_dot % D) 0) (leb out (D * kind_sides kernel t b l r)) e in
        record {
          unit = one_dot / D;
          divides = omega (arith, div-add-mod one_dot D, eqb→eq (one_dot % D) 0 d.0);
          outside = leb→le out (D * kind_sides kernel t b l r) d.1;
        }

pub fit_of : (kernel : Kernel) → T (is_fit kernel) → Fit kernel
unfolding is_fit all_kinds_fit
fit_of kernel h =
    let u = T_and (all_kinds_fit kernel) (all_to 9 (λ n. ltb (kernel.turn n) 9) && eqb (kernel.weight 4) 0) h in
    let v = T_and (all_to 9 (λ n. ltb (kernel.turn n) 9)) (eqb (kernel.weight 4) 0) u.1 in
    record {
      kinds = λ t b l r.
          kind_fits_lem kernel t b l r
          (every_at (λ s. kind_fits kernel t b l s)
          (every_at (λ s. every (λ z. kind_fits kernel t b s z))
          (every_at (λ s. every (λ y. every (λ z. kind_fits kernel t s y z)))
          (every_at (λ s. every (λ x. every (λ y. every (λ z. kind_fits kernel s x y z)))) u.0 t) b) l) r);
      turns = λ n k. ltb→lt (kernel.turn n) 9 (all_to_at 9 (λ m. ltb (kernel.turn m) 9) v.0 n k);
      hollow = eqb→eq (kernel.weight 4) 0 v.1;
    }

-- the weights of each knit (S 3.5): the test above, computed for one table and for the other
pub knit_fit : (knit : ℕ) → Fit (kernel_of knit)
unfolding is_fit all_kinds_fit kind_fits kind_weight kind_stays kind_sides present inside touching of_three all_to
    sum_to weights_of places_in_turn kernel_of
knit_fit zero = fit_of (kernel_of 0) tt
knit_fit (suc n) = fit_of (kernel_of (suc n)) tt
