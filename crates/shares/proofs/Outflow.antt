-- How much of a dot's worth is taken outside a square that holds its cell: at most 21,760 for each side of the square
-- that the cell lies on (`outflow`). Over the whole map nothing is lost: one dot's worth is taken (`fall_whole`). Of
-- the table of weights only that it is fit is used, of the shares only their sum and bound.
use Rattle.std.specs.Prelude.{◌≡◌}
use Rattle.std.proofs.Common.{ap, ◌∙◌, inl, inr, add-sub_cancel, mul-le-mul_left, mul-one}
use Rattle.std.proofs.Math.Path.{ap₂}
use Prim.Native.Nat.{ℕ, zero, suc, ◌+◌, ◌*◌, ◌-◌, ◌/◌, ◌%◌, ◌^◌, ◌≤◌, ◌<◌}
use native.Mathlib.Omega.{arith}
use Rattle.std.proofs.Math.Nat.{add-zero, mul-le-mul}
use Rattle.std.proofs.Math.Decide.{ℕ_discrete}
use Rattle.definition.specs.Lists.{sum_to}
use Rattle.definition.specs.Pyramid.{one_dot}
use Rattle.definition.specs.Diffusion.{Kernel, row_near, column_near, weight_at, share}
use Rattle.integers.specs.Sums.{sum_to_mono<, sum_to_ext, sum_to_ext<}
use Rattle.quadtree.specs.Areas.{In, span, area, area_add, area_zero}
use Rattle.quadtree.specs.Points.{δ, δ_same, δ_other, span_in, area_point}
use Rattle.quadtree.specs.Sides.{ends, sides}
use Rattle.shares.specs.Stays.{stay_arith}
use Rattle.shares.specs.Shares.{share_bound, share_sum, share_none}
use Rattle.shares.specs.Kernels.{
  Next,
  within,
  beyond,
  off,
  present,
  inside,
  touching,
  of_three,
  kind_weight,
  kind_stays,
  kind_sides,
  KindFits,
  Fit,
}
use Rattle.shares.specs.Neighbours.{on, on_yes, on_no, weight_is, weight_on_map, spread, fall}

-- ---- one axis: a place x among the n places from m on, on a line of 2^r places
-- the place before it, and the place after it; both are counted from one before the line, as `on` does
pub record Before (r m n x : ℕ) (s : Next) : Type 0 where
  pub map : on r x ≡ present s
  pub square : inside s ≤ span m n (δ (x - 1))
  pub edge : δ m x ≡ touching s

pub record After (r m n x : ℕ) (s : Next) : Type 0 where
  pub map : on r (x + 2) ≡ present s
  pub square : inside s ≤ span m n (δ (x + 2 - 1))
  pub edge : δ (m + (n - 1)) x ≡ touching s

module _ (r m n x : ℕ) (fits : m + n ≤ 2 ^ r) (i : In m n x) where
  before : (s : Next) × Before r m n x s
  unfolding present inside touching
  before = go (ℕ_discrete x 0) (ℕ_discrete m x)
    where
      go : Dec (x ≡ 0) → Dec (m ≡ x) → (s : Next) × Before r m n x s
      go (yes z) e = (off, record { map = on_no r x (inl z); square = omega arith; edge = δ_same m x (omega arith) })
      go (no z) (yes e) =
          (beyond, record { map = on_yes r x (omega arith) (omega arith); square = omega arith; edge = δ_same m x e })
      go (no z) (no e) = (
        within,
        record {
          map = on_yes r x (omega arith) (omega arith);
          square = omega (arith, span_in m n (x - 1) (omega arith));
          edge = δ_other m x e;
        },
      )

  after : (s : Next) × After r m n x s
  unfolding present inside touching
  after = go (ℕ_discrete (x + 1) (2 ^ r)) (ℕ_discrete (m + (n - 1)) x)
    where
      go : Dec (x + 1 ≡ 2 ^ r) → Dec (m + (n - 1) ≡ x) → (s : Next) × After r m n x s
      go (yes z) e = (
        off,
        record {
          map = on_no r (x + 2) (inr (omega arith));
          square = omega arith;
          edge = δ_same (m + (n - 1)) x (omega arith);
        },
      )
      go (no z) (yes e) = (
        beyond,
        record {
          map = on_yes r (x + 2) (omega arith) (omega arith);
          square = omega arith;
          edge = δ_same (m + (n - 1)) x e;
        },
      )
      go (no z) (no e) = (
        within,
        record {
          map = on_yes r (x + 2) (omega arith) (omega arith);
          square = omega (arith, span_in m n (x + 2 - 1) (omega arith));
          edge = δ_other (m + (n - 1)) x e;
        },
      )

  module _ (s t : Next) (u : Before r m n x s) (v : After r m n x t) where
    -- the three places around x: on the line, and in the square
    three_on : (d : ℕ) → d < 3 → on r (x + d) ≡ of_three d (present s) (present t)
    unfolding of_three
    three_on zero h = rw add-zero u.map
    three_on (suc zero) h = on_yes r (x + 1) (omega arith) (omega arith)
    three_on (suc (suc zero)) h = v.map
    three_on (suc (suc (suc d))) h = absurd (omega arith)

    three_in : (d : ℕ) → d < 3 → of_three d (inside s) (inside t) ≤ span m n (δ (x + d - 1))
    unfolding of_three
    three_in zero h = rw add-zero u.square
    three_in (suc zero) h = rw (add-sub_cancel x 1) (omega (arith, span_in m n x i))
    three_in (suc (suc zero)) h = v.square
    three_in (suc (suc (suc d))) h = absurd (omega arith)

    -- a line of two places or more has one before or after x
    some_next : 2 ≤ 2 ^ r → 0 < present s + present t
    some_next big = go (ℕ_discrete x 0)
      where
        go : Dec (x ≡ 0) → 0 < present s + present t
        go (yes z) = omega (arith, v.map, on_yes r (x + 2) (omega arith) (omega arith))
        go (no z) = omega (arith, u.map, on_yes r x (omega arith) (omega arith))

inside_bit : (s : Next) → inside s ≤ 1
unfolding inside
inside_bit within = omega arith
inside_bit beyond = omega arith
inside_bit off = omega arith

three_bit : (d : ℕ) (s t : Next) → of_three d (inside s) (inside t) ≤ 1
unfolding of_three
three_bit zero s t = inside_bit s
three_bit (suc zero) s t = omega arith
three_bit (suc (suc d)) s t = inside_bit t

-- ---- the sum over a square of what a dot takes
area_sum : (p q n m : ℕ) (f : ℕ → ℕ → ℕ → ℕ)
    → area p q n (λ x y. sum_to m (λ k. f k x y)) ≡ sum_to m (λ k. area p q n (f k))
unfolding sum_to
area_sum p q n zero f = area_zero p q n
area_sum p q n (suc m) f =
    area_add p q n (λ x y. sum_to m (λ k. f k x y)) (f m) ∙ ap (λ (k : ℕ). k + area p q n (f m)) (area_sum p q n m f)

module _ (kernel : Kernel) (r row column : ℕ) where
  -- the weights and the places by turn
  abbrev weights : ℕ → ℕ
  weights = weight_at kernel r row column

  abbrev row_to : ℕ → ℕ
  row_to m = row_near row (kernel.turn m) - 1

  abbrev column_to : ℕ → ℕ
  column_to m = column_near column (kernel.turn m) - 1

  pub fall_area : (p q n w : ℕ) → area p q n (fall kernel r row column w)
      ≡ w * (span p n (δ row) * span q n (δ column))
      + sum_to 9 (λ m. share 9 weights (one_dot - w) m * (span p n (δ (row_to m)) * span q n (δ (column_to m))))
  unfolding fall spread
  fall_area p q n w =
      area_add p q n (λ x y. δ row x * δ column y * w)
      (λ x y. sum_to 9 (λ m. δ (row_to m) x * δ (column_to m) y * share 9 weights (one_dot - w) m))
      ∙ ap₂ ◌+◌ (area_point p q n (λ x y. w) row column)
      (area_sum p q n 9 (λ m x y. δ (row_to m) x * δ (column_to m) y * share 9 weights (one_dot - w) m)
      ∙ sum_to_ext 9 _ _ (λ m. area_point p q n (λ x y. share 9 weights (one_dot - w) m) (row_to m) (column_to m)))

  module _ (fit : Fit kernel) (big : 2 ≤ 2 ^ r) (p q n : ℕ) (low : p + n ≤ 2 ^ r) (wide : q + n ≤ 2 ^ r)
      (i : In p n row) (j : In q n column) where
    -- the kind of the cell
    abbrev t : (s : Next) × Before r p n row s
    t = before r p n row low i

    abbrev b : (s : Next) × After r p n row s
    b = after r p n row low i

    abbrev l : (s : Next) × Before r q n column s
    l = before r q n column wide j

    abbrev d : (s : Next) × After r q n column s
    d = after r q n column wide j

    weight_kind : (m : ℕ) → m < 9 → weights m ≡ kind_weight kernel t.0 b.0 l.0 d.0 m
    unfolding kind_weight
    weight_kind m k =
        weight_is kernel r row column m
        ∙ rw (
          three_on r p n row low i t.0 b.0 t.1 b.1 (kernel.turn m / 3) (omega (arith, fit.turns m k)),
          three_on r q n column wide j l.0 d.0 l.1 d.1 (kernel.turn m % 3) (omega arith),
        )

    abbrev stays : ℕ → ℕ
    stays = kind_stays kernel t.0 b.0 l.0 d.0

    stays_in : (m : ℕ) → m < 9 → stays m ≤ span p n (δ (row_to m)) * span q n (δ (column_to m))
    unfolding kind_stays
    stays_in m k =
        mul-le-mul
        (three_in r p n row low i t.0 b.0 t.1 b.1 (kernel.turn m / 3) (omega (arith, fit.turns m k)))
        (three_in r q n column wide j l.0 d.0 l.1 d.1 (kernel.turn m % 3) (omega arith))

    stays_bit : (m : ℕ) → stays m ≤ 1
    unfolding kind_stays
    stays_bit m =
        omega (
          arith,
          mul-le-mul (three_bit (kernel.turn m / 3) t.0 b.0)
              (three_bit (kernel.turn m % 3) l.0 d.0),
        )

    sides_kind : sides p q n row column ≡ kind_sides kernel t.0 b.0 l.0 d.0
    unfolding sides ends kind_sides
    sides_kind = omega (arith, t.1.edge, b.1.edge, l.1.edge, d.1.edge)

    kind : KindFits kernel t.0 b.0 l.0 d.0
    kind =
        fit.kinds t.0 b.0 l.0 d.0 (some_next r p n row low i t.0 b.0 t.1 b.1 big)
        (some_next r q n column wide j l.0 d.0 l.1 d.1 big)

    sum_kind : sum_to 9 weights ≡ sum_to 9 (kind_weight kernel t.0 b.0 l.0 d.0)
    sum_kind = sum_to_ext< 9 weights (kind_weight kernel t.0 b.0 l.0 d.0) weight_kind

    -- the weights of the neighbours: there are some, and their sum divides 65,280
    pub weights_some : 0 < sum_to 9 weights
    weights_some = go (sum_to 9 weights) (rw sum_kind kind.divides)
      where
        go : (D : ℕ) → D * kind.unit ≡ one_dot → 0 < D
        go zero e = absurd (omega (arith, e))
        go (suc D) e = omega arith

    pub outflow : (w : ℕ) → w ≤ one_dot
        → one_dot ≤ area p q n (fall kernel r row column w) + 21760 * sides p q n row column
    outflow w h =
        let s = share 9 weights (one_dot - w) in
        let total : w + sum_to 9 s ≡ one_dot = omega (arith, share_sum 9 weights weights_some (one_dot - w)) in
        let whole : sum_to 9 weights * kind.unit ≡ one_dot = rw sum_kind kind.divides in
        let few : 3 * sum_to 9 (λ m. weights m * (1 - stays m)) ≤ sum_to 9 weights
        * kind_sides kernel t.0 b.0 l.0 d.0 =
        rw (
          sum_kind,
          sum_to_ext< 9 (λ m. weights m * (1 - stays m))
              (λ m. kind_weight kernel t.0 b.0 l.0 d.0 m * (1 - stays m))
              (λ m k. ap (λ (v : ℕ). v * (1 - stays m)) (weight_kind m k)),
        ) kind.outside in
        omega (
          arith,
          rw (span_in p n row i, span_in q n column j) at (fall_area p q n w),
          sides_kind,
          stay_arith weights stays s kind.unit (kind_sides kernel t.0 b.0 l.0 d.0) w stays_bit
              (λ m. share_bound 9 weights weights_some kind.unit (one_dot - w) m (omega (arith, whole))) total whole
              few,
          sum_to_mono< 9 (λ m. s m * stays m) (λ m. s m * (span p n (δ (row_to m)) * span q n (δ (column_to m))))
              (λ m k. mul-le-mul_left (s m) (stays_in m k)),
        )

-- over the whole map one dot's worth is taken (S 3.7)
pub fall_whole : (kernel : Kernel) (r row column : ℕ) → Fit kernel → 2 ≤ 2 ^ r → row < 2 ^ r → column < 2 ^ r → (w : ℕ)
    → w ≤ one_dot → area 0 0 (2 ^ r) (fall kernel r row column w) ≡ one_dot
fall_whole kernel r row column fit big i j w h =
    omega (
      arith,
      rw (span_in 0 (2 ^ r) row (omega arith), span_in 0 (2 ^ r) column (omega arith))
          at (fall_area kernel r row column 0 0 (2 ^ r) w),
      sum_to_ext 9 (λ m. s m * (span 0 (2 ^ r) (δ (x m)) * span 0 (2 ^ r) (δ (y m)))) s
          (λ m. all m (ℕ_discrete (weight_at kernel r row column m) 0)),
      share_sum 9 (weight_at kernel r row column) some (one_dot - w),
    )
  where
    some : 0 < sum_to 9 (weight_at kernel r row column)
    some = weights_some kernel r row column fit big 0 0 (2 ^ r) (omega arith) (omega arith) (omega arith) (omega arith)

    s : ℕ → ℕ
    s m = share 9 (weight_at kernel r row column) (one_dot - w) m

    x : ℕ → ℕ
    x m = row_near row (kernel.turn m) - 1

    y : ℕ → ℕ
    y m = column_near column (kernel.turn m) - 1

    all : (m : ℕ) → Dec (weight_at kernel r row column m ≡ 0)
        → s m * (span 0 (2 ^ r) (δ (x m)) * span 0 (2 ^ r) (δ (y m))) ≡ s m
    all m (yes z) =
        let e : s m ≡ 0 = share_none 9 (weight_at kernel r row column) some (one_dot - w) m z in rw e (omega arith)
    all m (no z) =
        let o = weight_on_map kernel r row column m z in
        rw (span_in 0 (2 ^ r) (x m) (omega arith), span_in 0 (2 ^ r) (y m) (omega arith)) (mul-one (s m))
