-- The neighbours of a cell that are burnt: a dot adds one to the count at each cell around it (`near_add`), and takes
-- from no other cell but its own. So what it takes from a cell is at most one dot's worth for each burnt neighbour more
-- (`spread_near`).
use Rattle.std.specs.Prelude.{◌≡◌, refl, ◌≢◌, ◌⊎◌, Bool, true, false, not, ◌&&◌, List, ℕ, ◌+◌, ◌*◌, ◌-◌, ◌/◌, ◌%◌, ◌^◌}
use Rattle.std.specs.Prelude.{◌≤◌, ◌<◌}
use Rattle.std.proofs.Common.{◌∙◌, inl, inr}
use Rattle.std.proofs.Math.Bool.{cond}
use native.Mathlib.Omega.{arith}
use Rattle.std.proofs.Math.Nat.{mul-le-mul, mul-le-mul_right, add-sub_cancel}
use Rattle.std.proofs.Math.Decide.{ℕ_discrete}
use lib.Dec.{T, eqb, leb, le→leb}
use Rattle.definition.specs.Lists.{sum_to}
use Rattle.definition.specs.Pyramid.{one_dot}
use Rattle.definition.specs.Blocks.{burnt_at}
use Rattle.definition.specs.Diffusion.{Kernel, row_near, column_near, within, on_map, weight_at, share}
use Rattle.definition.specs.Sound.{burnt_near}
use Rattle.integers.specs.Sums.{sum_to_add, sum_to_ext<, sum_to_mono<, sum_to_zero, le_sum_to, sum_to_bound}
use Rattle.integers.specs.Tests.{T_and, and_T, ne→neqb, cond_T, cond_both}
use Rattle.quadtree.specs.Points.{δ, δ_le, hit, δδ_same}
use Rattle.shares.specs.Shares.{share_sum, share_none}
use Rattle.shares.specs.Kernels.{Fit}
use Rattle.shares.specs.Neighbours.{weight_is, weight_on_map, spread}
use Rattle.dots.specs.Marks.{burnt_at_le}

-- the places around (x, y) at which a sheet f counts: those of the eight that lie on the map
unfoldable pub near : ℕ → (ℕ → ℕ → ℕ) → ℕ → ℕ → ℕ
near r f x y = sum_to 9 (λ p. cond (not (eqb p 4) && on_map r x y p) (f (row_near x p - 1) (column_near y p - 1)) 0)

pub burnt_near_is : (r : ℕ) (serials : List ℕ) (x y : ℕ) → burnt_near r serials x y ≡ near r (burnt_at r serials) x y
unfolding burnt_near near
burnt_near_is r serials x y = refl

-- of the nine places around a cell, no more are burnt
pub burnt_near_most : (r : ℕ) (serials : List ℕ) (x y : ℕ) → burnt_near r serials x y ≤ 9
unfolding burnt_near
burnt_near_most r serials x y =
    sum_to_bound 9 1 _
    (λ p k. cond_both (λ m. m ≤ 1) (not (eqb p 4) && on_map r x y p) _ 0 (λ t. burnt_at_le r serials _ _)
    (λ t. omega arith))

-- a place on the map, as a row and a column
pub on_map_lem : (r x y p : ℕ) → T (on_map r x y p)
    → (1 ≤ row_near x p) × (row_near x p ≤ 2 ^ r) × (1 ≤ column_near y p) × (column_near y p ≤ 2 ^ r)
unfolding on_map within
on_map_lem r x y p t =
    let u = T_and (within r (row_near x p)) (within r (column_near y p)) t in
    let a = T_and (leb 1 (row_near x p)) (leb (row_near x p) (2 ^ r)) u.0 in
    let b = T_and (leb 1 (column_near y p)) (leb (column_near y p) (2 ^ r)) u.1 in (
      lib.Dec.leb→le 1 (row_near x p) a.0,
      lib.Dec.leb→le (row_near x p) (2 ^ r) a.1,
      lib.Dec.leb→le 1
          (column_near y p) b.0,
      lib.Dec.leb→le (column_near y p) (2 ^ r) b.1,
    )

map_on : (r x y p : ℕ) → 1 ≤ row_near x p → row_near x p ≤ 2 ^ r → 1 ≤ column_near y p → column_near y p ≤ 2 ^ r
    → T (on_map r x y p)
unfolding on_map within
map_on r x y p a b c d =
    and_T (within r (row_near x p)) (within r (column_near y p))
    (and_T (leb 1 (row_near x p)) (leb (row_near x p) (2 ^ r)) (le→leb 1 (row_near x p) a)
    (le→leb (row_near x p) (2 ^ r) b))
    (and_T (leb 1 (column_near y p)) (leb (column_near y p) (2 ^ r)) (le→leb 1 (column_near y p) c)
    (le→leb (column_near y p) (2 ^ r) d))

-- two sheets on the map, added
pub near_add : (r : ℕ) (f g h : ℕ → ℕ → ℕ) (x y : ℕ) → ((u v : ℕ) → u < 2 ^ r → v < 2 ^ r → f u v ≡ g u v + h u v)
    → near r f x y ≡ near r g x y + near r h x y
unfolding near
near_add r f g h x y e =
    sum_to_ext< 9 _ _
    (λ p k. at p (not (eqb p 4) && on_map r x y p) (λ t. (T_and (not (eqb p 4)) (on_map r x y p) t).1))
    ∙ sum_to_add 9 _ _
  where
    at : (p : ℕ) (b : Bool) → (T b → T (on_map r x y p))
        → cond b (f (row_near x p - 1) (column_near y p - 1)) 0 ≡ cond b (g (row_near x p - 1) (column_near y p - 1)) 0
        + cond b (h (row_near x p - 1) (column_near y p - 1)) 0
    at p true t = let o = on_map_lem r x y p (t tt) in
        e (row_near x p - 1) (column_near y p - 1) (omega arith) (omega arith)
    at p false t = refl

-- ---- the spread of one dot
-- seen from place p of the nine, the middle is at place 8 − p
mirror_row : (p a x : ℕ) → p < 9 → 1 ≤ row_near a p → row_near a p - 1 ≡ x → row_near x (8 - p) ≡ a + 1
mirror_row p a x h k e = let m : (8 - p) / 3 ≡ 2 - p / 3 = omega arith in rw m (omega arith)

mirror_column : (p a x : ℕ) → p < 9 → 1 ≤ column_near a p → column_near a p - 1 ≡ x → column_near x (8 - p) ≡ a + 1
mirror_column p a x h k e = let m : (8 - p) % 3 ≡ 2 - p % 3 = omega arith in rw m (omega arith)

module _ (kernel : Kernel) (fit : Fit kernel) (r row column d : ℕ) (i : row < 2 ^ r) (j : column < 2 ^ r)
    (some : 0 < sum_to 9 (weight_at kernel r row column)) (x y : ℕ) where
  abbrev hits : ℕ → ℕ
  hits n = δ (row_near row (kernel.turn n) - 1) x * δ (column_near column (kernel.turn n) - 1) y

  abbrev shares : ℕ → ℕ
  shares = share 9 (weight_at kernel r row column) d

  -- at most all of d is taken from one cell
  spread_le : spread kernel r row column d x y ≤ d
  unfolding spread
  spread_le =
      omega (
        arith,
        share_sum 9 (weight_at kernel r row column) some d,
        sum_to_mono< 9 (λ n. hits n * shares n) shares
            (λ n k. once (hits n) (shares n)
            (omega (
              arith,
              mul-le-mul (δ_le (row_near row (kernel.turn n) - 1) x)
                  (δ_le (column_near column (kernel.turn n) - 1) y),
            ))),
      )
    where
      once : (b s : ℕ) → b ≤ 1 → b * s ≤ s
      once b s h = omega (arith, mul-le-mul_right s h)

  abbrev point : ℕ → ℕ → ℕ
  point u v = δ row u * δ column v

  -- a cell from which something is taken has the dot among its neighbours
  seen_back : (n : ℕ) → n < 9 → weight_at kernel r row column n ≢ 0
      → (row_near row (kernel.turn n) - 1 ≡ x) × (column_near column (kernel.turn n) - 1 ≡ y) → 0 < near r point x y
  unfolding near
  seen_back n k w e =
      let p = kernel.turn n in
      let o = weight_on_map kernel r row column n w in
      let u = mirror_row p row x (fit.turns n k) o.0 e.0 in
      let v = mirror_column p column y (fit.turns n k) o.2 e.1 in
      go (8 - p) u v
      (λ z. let q : p ≡ 4 = omega (arith, fit.turns n k) in w
      (weight_is kernel r row column n ∙ rw (q, fit.hollow) (omega arith))) (omega arith)
    where
      go : (m : ℕ) → row_near x m ≡ row + 1 → column_near y m ≡ column + 1 → m ≢ 4 → m < 9
          → 0 < sum_to 9 (λ q. cond (not (eqb q 4) && on_map r x y q) (point (row_near x q - 1) (column_near y q - 1))
          0)
      go m u v ne lt =
          let on = and_T (not (eqb m 4)) (on_map r x y m) (ne→neqb m 4 ne)
          (map_on r x y m (omega arith) (omega arith) (omega arith) (omega arith)) in
          let one : cond (not (eqb m 4) && on_map r x y m) (point (row_near x m - 1) (column_near y m - 1)) 0 ≡ 1 =
          cond_T (not (eqb m 4) && on_map r x y m) (point (row_near x m - 1) (column_near y m - 1)) 0 on
          ∙ rw (u, v, add-sub_cancel row 1, add-sub_cancel column 1) (δδ_same row column) in
          omega (
            arith,
            one,
            le_sum_to 9 m
                (λ q. cond (not (eqb q 4) && on_map r x y q) (point (row_near x q - 1) (column_near y q - 1)) 0) lt,
          )

  -- and nothing is taken from one that hasn't
  spread_none : near r point x y ≡ 0 → spread kernel r row column d x y ≡ 0
  unfolding spread
  spread_none far =
      sum_to_zero 9 (λ n. hits n * shares n)
      (λ n k. each n k (hit (row_near row (kernel.turn n) - 1) (column_near column (kernel.turn n) - 1) x y)
      (ℕ_discrete (weight_at kernel r row column n) 0))
    where
      each : (n : ℕ) → n < 9
          → ((row_near row (kernel.turn n) - 1 ≡ x) × (column_near column (kernel.turn n) - 1 ≡ y)) ⊎ (hits n ≡ 0)
          → Dec (weight_at kernel r row column n ≡ 0) → hits n * shares n ≡ 0
      each n k (inr z) w = rw z (omega arith)
      each n k (inl e) (yes w) = rw (share_none 9 (weight_at kernel r row column) some d n w) (omega arith)
      each n k (inl e) (no w) = absurd (omega (arith, far, seen_back n k w e))

  pub spread_near : d ≤ one_dot → spread kernel r row column d x y ≤ one_dot * near r point x y
  spread_near h = go (ℕ_discrete (near r point x y) 0)
    where
      go : Dec (near r point x y ≡ 0) → spread kernel r row column d x y ≤ one_dot * near r point x y
      go (yes z) = omega (arith, spread_none z)
      go (no z) = omega (arith, spread_le)
