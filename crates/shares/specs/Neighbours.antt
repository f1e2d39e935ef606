-- The places around a cell: which lie on the map, what they weigh (`weight_is`, `weight_on_map`), and what a dot at the
-- cell takes from each; away from them nothing is taken (`fall_away`).
use Rattle.std.specs.Prelude.{◌≡◌, ◌≢◌, ◌⊎◌, false, not, ◌&&◌, ℕ, ◌+◌, ◌*◌, ◌-◌, ◌^◌, ◌≤◌, ◌<◌, T, leb}
use Rattle.std.proofs.Math.Path.{ap}
use Rattle.std.proofs.Common.{◌∙◌, inl, inr, arith, T_not, leb→le, le→leb}
use Rattle.std.proofs.Math.Nat.{mul_comm}
use Rattle.definition.specs.Lists.{sum_to}
use Rattle.definition.specs.Diffusion.{Kernel, row_near, column_near, within, on_map, weight_at, share}
use Rattle.definition.specs.Renewal.{is_near}
use Rattle.integers.specs.Sums.{sum_to_zero}
use Rattle.integers.specs.Tests.{bit, bit_true, bit_false, bit_and, cond_bit, T_false, T_and, and_T, four_T, T_or_not}
use Rattle.quadtree.specs.Points.{δ, hit}

-- 1 if a row or column, counted from one before the map, lies on the map, else 0
unfoldable pub on : ℕ → ℕ → ℕ
on r x = bit (within r x)

pub on_yes : (r x : ℕ) → 1 ≤ x → x ≤ 2 ^ r → on r x ≡ 1
unfolding on within
on_yes r x h k =
    bit_true (leb 1 x && leb x (2 ^ r)) (and_T (leb 1 x) (leb x (2 ^ r)) (le→leb 1 x h) (le→leb x (2 ^ r) k))

pub on_or : (r x : ℕ) → ((1 ≤ x) × (x ≤ 2 ^ r)) ⊎ (on r x ≡ 0)
unfolding on within
on_or r x = go (T_or_not (leb 1 x && leb x (2 ^ r)))
  where
    go : T (leb 1 x && leb x (2 ^ r)) ⊎ T (not (leb 1 x && leb x (2 ^ r)))
        → ((1 ≤ x) × (x ≤ 2 ^ r)) ⊎ (bit (leb 1 x && leb x (2 ^ r)) ≡ 0)
    go (inl t) = let u = T_and (leb 1 x) (leb x (2 ^ r)) t in inl (leb→le 1 x u.0, leb→le x (2 ^ r) u.1)
    go (inr t) = inr (bit_false (leb 1 x && leb x (2 ^ r)) t)

pub on_no : (r x : ℕ) → (x ≡ 0) ⊎ (2 ^ r < x) → on r x ≡ 0
on_no r x h = go h (on_or r x)
  where
    go : (x ≡ 0) ⊎ (2 ^ r < x) → ((1 ≤ x) × (x ≤ 2 ^ r)) ⊎ (on r x ≡ 0) → on r x ≡ 0
    go (inl z) (inl k) = absurd (omega arith)
    go (inr z) (inl k) = absurd (omega arith)
    go z (inr k) = k

-- a cell at most one row and one column away
is_near_lem : (row column x y : ℕ) → row ≤ x + 1 → x ≤ row + 1 → column ≤ y + 1 → y ≤ column + 1
    → T (is_near row column x y)
unfolding is_near
is_near_lem row column x y p q s t =
    four_T (leb row (x + 1)) (leb x (row + 1)) (leb column (y + 1)) (leb y (column + 1)) (le→leb _ _ p) (le→leb _ _ q)
    (le→leb _ _ s) (le→leb _ _ t)

module _ (kernel : Kernel) (r row column : ℕ) where
  -- the weight of turn n, as a product
  pub weight_is : (n : ℕ)
      → weight_at kernel r row column n ≡ kernel.weight (kernel.turn n)
      * (on r (row_near row (kernel.turn n)) * on r (column_near column (kernel.turn n)))
  unfolding weight_at on_map on
  weight_is n =
      let p = kernel.turn n in
      let a = within r (row_near row p) in
      let b = within r (column_near column p) in
      cond_bit (a && b) (kernel.weight p) ∙ ap (λ (k : ℕ). k * kernel.weight p) (bit_and a b)
      ∙ mul_comm (bit a * bit b) (kernel.weight p)

  -- a place with a weight lies on the map
  pub weight_on_map : (n : ℕ) → weight_at kernel r row column n ≢ 0
      → (1 ≤ row_near row (kernel.turn n)) × (row_near row (kernel.turn n) ≤ 2 ^ r)
      × (1 ≤ column_near column (kernel.turn n)) × (column_near column (kernel.turn n) ≤ 2 ^ r)
  weight_on_map n h = go (on_or r (row_near row p)) (on_or r (column_near column p))
    where
      p : ℕ
      p = kernel.turn n

      go : ((1 ≤ row_near row p) × (row_near row p ≤ 2 ^ r)) ⊎ (on r (row_near row p) ≡ 0)
          → ((1 ≤ column_near column p) × (column_near column p ≤ 2 ^ r)) ⊎ (on r (column_near column p) ≡ 0)
          → (1 ≤ row_near row p) × (row_near row p ≤ 2 ^ r) × (1 ≤ column_near column p)
          × (column_near column p ≤ 2 ^ r)
      go (inl a) (inl b) = (a.0, a.1, b.0, b.1)
      go (inl a) (inr z) = absurd (h (weight_is n ∙ rw z (omega arith)))
      go (inr z) b = absurd (h (weight_is n ∙ rw z (omega arith)))

  -- what is taken from cell (x, y) when d is spread; and when a dot is placed at a cell with the residual w
  unfoldable pub spread : ℕ → ℕ → ℕ → ℕ
  spread d x y =
      sum_to 9 (λ n. δ (row_near row (kernel.turn n) - 1) x * δ (column_near column (kernel.turn n) - 1) y
      * share 9 (weight_at kernel r row column) d n)

  unfoldable pub fall : ℕ → ℕ → ℕ → ℕ
  fall w x y = δ row x * δ column y * w + spread (65280 - w) x y

  -- away from the cell and its neighbours nothing is taken
  pub fall_away : ((n : ℕ) → n < 9 → kernel.turn n < 9) → (w x y : ℕ) → is_near row column x y ≡ false → fall w x y ≡ 0
  unfolding fall spread
  fall_away turns w x y e = omega (arith, own, sum_to_zero 9 _ (λ n lt. none n (turns n lt)))
    where
      apart : (a b : ℕ) → row ≤ a + 1 → a ≤ row + 1 → column ≤ b + 1 → b ≤ column + 1 → δ a x * δ b y ≡ 0
      apart a b p q s t = go (hit a b x y)
        where
          go : ((a ≡ x) × (b ≡ y)) ⊎ (δ a x * δ b y ≡ 0) → δ a x * δ b y ≡ 0
          go (inl h) =
              absurd (T_not (is_near row column x y) (T_false (is_near row column x y) e)
              (is_near_lem row column x y (omega arith) (omega arith) (omega arith) (omega arith)))
          go (inr z) = z

      own : δ row x * δ column y * w ≡ 0
      own = rw (apart row column (omega arith) (omega arith) (omega arith) (omega arith)) (omega arith)

      none : (n : ℕ) → kernel.turn n < 9
          → δ (row_near row (kernel.turn n) - 1) x * δ (column_near column (kernel.turn n) - 1) y
          * share 9 (weight_at kernel r row column) (65280 - w) n ≡ 0
      none n lt =
          rw (apart (row_near row (kernel.turn n) - 1) (column_near column (kernel.turn n) - 1) (omega arith)
          (omega arith) (omega arith) (omega arith)) (omega arith)
