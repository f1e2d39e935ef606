-- The squares of the sums of a function over the blocks of a level, summed up over those blocks that lie within one
-- block: by quarters (`within_quarters_lem`), and over the whole map (`within_whole`).
use Rattle.std.specs.Prelude.{◌≡◌, refl, ◌⊎◌, Bool, true, false, not, cond, T, leb, eqb, ℤ}
use Rattle.std.proofs.Common.{inl, inr, zero-add}
use Prim.Native.Nat.{ℕ, suc, ◌+◌, ◌*◌, ◌-◌, ◌^◌, ◌≤◌, ◌<◌}
use native.Mathlib.Omega.{arith}
use Rattle.std.proofs.Math.Nat.{pow-succ'}
use Rattle.std.proofs.Math.Decide.{ℕ_discrete}
use borrow.Author.Tests.{le-leb, lt-leb, eq-eqb, ne_eqb}
use Rattle.definition.specs.Lists.{sum_to}
use Rattle.definition.specs.Blocks.{block_sum_z}
use Rattle.definition.specs.Survey.{squared}
use Rattle.integers.specs.Tests.{tests, T_or_not}
use Rattle.quadtree.specs.Areas.{span, area, area_one, area_quarters}

four_cond : (t : Bool) (p q s u : ℕ) {x : ℕ} → x ≡ p + q + s + u
    → cond t x 0 ≡ cond t p 0 + cond t q 0 + cond t s 0 + cond t u 0
four_cond true p q s u e = e
four_cond false p q s u e = refl

module _ (r : ℕ) (f : ℕ → ℕ → ℤ) where
  -- the square of the sum of f over block (a, b) of level i
  abbrev pub square_of : ℕ → ℕ → ℕ → ℕ
  square_of i a b = squared (block_sum_z r f i a b)

  -- the sum of these over the blocks of level i that lie within block (a, b) of level k; 0 where level i is coarser
  -- than level k, or finer than the cells
  unfoldable pub within : ℕ → ℕ → ℕ → ℕ → ℕ
  within k a b i =
      let n = 2 ^ (i - k) in
      cond (leb k i) (cond (leb i r) (area (a * n) (b * n) n (square_of i)) 0) 0

  -- the same over the quarters of block (a, b)
  abbrev pub within_quarters : ℕ → ℕ → ℕ → ℕ → ℕ
  within_quarters k a b i =
      within (k + 1) (2 * a) (2 * b) i
      + within (k + 1) (2 * a) (2 * b + 1) i
      + within (k + 1) (2 * a + 1) (2 * b) i
      + within (k + 1) (2 * a + 1) (2 * b + 1) i

  pub within_coarser : (k a b i : ℕ) → i < k → within k a b i ≡ 0
  unfolding within
  within_coarser k a b i h = rw (lt-leb _ _ h)

  within_past : (k a b i : ℕ) → k ≤ i → r < i → within k a b i ≡ 0
  unfolding within
  within_past k a b i l h = rw (le-leb _ _ l, lt-leb _ _ h)

  within_own : (k a b : ℕ) → k ≤ r → within k a b k ≡ square_of k a b
  unfolding within
  within_own k a b l =
      let e : k - k ≡ 0 = omega arith in
      let self : k ≤ k = omega arith in
      let one : (x : ℕ) → x * 2 ^ 0 ≡ x = λ x. omega arith in
      rw (le-leb _ _ self, le-leb _ _ l, e, one a, one b) (area_one a b (square_of k))

  within_finer : (k a b i : ℕ) → k < i → within k a b i ≡ within_quarters k a b i
  unfolding within
  within_finer k a b i h =
      let n = 2 ^ (i - (k + 1)) in
      let e : i - k ≡ suc (i - (k + 1)) = omega arith in
      let two : 2 ^ (i - k) ≡ n + n = rw (e, pow-succ' 2 (i - (k + 1))) (omega arith) in
      let here : k ≤ i = omega arith in
      let below : k + 1 ≤ i = omega arith in
      let even : (x : ℕ) → 2 * x * n ≡ x * (n + n) = λ x. omega arith in
      let odd : (x : ℕ) → (2 * x + 1) * n ≡ x * (n + n) + n = λ x. omega arith in
      simp (le-leb _ _ here, le-leb _ _ below, two, even, odd)
      (four_cond (leb i r) _ _ _ _ (area_quarters (a * (n + n)) (b * (n + n)) n (square_of i)))

  quarters_coarser : (k a b i : ℕ) → i < k + 1 → within_quarters k a b i ≡ 0
  quarters_coarser k a b i h =
      omega (
        arith,
        within_coarser (k + 1) (2 * a) (2 * b) i h,
        within_coarser (k + 1) (2 * a) (2 * b + 1) i h,
        within_coarser (k + 1) (2 * a + 1) (2 * b) i h,
        within_coarser (k + 1) (2 * a + 1) (2 * b + 1) i h,
      )

  -- a block adds its own square to its level, and the rest is what its quarters add
  pub within_quarters_lem : (k a b i : ℕ) → k ≤ r
      → within k a b i ≡ within_quarters k a b i + cond (eqb i k) (square_of k a b) 0
  within_quarters_lem k a b i h = go (ℕ_discrete i k) (T_or_not (leb k i))
    where
      go : Dec (i ≡ k) → T (leb k i) ⊎ T (not (leb k i))
          → within k a b i ≡ within_quarters k a b i + cond (eqb i k) (square_of k a b) 0
      go (yes e) t =
          rw (e, eq-eqb k k refl) (omega (arith, within_own k a b h, quarters_coarser k a b k (omega arith)))
      go (no e) (inl t) = rw (ne_eqb i k e) (omega (arith, within_finer k a b i (omega tests)))
      go (no e) (inr t) =
          rw (ne_eqb i k e)
          (omega (arith, within_coarser k a b i (omega tests), quarters_coarser k a b i (omega tests)))

  -- a cell adds its own square
  pub within_cell : (a b i : ℕ) → within r a b i ≡ cond (eqb i r) (square_of r a b) 0
  within_cell a b i = go (ℕ_discrete i r) (T_or_not (leb r i))
    where
      go : Dec (i ≡ r) → T (leb r i) ⊎ T (not (leb r i)) → within r a b i ≡ cond (eqb i r) (square_of r a b) 0
      go (yes e) t = rw (e, eq-eqb r r refl) (within_own r a b (omega arith))
      go (no e) (inl t) = rw (ne_eqb i r e) (within_past r a b i (omega tests) (omega tests))
      go (no e) (inr t) = rw (ne_eqb i r e) (within_coarser r a b i (omega tests))

  -- all blocks of level i
  pub within_whole : (i : ℕ)
      → within 0 0 0 i ≡ cond (leb i r) (sum_to (2 ^ i) (λ a. sum_to (2 ^ i) (λ b. square_of i a b))) 0
  unfolding within area span
  within_whole i =
      let first : 0 ≤ i = omega arith in
      let all : i - 0 ≡ i = omega arith in
      let none : 0 * 2 ^ i ≡ 0 = omega arith in
      rw (le-leb 0 i first, all, none) (simp zero-add)
