-- The walk from the top always takes a largest of the four below (`largest_quarter`). So if the top's sum is above 0,
-- then so is that of every block that holds the cell it comes to (`descend_reached`). Of the choice among equals only
-- that a largest is taken is used (`Fair`, `choice_fair`).
use Rattle.std.specs.Prelude.{◌≡◌, Bool, cond, List, eqb, ℤ, pos, ◌≤ℤ◌, ◌<ℤ◌}
use Rattle.std.proofs.Math.Path.{refl}
use Rattle.std.proofs.Math.Bool.{true, false}
use Prim.Native.Nat.{ℕ, zero, suc, ◌+◌, ◌*◌, ◌%◌, ◌^◌, ◌≤◌, ◌<◌}
use Rattle.std.proofs.Common.{arith, lt_of_mul-lt-mul_right}
use Rattle.std.proofs.Math.Nat.{pow-succ'}
use Rattle.std.proofs.Math.Decide.{ℕ_discrete}
use Rattle.definition.specs.Pyramid.{entry, four}
use Rattle.definition.specs.Descent.{
  Candidate,
  candidate,
  Choice,
  first_of_equals,
  last_of_equals,
  of_equals,
  choice_of,
  better,
  largest,
  descend,
}
use Rattle.integers.specs.Linear.{zz, ints}
use Rattle.quadtree.specs.Areas.{In}
use Rattle.quadtree.specs.Levels.{twice, twice_one}
use Rattle.quadtree.specs.Pyramids.{Summed}

-- ---- which blocks hold a cell
-- two blocks of one size that hold a row are one
pub in_same : (n a c x : ℕ) → In (a * n) n x → In (c * n) n x → a ≡ c
in_same n a c x h k =
    let p : a < c + 1 = lt_of_mul-lt-mul_right n (omega arith) in
    let q : c < a + 1 = lt_of_mul-lt-mul_right n (omega arith) in
    omega arith

-- what a quarter holds, its block holds
pub in_block : (j a b x : ℕ) → 2 * a ≤ b → b < 2 * a + 2 → In (b * 2 ^ j) (2 ^ j) x → In (a * 2 ^ suc j) (2 ^ suc j) x
in_block j a b x h k i = go (ℕ_discrete b (2 * a))
  where
    go : Dec (b ≡ 2 * a) → In (a * 2 ^ suc j) (2 ^ suc j) x
    go (yes e) = omega (arith, twice j a, pow-succ' 2 j, rw e at i)
    go (no e) = let z : b ≡ 2 * a + 1 = omega arith in omega (arith, twice_one j a, pow-succ' 2 j, rw z at i)

-- A choice that always keeps a largest one.
pub record Fair (takes : Choice) : Type 0 where
  pub taken : (best next : ℤ) → takes best next ≡ true → best ≤ℤ next
  pub kept : (best next : ℤ) → takes best next ≡ false → next ≤ℤ best

pub first_fair : Fair first_of_equals
unfolding first_of_equals
first_fair = record { taken = λ best next e. omega ints; kept = λ best next e. omega ints }

pub last_fair : Fair last_of_equals
unfolding last_of_equals
last_fair = record { taken = λ best next e. omega ints; kept = λ best next e. omega ints }

pub equals_fair : (last : Bool) → Fair (of_equals last)
unfolding of_equals
equals_fair true = last_fair
equals_fair false = first_fair

-- the turns among equals take a largest as well (S 3.3)
pub choice_fair : (serial : ℕ) → Fair (choice_of serial)
unfolding choice_of
choice_fair serial = equals_fair (eqb (serial % 2) 0)

module _ (takes : Choice) (fair : Fair takes) where
  -- the better of two is one of them, and at least as large as both
  better_or : (P : Candidate → Type 0) (best next : Candidate) → P best → P next → P (better takes best next)
  unfolding better
  better_or P best next p q = go (takes best.sum next.sum)
    where
      go : (b : Bool) → P (cond b next best)
      go true = q
      go false = p

  better_le : (best next : Candidate)
      → (best.sum ≤ℤ (better takes best next).sum) × (next.sum ≤ℤ (better takes best next).sum)
  unfolding better
  better_le best next = go (takes best.sum next.sum) refl
    where
      go : (b : Bool) → takes best.sum next.sum ≡ b
          → (best.sum ≤ℤ (cond b next best).sum) × (next.sum ≤ℤ (cond b next best).sum)
      go true e = (fair.taken best.sum next.sum e, omega ints)
      go false e = (omega ints, fair.kept best.sum next.sum e)

  -- one of the four below (a, b)
  pub record Quarter (below : ℕ → ℕ → ℤ) (a b : ℕ) (c : Candidate) : Type 0 where
    pub sum_is : c.sum ≡ below c.row c.column
    pub row_low : 2 * a ≤ c.row
    pub row_high : c.row < 2 * a + 2
    pub column_low : 2 * b ≤ c.column
    pub column_high : c.column < 2 * b + 2

  quarter : (below : ℕ → ℕ → ℤ) (a b x y : ℕ) → 2 * a ≤ x → x < 2 * a + 2 → 2 * b ≤ y → y < 2 * b + 2
      → Quarter below a b (candidate below x y)
  unfolding candidate
  quarter below a b x y h i j k = record { sum_is = refl; row_low = h; row_high = i; column_low = j; column_high = k }

  -- the one that is taken has the largest sum of the four (S 3.2)
  pub largest_quarter : (below : ℕ → ℕ → ℤ) (a b : ℕ) → Quarter below a b (largest takes below a b)
  unfolding largest
  largest_quarter below a b =
      better_or (Quarter below a b) _ _
      (better_or (Quarter below a b) _ _
      (better_or (Quarter below a b) _ _
      (quarter below a b (2 * a) (2 * b) (omega arith) (omega arith) (omega arith) (omega arith))
      (quarter below a b (2 * a) (2 * b + 1) (omega arith) (omega arith) (omega arith) (omega arith)))
      (quarter below a b (2 * a + 1) (2 * b) (omega arith) (omega arith) (omega arith) (omega arith)))
      (quarter below a b (2 * a + 1) (2 * b + 1) (omega arith) (omega arith) (omega arith) (omega arith))

  -- the largest of four whose sum is above 0 is above 0
  pub largest_due : (below : ℕ → ℕ → ℤ) (a b : ℕ) → pos 0 <ℤ four below a b → pos 0 <ℤ (largest takes below a b).sum
  unfolding largest four candidate
  largest_due below a b h =
      let c₀ = candidate below (2 * a) (2 * b) in
      let c₁ = candidate below (2 * a) (2 * b + 1) in
      let c₂ = candidate below (2 * a + 1) (2 * b) in
      let c₃ = candidate below (2 * a + 1) (2 * b + 1) in
      let d₁ = better_le c₀ c₁ in
      let d₂ = better_le (better takes c₀ c₁) c₂ in
      let d₃ = better_le (better takes (better takes c₀ c₁) c₂) c₃ in
      omega (ints, simp zz at h, d₁.0, d₁.1, d₂.0, d₂.1, d₃.0, d₃.1)

  -- Where the walk from entry (a, b) of level k comes to: a cell (x, y) of its block, and every block from level k down
  -- that holds the cell has a sum above 0.
  pub record Reached (pyramid : List ℤ) (r left k a b x y : ℕ) : Type 0 where
    pub row : In (a * 2 ^ left) (2 ^ left) x
    pub column : In (b * 2 ^ left) (2 ^ left) y
    pub due : (j i c d : ℕ) → j + i ≡ r → k ≤ i → In (c * 2 ^ j) (2 ^ j) x → In (d * 2 ^ j) (2 ^ j) y
        → pos 0 <ℤ entry pyramid i c d

  module _ (pyramid : List ℤ) (r : ℕ) (summed : Summed r pyramid) where
    -- the block itself, and those below it
    own : (left k a b x y : ℕ) → left + k ≡ r → In (a * 2 ^ left) (2 ^ left) x → In (b * 2 ^ left) (2 ^ left) y
        → pos 0 <ℤ entry pyramid k a b
        → ((j i c d : ℕ) → j + i ≡ r → suc k ≤ i → In (c * 2 ^ j) (2 ^ j) x → In (d * 2 ^ j) (2 ^ j) y
        → pos 0 <ℤ entry pyramid i c d)
        → (j i c d : ℕ) → j + i ≡ r → k ≤ i → In (c * 2 ^ j) (2 ^ j) x → In (d * 2 ^ j) (2 ^ j) y
        → pos 0 <ℤ entry pyramid i c d
    own left k a b x y e p q h below j i c d f l u v = go (ℕ_discrete i k)
      where
        go : Dec (i ≡ k) → pos 0 <ℤ entry pyramid i c d
        go (yes z) =
            let w : j ≡ left = omega arith in
            rw (z, in_same (2 ^ left) c a x (rw w at u) p, in_same (2 ^ left) d b y (rw w at v) q) h
        go (no z) = below j i c d f (omega arith) u v

    pub descend_reached : (left k a b : ℕ) → left + k ≡ r → a < 2 ^ k → b < 2 ^ k → pos 0 <ℤ entry pyramid k a b
        → Reached pyramid r left k a b (descend takes pyramid left k a b).0 (descend takes pyramid left k a b).1
    unfolding descend
    descend_reached zero k a b e p q h =
        record {
          row = omega arith;
          column = omega arith;
          due = own 0 k a b a b e (omega arith) (omega arith) h (λ j i c d f l u v. absurd (omega arith));
        }
    descend_reached (suc left) k a b e p q h =
        let next = largest takes (entry pyramid (suc k)) a b in
        let is = largest_quarter (entry pyramid (suc k)) a b in
        let due = largest_due (entry pyramid (suc k)) a b (rw (summed.sums k a b (omega arith) p q) at h) in
        let ih = descend_reached left (suc k) next.row next.column (omega arith)
        (rw (pow-succ' 2 k) (omega (arith, is.row_high))) (rw (pow-succ' 2 k) (omega (arith, is.column_high)))
        (rw is.sum_is at due) in
        let row = in_block left a next.row _ is.row_low is.row_high ih.row in
        let column = in_block left b next.column _ is.column_low is.column_high ih.column in
        record { row = row; column = column; due = own (suc left) k a b _ _ e row column h ih.due }
