-- A block's quarters: it sums what they sum (`block_quarters`), and what holds of the whole map and passes from a block
-- to its quarters, holds of every block (`every_block`).
use Rattle.std.specs.Prelude.{◌≡◌, ℕ, zero, suc, ◌+◌, ◌*◌, ◌-◌, ◌/◌, ◌%◌, ◌^◌, ◌≤◌, ◌<◌, ℤ, ◌+ℤ◌}
use Rattle.std.proofs.Common.{◌∙◌, arith}
use Rattle.std.proofs.Math.Nat.{pow-succ'}
use Rattle.std.proofs.Math.Decide.{ℕ_discrete}
use Rattle.definition.specs.Blocks.{block_side, block_sum, block_sum_z}
use Rattle.quadtree.specs.Areas.{area_quarters, block_area}
use Rattle.quadtree.specs.Residues.{area_z_one, area_z_quarters, block_z_area}
use Rattle.quadtree.specs.Levels.{block_side_lem}

-- one sort of thing for each of the four quarters of block (a, b)
abbrev pub Quarters : (ℕ → ℕ → Type 0) → ℕ → ℕ → Type 0
Quarters P a b = P (2 * a) (2 * b) × P (2 * a) (2 * b + 1) × P (2 * a + 1) (2 * b) × P (2 * a + 1) (2 * b + 1)

-- they are blocks of the next level
pub quarters_of : (k : ℕ) (P : ℕ → ℕ → Type 0) → ((x y : ℕ) → x < 2 ^ suc k → y < 2 ^ suc k → P x y) → (a b : ℕ)
    → a < 2 ^ k → b < 2 ^ k → Quarters P a b
quarters_of k P h a b u v =
    let z = pow-succ' 2 k in
    let upper : 2 * a < 2 ^ suc k = omega arith in
    let lower : 2 * a + 1 < 2 ^ suc k = omega arith in
    let left : 2 * b < 2 ^ suc k = omega arith in
    let right : 2 * b + 1 < 2 ^ suc k = omega arith in
    (h _ _ upper left, h _ _ upper right, h _ _ lower left, h _ _ lower right)

-- a block's side is twice that of its quarters
pub side_halves : (r k : ℕ) → k < r → block_side r k ≡ 2 * block_side r (suc k)
side_halves r k h =
    block_side_lem r (suc (r - suc k)) k (omega arith) ∙ pow-succ' 2 (r - suc k)
    ∙ rw (block_side_lem r (r - suc k) (suc k) (omega arith)) (omega arith)

pub block_quarters : (r : ℕ) (f : ℕ → ℕ → ℕ) (k a b : ℕ) → k < r
    → block_sum r f k a b ≡ block_sum r f (suc k) (2 * a) (2 * b) + block_sum r f (suc k) (2 * a) (2 * b + 1)
    + block_sum r f (suc k) (2 * a + 1) (2 * b) + block_sum r f (suc k) (2 * a + 1) (2 * b + 1)
block_quarters r f k a b h =
    let s = block_side r (suc k) in
    let n : block_side r k ≡ s + s = side_halves r k h ∙ omega arith in
    let even : (x : ℕ) → x * (s + s) ≡ 2 * x * s = λ x. omega arith in
    let odd : (x : ℕ) → (2 * x + 1) * s ≡ 2 * x * s + s = λ x. omega arith in
    simp (block_area r f, n, even, odd) (area_quarters (2 * a * s) (2 * b * s) s f)

-- the same of integers, and a cell is a block by itself
pub block_z_quarters : (r : ℕ) (f : ℕ → ℕ → ℤ) (k a b : ℕ) → k < r
    → block_sum_z r f k a b
    ≡ block_sum_z r f (suc k) (2 * a) (2 * b) +ℤ block_sum_z r f (suc k) (2 * a) (2 * b + 1)
    +ℤ block_sum_z r f (suc k) (2 * a + 1) (2 * b) +ℤ block_sum_z r f (suc k) (2 * a + 1) (2 * b + 1)
block_z_quarters r f k a b h =
    let s = block_side r (suc k) in
    let n : block_side r k ≡ s + s = side_halves r k h ∙ omega arith in
    let even : (x : ℕ) → x * (s + s) ≡ 2 * x * s = λ x. omega arith in
    let odd : (x : ℕ) → (2 * x + 1) * s ≡ 2 * x * s + s = λ x. omega arith in
    simp (block_z_area r f, n, even, odd) (area_z_quarters (2 * a * s) (2 * b * s) s f)

pub block_z_cell : (r : ℕ) (f : ℕ → ℕ → ℤ) (a b : ℕ) → block_sum_z r f r a b ≡ f a b
block_z_cell r f a b =
    let s : block_side r r ≡ 1 = block_side_lem r 0 r (omega arith) in
    let one : (x : ℕ) → x * 1 ≡ x = λ x. omega arith in
    block_z_area r f r a b ∙ rw (s, one a, one b) (area_z_one a b f)

-- each number is twice its half, or one more
halved : (P : ℕ → Type 0) (a : ℕ) → P (2 * (a / 2)) → P (2 * (a / 2) + 1) → P a
halved P a p q = go (ℕ_discrete (a % 2) 0)
  where
    go : Dec (a % 2 ≡ 0) → P a
    go (yes e) = let z : 2 * (a / 2) ≡ a = omega arith in rw z at p
    go (no e) = let z : 2 * (a / 2) + 1 ≡ a = omega arith in rw z at q

pub every_block : (r : ℕ) (P : ℕ → ℕ → ℕ → Type 0) → P 0 0 0
    → ((k a b : ℕ) → k < r → a < 2 ^ k → b < 2 ^ k → P k a b → Quarters (P (suc k)) a b)
    → (k a b : ℕ) → k ≤ r → a < 2 ^ k → b < 2 ^ k → P k a b
every_block r P whole pass zero a b h u v =
    let i : 0 ≡ a = omega arith in let j : 0 ≡ b = omega arith in rw (← i, ← j) whole
every_block r P whole pass (suc k) a b h u v =
    let z = pow-succ' 2 k in
    let i : a / 2 < 2 ^ k = omega arith in
    let j : b / 2 < 2 ^ k = omega arith in
    let q = pass k (a / 2) (b / 2) (omega arith) i j (every_block r P whole pass k (a / 2) (b / 2) (omega arith) i j) in
    halved (λ x. P (suc k) x b) a
    (halved (λ y. P (suc k) (2 * (a / 2)) y) b q.0 q.1)
    (halved (λ y. P (suc k) (2 * (a / 2) + 1) y) b q.2 q.3)
