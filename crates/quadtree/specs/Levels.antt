-- Where the levels of a pyramid begin (`start_suc`, `start_thrice`), and the places of the entries within a level: each
-- entry has one place (`place_lt`, `place_same`), and each place one entry (`place_row_column`).
use Rattle.std.specs.Prelude.{◌≡◌, refl, ℕ, zero, suc, ◌+◌, ◌*◌, ◌-◌, ◌/◌, ◌^◌, ◌≤◌, ◌<◌}
use Rattle.std.proofs.Common.{ap, ◌∙◌, arith, mul-div_cancel, mul-le-mul, mul-le-mul_right, div-add-mod'}
use Rattle.std.proofs.Common.{div-lt_iff_lt-mul, mod-lt, lt_of_mul-lt-mul_right, pow_pos, pow_mono, pow-add}
use Rattle.std.proofs.Math.Nat.{pow-succ'}
use Rattle.std.proofs.Math.Pow.{high, low}
use Rattle.definition.specs.Pyramid.{start, place_in, row_at, column_at}
use Rattle.definition.specs.Blocks.{block_side}

-- ---- sizes
four_power : (k : ℕ) → 4 ^ k ≡ 2 ^ k * 2 ^ k
four_power zero = refl
four_power (suc k) = rw (pow-succ' 2 k) (omega (arith, four_power k))

pub quadruple : (k : ℕ) → 2 ^ suc k * 2 ^ suc k ≡ 4 * (2 ^ k * 2 ^ k)
quadruple k = rw (pow-succ' 2 k) (omega arith)

start_four : (k : ℕ) → 3 * start k + 1 ≡ 4 ^ k
unfolding start
start_four zero = refl
start_four (suc k) =
    let q = (4 ^ k - 1) / 3 in
    let y : 4 ^ suc k - 1 ≡ (4 * q + 1) * 3 = omega (arith, start_four k) in
    let z : (4 ^ suc k - 1) / 3 ≡ 4 * q + 1 = ap (λ (n : ℕ). n / 3) y ∙ mul-div_cancel (4 * q + 1) (omega arith) in
    omega (arith, start_four k)

-- where a level begins, without a division; where the next one does; and the order of the levels
pub start_thrice : (k : ℕ) → 3 * start k + 1 ≡ 2 ^ k * 2 ^ k
start_thrice k = start_four k ∙ four_power k

pub start_suc : (k : ℕ) → start (suc k) ≡ start k + 2 ^ k * 2 ^ k
start_suc k = omega (arith, start_thrice k, start_thrice (suc k), quadruple k)

pub start_mono : (k r : ℕ) → k ≤ r → start k ≤ start r
start_mono k r h =
    omega (arith, start_thrice k, start_thrice r, mul-le-mul (pow_mono {i = k} {j = r} h) (pow_mono {i = k} {j = r} h))

-- ---- rows and columns of n
-- the cell in row x and column y has a number below n² (S 2.3) ..
pub cell_lt : (n x y : ℕ) → x < n → y < n → x * n + y < n * n
cell_lt n x y h k = omega (arith, mul-le-mul_right n h)

-- .. and no other cell has it
pub cell_same : (n x y a b : ℕ) → y < n → b < n → x * n + y ≡ a * n + b → (x ≡ a) × (y ≡ b)
cell_same n x y a b h k e =
    let p : x < a + 1 = lt_of_mul-lt-mul_right n (omega arith) in
    let q : a < x + 1 = lt_of_mul-lt-mul_right n (omega arith) in
    let z : x ≡ a = omega arith in
    (z, omega (arith, ap (λ (m : ℕ). m * n) z))

-- ---- the places within level k
-- row after row (S 2.6)
pub place_lt : (k a b : ℕ) → a < 2 ^ k → b < 2 ^ k → place_in k a b < 2 ^ k * 2 ^ k
unfolding place_in
place_lt k a b h l = cell_lt (2 ^ k) a b h l

pub place_same : (k a b c d : ℕ) → b < 2 ^ k → d < 2 ^ k → place_in k a b ≡ place_in k c d → (a ≡ c) × (b ≡ d)
unfolding place_in
place_same k a b c d h l e = cell_same (2 ^ k) a b c d h l e

pub row_place_lem : (k a b : ℕ) → b < 2 ^ k → row_at k (place_in k a b) ≡ a
unfolding row_at place_in
row_place_lem k a b h = high a k h

pub column_place_lem : (k a b : ℕ) → b < 2 ^ k → column_at k (place_in k a b) ≡ b
unfolding column_at place_in
column_place_lem k a b h = low a k h

pub place_row_column : (k i : ℕ) → place_in k (row_at k i) (column_at k i) ≡ i
unfolding place_in row_at column_at
place_row_column k i = div-add-mod' i (2 ^ k)

pub row_lt : (k i : ℕ) → i < 2 ^ k * 2 ^ k → row_at k i < 2 ^ k
unfolding row_at
row_lt k i h = (div-lt_iff_lt-mul (pow_pos k)).1 h

pub column_lt : (k i : ℕ) → column_at k i < 2 ^ k
unfolding column_at
column_lt k i = mod-lt i (pow_pos k)

-- ---- blocks
-- the side of a block of level k, j levels above the cells (S 2.10)
pub block_side_lem : (r j k : ℕ) → j + k ≡ r → block_side r k ≡ 2 ^ j
block_side_lem r j k h = rw (← h, pow-add 2 j k) (mul-div_cancel (2 ^ j) (pow_pos k))

-- it lies on the map
pub block_on_map : (r j k a : ℕ) → j + k ≡ r → a < 2 ^ k → a * 2 ^ j + 2 ^ j ≤ 2 ^ r
block_on_map r j k a h l = rw (← h, pow-add 2 j k) (omega (arith, mul-le-mul_right (2 ^ j) l))

-- its halves
pub twice : (j a : ℕ) → 2 * a * 2 ^ j ≡ a * 2 ^ suc j
twice j a = rw (pow-succ' 2 j) (omega arith)

pub twice_one : (j a : ℕ) → (2 * a + 1) * 2 ^ j ≡ a * 2 ^ suc j + 2 ^ j
twice_one j a = rw (pow-succ' 2 j) (omega arith)

-- no map has more than 65,536 cells
pub cells_few : (r : ℕ) → r ≤ 8 → 2 ^ r * 2 ^ r ≤ 65536
cells_few r h = let le : 2 ^ r ≤ 256 = pow_mono {i = r} {j = 8} h in mul-le-mul le le
