-- Laws of interleaved places: each entry has one place (`row_interleaved`, `column_interleaved`), and each place one
-- entry (`interleaved_of`); the four below (`quarter`); larger levels from the table (`interleaved_larger`).
use Rattle.std.specs.Prelude.{◌≡◌, refl, ℕ, zero, suc, ◌+◌, ◌*◌, ◌-◌, ◌/◌, ◌%◌, ◌^◌, ◌≤◌, ◌<◌}
use Rattle.std.proofs.Common.{sym, ap, ◌∙◌, arith, zero-add, suc-add, div-one, mod-eq_of_lt, pow_pos}
use Rattle.std.proofs.Math.Nat.{pow-succ', div-div-eq-div-mul, div-eq_of_lt}
use Rattle.std.proofs.Math.Arith.{mod-mul}
use Rattle.definition.specs.Quarters.{interleaved, row_of, column_of}

-- ---- one bit more
-- the four below (a, b) (S 2.5)
pub quarter : (k a b i j : ℕ) → i < 2 → j < 2
    → interleaved (suc k) (2 * a + i) (2 * b + j) ≡ 4 * interleaved k a b + (2 * i + j)
unfolding interleaved
quarter k a b i j p q =
    let u : (2 * a + i) / 2 ≡ a = omega arith in
    let v : (2 * b + j) / 2 ≡ b = omega arith in
    let x : (2 * a + i) % 2 ≡ i = omega arith in
    let y : (2 * b + j) % 2 ≡ j = omega arith in
    rw (u, v, x, y)

-- ---- every place is used exactly one time
pub interleaved_lt : (k a b : ℕ) → interleaved k a b < 2 ^ k * 2 ^ k
unfolding interleaved
interleaved_lt zero a b = omega arith
interleaved_lt (suc k) a b = rw (pow-succ' 2 k) (omega (arith, interleaved_lt k (a / 2) (b / 2)))

pub row_interleaved : (k a b : ℕ) → a < 2 ^ k → row_of k (interleaved k a b) ≡ a
unfolding interleaved row_of
row_interleaved zero a b h = omega arith
row_interleaved (suc k) a b h =
    let place = 4 * interleaved k (a / 2) (b / 2) + (2 * (a % 2) + b % 2) in
    let z : place / 4 ≡ interleaved k (a / 2) (b / 2) = omega arith in
    let y : place / 2 % 2 ≡ a % 2 = omega arith in
    rw (z, y) (omega (arith, row_interleaved k (a / 2) (b / 2) (omega (arith, pow-succ' 2 k))))

pub column_interleaved : (k a b : ℕ) → b < 2 ^ k → column_of k (interleaved k a b) ≡ b
unfolding interleaved column_of
column_interleaved zero a b h = omega arith
column_interleaved (suc k) a b h =
    let place = 4 * interleaved k (a / 2) (b / 2) + (2 * (a % 2) + b % 2) in
    let z : place / 4 ≡ interleaved k (a / 2) (b / 2) = omega arith in
    let y : place % 2 ≡ b % 2 = omega arith in
    rw (z, y) (omega (arith, column_interleaved k (a / 2) (b / 2) (omega (arith, pow-succ' 2 k))))

-- each place has its entry (S 15.14)
pub interleaved_of : (k i : ℕ) → i < 2 ^ k * 2 ^ k → interleaved k (row_of k i) (column_of k i) ≡ i
unfolding interleaved row_of column_of
interleaved_of zero i h = omega arith
interleaved_of (suc k) i h =
    let a : (2 * row_of k (i / 4) + i / 2 % 2) / 2 ≡ row_of k (i / 4) = omega arith in
    let b : (2 * column_of k (i / 4) + i % 2) / 2 ≡ column_of k (i / 4) = omega arith in
    let c : (2 * row_of k (i / 4) + i / 2 % 2) % 2 ≡ i / 2 % 2 = omega arith in
    let d : (2 * column_of k (i / 4) + i % 2) % 2 ≡ i % 2 = omega arith in
    let quad : 2 ^ suc k * 2 ^ suc k ≡ 4 * (2 ^ k * 2 ^ k) = rw (pow-succ' 2 k) (omega arith) in
    let ih = interleaved_of k (i / 4) (omega (arith, quad)) in
    rw (a, b, c, d, ih) (omega arith)

pub row_of_lt : (k i : ℕ) → row_of k i < 2 ^ k
unfolding row_of
row_of_lt zero i = omega arith
row_of_lt (suc k) i = rw (pow-succ' 2 k) (omega (arith, row_of_lt k (i / 4)))

pub column_of_lt : (k i : ℕ) → column_of k i < 2 ^ k
unfolding column_of
column_of_lt zero i = omega arith
column_of_lt (suc k) i = rw (pow-succ' 2 k) (omega (arith, column_of_lt k (i / 4)))

-- ---- larger levels from smaller ones
half_mod : (j a : ℕ) → ((a % 2 ^ suc j) / 2 ≡ a / 2 % 2 ^ j) × ((a % 2 ^ suc j) % 2 ≡ a % 2)
half_mod j a =
    let e : a % 2 ^ suc j ≡ (a / 2 % 2 ^ j) * 2 + a % 2 =
    ap (λ (n : ℕ). a % n) (pow-succ' 2 j ∙ omega arith) ∙ mod-mul a (pow_pos j) (omega arith) in
    (omega (arith, e), omega (arith, e))

half_div : (j a : ℕ) → a / 2 / 2 ^ j ≡ a / 2 ^ suc j
half_div j a = div-div-eq-div-mul a 2 (2 ^ j) ∙ ap (λ (n : ℕ). a / n) (sym (pow-succ' 2 j))

pub interleaved_split : (j k a b : ℕ)
    → interleaved (j + k) a b
    ≡ 4 ^ j * interleaved k (a / 2 ^ j) (b / 2 ^ j) + interleaved j (a % 2 ^ j) (b % 2 ^ j)
unfolding interleaved
interleaved_split zero k a b = rw (zero-add k, div-one a, div-one b) (omega arith)
interleaved_split (suc j) k a b =
    let ih = interleaved_split j k (a / 2) (b / 2) in
    let p = half_mod j a in
    let q = half_mod j b in
    rw (suc-add j k, ih, p.0, p.1, q.0, q.1, half_div j a, half_div j b, pow-succ' 4 j) (omega arith)

-- the places of a level are those of a larger one
interleaved_none : (k : ℕ) → interleaved k 0 0 ≡ 0
unfolding interleaved
interleaved_none zero = refl
interleaved_none (suc k) = rw (interleaved_none k)

pub interleaved_more : (j k a b : ℕ) → a < 2 ^ j → b < 2 ^ j → interleaved (j + k) a b ≡ interleaved j a b
interleaved_more j k a b p q =
    interleaved_split j k a b
    ∙ rw (div-eq_of_lt p, div-eq_of_lt q, mod-eq_of_lt p, mod-eq_of_lt q, interleaved_none k) (omega arith)

-- any level's places are those of level 8
pub interleaved_any : (k a b : ℕ) → k ≤ 8 → a < 2 ^ k → b < 2 ^ k → interleaved 8 a b ≡ interleaved k a b
interleaved_any k a b h p q =
    let e : 8 ≡ k + (8 - k) = omega arith in
    ap (λ (n : ℕ). interleaved n a b) e ∙ interleaved_more k (8 - k) a b p q

-- How one table goes on to larger levels (S 2.5): five bits of a and b give the place within a square of 1,024 entries,
-- and the bits above them say which square it is.
pub interleaved_larger : (a b : ℕ) → a < 256 → b < 256
    → interleaved 8 a b ≡ 1024 * interleaved 5 (a / 32) (b / 32) + interleaved 5 (a % 32) (b % 32)
interleaved_larger a b p q =
    interleaved_split 5 3 a b
    ∙ ap (λ (n : ℕ). 1024 * n + interleaved 5 (a % 32) (b % 32))
    (sym (interleaved_more 3 2 (a / 32) (b / 32) (omega arith) (omega arith)))

-- as the code adds them up
pub place_is : {a b far near : ℕ}
    → far ≡ interleaved 5 (a / 32) (b / 32) → near ≡ interleaved 5 (a % 32) (b % 32)
    → (a < 256) × (b < 256) → 1024 * far + near ≡ interleaved 8 a b
place_is {a} {b} e f h = sym (interleaved_larger a b h.0 h.1 ∙ rw (← e, ← f))

pub small_lt : {x : ℕ} (a b : ℕ) → x ≡ interleaved 5 a b → x < 1024
small_lt {x} a b e = omega (arith, e, interleaved_lt 5 a b)
