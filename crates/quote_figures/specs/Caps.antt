-- The caps of a level: the square with number i stands in row i / 2^k at column i % 2^k (`cap_at`, `cap_is`);
-- the list that has them all (`all_capped`).
use Rattle.std.specs.Prelude.{◌≡◌, List, ◌++◌, ℕ, ◌*◌, ◌-◌, ◌/◌, ◌%◌, ◌^◌, ◌≤◌, ◌<◌, length, drop}
use Rattle.std.proofs.Common.{refl, take, length-take, arith, mul-le-mul, pow_mono}
use Rattle.definition.specs.Pyramid.{cell_count}
use Rattle.definition.specs.Blocks.{block_side, grey_sum}
use Rattle.definition.specs.QuotePage.{quote_cap}
use Rattle.definition.specs.SketchQuote.{caps_of}
use Rattle.integers.specs.Fill.{filled, filled_all}
use Rattle.quadtree.specs.Levels.{block_side_lem}

-- ---- one square; `count`, `s`, `grey` and `cap` are what the code has worked out
pub small_side : {r : ℕ} → r ≤ 8 → (k : ℕ) {s : ℕ} → s ≡ 2 ^ (r - k) → s ≤ 256
small_side {r} h k e = omega (arith, e, pow_mono {i = r - k} {j = 8} (omega arith))

-- a cap is at most the number of the square's cells
pub cap_fits : {s : ℕ} → s ≤ 256 → (grey : ℕ) {cap : ℕ} → cap ≡ quote_cap s grey → cap < 2 ^ 32
unfolding quote_cap
cap_fits small grey e = omega (arith, e, mul-le-mul small small)

-- the cap of the square with number i
abbrev pub cap_at : ℕ → List ℕ → ℕ → ℕ → ℕ
cap_at r greys k i = quote_cap (block_side r k) (grey_sum r greys k (i / 2 ^ k) (i % 2 ^ k))

pub cap_is : {r k : ℕ} → k ≤ r → (greys : List ℕ) (i : ℕ) {count s grey cap : ℕ} → count ≡ 2 ^ k → s ≡ 2 ^ (r - k)
    → grey ≡ grey_sum r greys k (i / count) (i % count) → cap ≡ quote_cap s grey → cap ≡ cap_at r greys k i
cap_is {r} {k} level greys i en es eg ec =
    rw (block_side_lem r (r - k) k (omega (arith, level)), ← es, ← en, ← eg) ec

-- ---- all squares: the loop's end, where the first i have their caps; `count` is what the code has worked out for
-- their number
pub all_capped : (r k : ℕ) (greys before : List ℕ) {count i : ℕ} {level : List ℕ} → count ≡ cell_count k
    → 2 ^ k * 2 ^ k ≤ length before → i ≤ length (take count before) → length (take count before) ≤ i
    → level ≡ filled (cap_at r greys k) i (take count before)
    → level ++ drop count before ≡ caps_of r greys k ++ drop (2 ^ k * 2 ^ k) before
unfolding caps_of
all_capped r k greys before {count} {i} en room le ge e =
    let at : i ≡ 2 ^ k * 2 ^ k = omega (arith, en, length-take count before) in
    rw (e, filled_all (cap_at r greys k) i (take count before) ge, at, en) refl
