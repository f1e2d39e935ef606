-- Greys of at most 240: a list has none above it just if each of its places has none (`low_at`, `at_low`), and lowered
-- greys are such a list (`lowered_low`), as long as before, and the same where nothing was too high (`lowered_same`).
use Rattle.std.specs.Prelude.{◌≡◌, refl, Bool, true, false, ◌&&◌, List, [], ◌∷◌, ℕ, zero, suc, ◌≤◌, ◌<◌, min, leb}
use Rattle.std.specs.Prelude.{length, get_or}
use Rattle.std.proofs.Common.{sym, ap₂, true≢false, arith, leb-true, le-leb}
use Rattle.std.proofs.lemmas.List.{length-map}
use Rattle.definition.specs.Lowering.{none_high, lowered}

first_low : (grey : ℕ) (greys : List ℕ) → none_high (grey ∷ greys) ≡ true → (grey ≤ 240) × (none_high greys ≡ true)
unfolding none_high
first_low grey greys e = go (leb grey 240) refl e
  where
    go : (b : Bool) → leb grey 240 ≡ b → (b && none_high greys) ≡ true → (grey ≤ 240) × (none_high greys ≡ true)
    go true f e = (leb-true grey 240 f, e)
    go false f e = absurd (true≢false (sym e))

-- a list of low greys has no grey above 240 (S 2.2)
pub low_at : (greys : List ℕ) → none_high greys ≡ true → (i : ℕ) → i < length greys → get_or greys i 0 ≤ 240
low_at [] e i h = absurd (omega arith)
low_at (grey ∷ greys) e zero h = (first_low grey greys e).0
low_at (grey ∷ greys) e (suc i) h = low_at greys (first_low grey greys e).1 i (omega arith)

pub at_low : (greys : List ℕ) → ((i : ℕ) → i < length greys → get_or greys i 0 ≤ 240) → none_high greys ≡ true
unfolding none_high
at_low [] h = refl
at_low (grey ∷ greys) h = rw (le-leb grey 240 (h 0 (omega arith))) (at_low greys (λ i k. h (suc i) (omega arith)))

-- ---- lowered greys
pub lowered_length : (greys : List ℕ) → length (lowered greys) ≡ length greys
unfolding lowered
lowered_length greys = length-map greys (λ grey. min grey 240)

-- they are low (S 12.4)
pub lowered_low : (greys : List ℕ) → none_high (lowered greys) ≡ true
unfolding lowered none_high
lowered_low [] = refl
lowered_low (grey ∷ greys) = rw (le-leb (min grey 240) 240 (omega arith)) (lowered_low greys)

-- and low ones stay as they are (S 12.4)
pub lowered_same : (greys : List ℕ) → none_high greys ≡ true → lowered greys ≡ greys
unfolding lowered
lowered_same [] e = refl
lowered_same (grey ∷ greys) e =
    let low = first_low grey greys e in
    let same : min grey 240 ≡ grey = omega (arith, low.0) in
    ap₂ ◌∷◌ same (lowered_same greys low.1)

-- lowered again, they stay
pub lowered_twice : (greys : List ℕ) → lowered (lowered greys) ≡ lowered greys
lowered_twice greys = lowered_same (lowered greys) (lowered_low greys)
