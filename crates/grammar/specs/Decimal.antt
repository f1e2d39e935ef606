-- The decimal digits of a number: one for a number below 10 (`decimal_below_ten`), else those of a tenth of it and one
-- more (`decimal_from_ten`); and induction by digits (`by_digits`).
use Rattle.std.specs.Prelude.{◌≡◌, [], ◌∷◌, ◌++◌, ℕ, zero, suc, ◌+◌, ◌*◌, ◌/◌, ◌%◌, ◌<◌, ◌≤◌}
use Rattle.std.proofs.Common.{◌∙◌, arith, lt-ltb, le-ltb}
use Rattle.std.proofs.Math.Decide.{dec_lt}
use Rattle.definition.specs.Text.{digits_up_to, decimal}

digits_up_to_below_ten : (most n : ℕ) → n < 10 → digits_up_to (suc most) n ≡ (48 + n) ∷ []
unfolding digits_up_to
digits_up_to_below_ten most n h = rw (lt-ltb n 10 h, digits_up_to)

digits_up_to_from_ten : (most n : ℕ) → 10 ≤ n → digits_up_to (suc most) n ≡ digits_up_to most (n / 10) ++ (48 + n % 10)
    ∷ []
unfolding digits_up_to
digits_up_to_from_ten most n h = rw (le-ltb n 10 h, digits_up_to)

-- all bounds above n give the same digits
digits_up_to_enough : (a b n : ℕ) → n < a → n < b → digits_up_to a n ≡ digits_up_to b n
digits_up_to_enough zero b n p q = absurd (omega arith)
digits_up_to_enough (suc a) zero n p q = absurd (omega arith)
digits_up_to_enough (suc a) (suc b) n p q =
    elim (dec_lt n 10) [
      | yes h ↦ rw (digits_up_to_below_ten a n h, digits_up_to_below_ten b n h)
      | no h ↦
          rw (
            digits_up_to_from_ten a n (omega arith),
            digits_up_to_from_ten b n (omega arith),
            digits_up_to_enough a b
                (n / 10) (omega arith) (omega arith),
          )
    ]

pub decimal_below_ten : (n : ℕ) → n < 10 → decimal n ≡ (48 + n) ∷ []
unfolding decimal
decimal_below_ten n h = digits_up_to_below_ten n n h

-- no leading zero: digits are added behind those of a tenth (S 6.1)
pub decimal_from_ten : (n : ℕ) → 10 ≤ n → decimal n ≡ decimal (n / 10) ++ (48 + n % 10) ∷ []
unfolding decimal
decimal_from_ten n h =
    rw (digits_up_to_from_ten n n h, digits_up_to_enough n (suc (n / 10)) (n / 10) (omega arith) (omega arith))

pub decimal_snoc : (v d : ℕ) → 0 < v → d < 10 → decimal (10 * v + d) ≡ decimal v ++ (48 + d) ∷ []
decimal_snoc v d p h =
    let q : (10 * v + d) / 10 ≡ v = omega arith in
    let r : (10 * v + d) % 10 ≡ d = omega arith in
    decimal_from_ten (10 * v + d) (omega arith) ∙ rw (q, r)

-- what holds of the numbers below 10, and of 10 v + d if it holds of v, holds of every number
pub by_digits : (P : ℕ → Type 0) → ((n : ℕ) → n < 10 → P n) → ((v d : ℕ) → 0 < v → d < 10 → P v → P (10 * v + d))
    → (n : ℕ) → P n
by_digits P one more n = go (suc n) n (omega arith)
  where
    go : (bound n : ℕ) → n < bound → P n
    go zero n p = absurd (omega arith)
    go (suc bound) n p =
        elim (dec_lt n 10) [
          | yes h ↦ one n h
          | no h ↦
              let e : 10 * (n / 10) + n % 10 ≡ n = omega arith in
              rw e at (more (n / 10) (n % 10) (omega arith) (omega arith) (go bound (n / 10) (omega arith)))
        ]
