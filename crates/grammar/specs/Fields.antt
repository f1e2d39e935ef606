-- A field is a number and the byte that ends it. The reader reads a number of at most `most` from its decimal digits
-- with the end behind them (`field_of_decimal_end`), and from no other text (`text_of_field`).
use Rattle.std.specs.Prelude.{◌≡◌, Bool, true, false, not, ◌&&◌, ◌↔◌, ℕ, ◌+◌, ◌-◌, ◌*◌, ◌<◌, ◌≤◌, leb, eqb}
use Rattle.std.proofs.Math.Path.{refl, sym}
use Rattle.std.proofs.Common.{◌∙◌, suc-ne-zero, le-leb, leb-true, eq-eqb, ne_eqb}
use Rattle.std.proofs.Math.Bool.{Bool-discrete, and-eq-true_iff}
use mathlib.Core.List.{List, [], ◌∷◌, ◌++◌}
use mathlib.Mathlib.Data.Bool.Basic.{eq-false_of_not-eq-true}
use Rattle.std.proofs.Math.Decide.{ℕ_discrete}
use native.Mathlib.Omega.{arith}
use Rattle.std.proofs.Math.Seq.{append_snoc}
use Rattle.std.proofs.lemmas.Bool.{eqb-false, not-true}
use Rattle.definition.specs.Text.{field, malformed, decimal, is_digit, digits_then, field_of}
use Rattle.grammar.specs.Decimal.{decimal_below_ten, decimal_snoc, by_digits}

pub is_digit_iff : (b : ℕ) → (is_digit b ≡ true) ↔ ((48 ≤ b) × (b ≤ 57))
unfolding is_digit
is_digit_iff b = (
  λ e. let t = (and-eq-true_iff (leb 48 b) (leb b 57)).0 e in (leb-true 48 b t.0, leb-true b 57 t.1),
  λ h. rw (le-leb 48 b h.0, le-leb b 57 h.1),
)

-- behind digits with the value v, the byte b is one digit more
pub record NextDigit (most v b : ℕ) : Type 0 where
  pub low : 48 ≤ b
  pub high : b ≤ 57
  pub no_leading_zero : 0 < v
  pub small : 10 * v + (b - 48) ≤ most

-- the reader's test of this
unfoldable pub is_next_digit : ℕ → ℕ → ℕ → Bool
is_next_digit most v b = is_digit b && not (eqb v 0) && leb (10 * v + (b - 48)) most

pub is_next_digit_iff : (most v b : ℕ) → (is_next_digit most v b ≡ true) ↔ NextDigit most v b
unfolding is_next_digit
is_next_digit_iff most v b = (
  λ e.
      let s = (and-eq-true_iff (is_digit b && not (eqb v 0)) (leb (10 * v + (b - 48)) most)).0 e in
      let t = (and-eq-true_iff (is_digit b) (not (eqb v 0))).0 s.0 in
      let n = eqb-false v 0 (not-true (eqb v 0) t.1) in
      omega (arith, (is_digit_iff b).0 t.0, leb-true (10 * v + (b - 48)) most s.1),
  λ d. rw (
    (is_digit_iff b).1 (d.low, d.high),
    ne_eqb v 0 (λ e. omega arith),
    le-leb (10 * v + (b - 48)) most
        d.small,
  ),
)

module _ (most end : ℕ) where
  pub digits_then_end : (v : ℕ) (rest : List ℕ) → digits_then most end v (end ∷ rest) ≡ field v rest
  unfolding digits_then
  digits_then_end v rest = rw (eq-eqb end end refl, digits_then)

  module _ (v b : ℕ) (rest : List ℕ) (n : b ≡ end → ⊥) where
    pub digits_then_digit : is_next_digit most v b ≡ true
        → digits_then most end v (b ∷ rest) ≡ digits_then most end (10 * v + (b - 48)) rest
    unfolding digits_then is_next_digit
    digits_then_digit t = rw (ne_eqb b end n, t, digits_then)

    pub digits_then_other : is_next_digit most v b ≡ false → digits_then most end v (b ∷ rest) ≡ malformed
    unfolding digits_then is_next_digit
    digits_then_other t = rw (ne_eqb b end n, t, digits_then)

  module _ (b : ℕ) (rest : List ℕ) where
    pub field_of_digit : is_digit b ≡ true → field_of most end (b ∷ rest) ≡ digits_then most end (b - 48) rest
    unfolding field_of
    field_of_digit t = rw (t, field_of)

    pub field_of_other : is_digit b ≡ false → field_of most end (b ∷ rest) ≡ malformed
    unfolding field_of
    field_of_other t = rw (t, field_of)

  -- behind digits with the value v: these and the text are the digits of the number that is read, its end and the rest
  pub text_of_digits_then : (v : ℕ) (text : List ℕ) (n : ℕ) (rest : List ℕ) → v ≤ most
      → digits_then most end v text ≡ field n rest
      → (decimal v ++ text ≡ decimal n ++ end ∷ rest) × (n ≤ most)
  unfolding digits_then
  text_of_digits_then v [] n rest p e = absurd (suc-ne-zero 0 (cc))
  text_of_digits_then v (b ∷ text) n rest p e =
      elim (ℕ_discrete b end) [
        | yes h ↦
            let q = sym (digits_then_end v text) ∙ (rw h at e) in
            let v_is : v ≡ n = cc in
            let text_is : text ≡ rest = cc in
            (rw (h, v_is, text_is), omega arith)
        | no h ↦
            elim (Bool-discrete (is_next_digit most v b) true) [
              | yes t ↦
                  let d = (is_next_digit_iff most v b).0 t in
                  let r = text_of_digits_then (10 * v + (b - 48)) text n rest d.small
                  (sym (digits_then_digit v b text h t) ∙ e) in
                  let b_is : 48 + (b - 48) ≡ b = omega arith in
                  (rw (decimal_snoc v (b - 48) d.no_leading_zero (omega arith), b_is, append_snoc) at r.0, r.1)
              | no t ↦ absurd (suc-ne-zero 0 (cc (digits_then_other v b text h (eq-false_of_not-eq-true t))))
            ]
      ]

  -- a text that is read as a number is its digits and the end (S 6.1)
  pub text_of_field : (text : List ℕ) (n : ℕ) (rest : List ℕ) → 9 ≤ most → field_of most end text ≡ field n rest
      → (text ≡ decimal n ++ end ∷ rest) × (n ≤ most)
  unfolding field_of
  text_of_field [] n rest p e = absurd (suc-ne-zero 0 (cc))
  text_of_field (b ∷ text) n rest p e =
      elim (Bool-discrete (is_digit b) true) [
        | yes t ↦
            let d = (is_digit_iff b).0 t in
            let r = text_of_digits_then (b - 48) text n rest (omega arith) (sym (field_of_digit b text t) ∙ e) in
            let b_is : 48 + (b - 48) ≡ b = omega arith in
            (rw (decimal_below_ten (b - 48) (omega arith), b_is) at r.0, r.1)
        | no t ↦ absurd (suc-ne-zero 0 (cc (field_of_other b text (eq-false_of_not-eq-true t))))
      ]

  module _ (no_digit : is_digit end ≡ false) where
    digit_no_end : (d : ℕ) → d < 10 → 48 + d ≡ end → ⊥
    digit_no_end d h e = suc-ne-zero 0 (cc ((is_digit_iff (48 + d)).1 (omega arith)))

    field_of_below_ten : (n : ℕ) → n < 10 → (text : List ℕ) → n ≤ most
        → field_of most end (decimal n ++ text) ≡ digits_then most end n text
    field_of_below_ten n h text k =
        let n_is : 48 + n - 48 ≡ n = omega arith in
        rw (decimal_below_ten n h, field_of_digit (48 + n) text ((is_digit_iff (48 + n)).1 (omega arith)), n_is)

    digits_then_snoc : (v d : ℕ) (text : List ℕ) → 0 < v → d < 10 → 10 * v + d ≤ most
        → digits_then most end v ((48 + d) ∷ text) ≡ digits_then most end (10 * v + d) text
    digits_then_snoc v d text p h k =
        let d_is : 48 + d - 48 ≡ d = omega arith in
        rw (
          digits_then_digit v (48 + d) text (digit_no_end d h) ((is_next_digit_iff most v (48 + d)).1 (omega arith)),
          d_is,
        )

    -- behind the digits of n the reader has read n
    pub field_of_decimal : (n : ℕ) (text : List ℕ) → n ≤ most
        → field_of most end (decimal n ++ text) ≡ digits_then most end n text
    field_of_decimal =
        by_digits (λ n. (text : List ℕ) → n ≤ most → field_of most end (decimal n ++ text)
        ≡ digits_then most end n text)
        field_of_below_ten
        (λ v d p h ih text k.
        rw (decimal_snoc v d p h, append_snoc, ih ((48 + d) ∷ text) (omega arith), digits_then_snoc v d text p h k))

    pub field_of_decimal_end : (n : ℕ) (rest : List ℕ) → n ≤ most
        → field_of most end (decimal n ++ end ∷ rest) ≡ field n rest
    field_of_decimal_end n rest k = field_of_decimal n (end ∷ rest) k ∙ digits_then_end n rest
