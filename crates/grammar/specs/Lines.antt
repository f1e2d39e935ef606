-- Lines of numbers are the fields of these numbers, with the lines' ends (`rows_text_fields`). The reader reads numbers
-- of at most `most` from their fields (`values_of_fields`), and from no other text (`fields_of_values`).
use Rattle.std.specs.Prelude.{◌≡◌, false, ◌↔◌, length, get_or, take, drop, replicate}
use Rattle.std.proofs.Math.Path.{refl, ap}
use Rattle.std.proofs.Common.{sym, ◌∙◌, suc-mul, suc-ne-zero, arith, take-append-drop, length-append, length-drop}
use Rattle.std.proofs.Common.{length-take-le}
use mathlib.Core.List.{List, [], ◌∷◌, ◌++◌, append_assoc}
use Rattle.std.proofs.Math.Option.{some, none}
use Prim.Native.Nat.{ℕ, zero, suc, ◌-◌, ◌*◌, ◌<◌, ◌≤◌}
use Rattle.std.proofs.lemmas.List.{length-replicate}
use Rattle.definition.specs.Lists.{repeated}
use Rattle.definition.specs.Text.{comma, newline, decimal, line, line_ends, field, malformed, is_digit, field_of}
use Rattle.definition.specs.MapText.{rows_text, values_of}
use Rattle.grammar.specs.Fields.{field_of_decimal_end, text_of_field}

-- each number with its end behind it
unfoldable pub fields_text : List ℕ → List ℕ → List ℕ
fields_text [] ends = []
fields_text (v ∷ values) [] = []
fields_text (v ∷ values) (end ∷ ends) = decimal v ++ end ∷ fields_text values ends

pub fields_text_append : (a b c d : List ℕ) → length a ≡ length c
    → fields_text (a ++ b) (c ++ d) ≡ fields_text a c ++ fields_text b d
unfolding fields_text
fields_text_append [] b [] d h = refl
fields_text_append [] b (end ∷ c) d h = absurd (omega arith)
fields_text_append (v ∷ a) b [] d h = absurd (omega arith)
fields_text_append (v ∷ a) b (end ∷ c) d h = rw (fields_text_append a b c d (omega arith), append_assoc)

-- ---- lines
line_ends_suc : (k : ℕ) → line_ends (suc k) ≡ replicate k comma ++ newline ∷ []
unfolding line_ends
line_ends_suc k = let k_is : suc k - 1 ≡ k = omega arith in rw k_is

pub length_line_ends : (n : ℕ) → 0 < n → length (line_ends n) ≡ n
unfolding line_ends
length_line_ends n p = simp (length-append, length-replicate) (omega arith)

pub length_repeated_line_ends : (n m : ℕ) → 0 < n → length (repeated m (line_ends n)) ≡ m * n
unfolding repeated
length_repeated_line_ends n zero p = omega arith
length_repeated_line_ends n (suc m) p =
    rw length-append (omega (arith, length_line_ends n p, length_repeated_line_ends n m p, suc-mul m n))

pub line_fields : (values : List ℕ) → 0 < length values → line values ≡ fields_text values (line_ends (length values))
unfolding line fields_text
line_fields [] p = absurd (omega arith)
line_fields (v ∷ []) p = rw (line_ends_suc 0)
line_fields (v ∷ w ∷ values) p =
    rw (line_fields (w ∷ values) (omega arith), line_ends_suc (length values), line_ends_suc (suc (length values)))

pub rows_text_fields : (n m : ℕ) (values : List ℕ) → 0 < n → length values ≡ m * n
    → rows_text n m values ≡ fields_text values (repeated m (line_ends n))
unfolding rows_text repeated fields_text
rows_text_fields n zero [] p h = refl
rows_text_fields n zero (v ∷ values) p h = absurd (omega arith)
rows_text_fields n (suc m) values p h =
    let s = suc-mul m n in
    let t = length-take-le n values (omega arith) in
    let a = fields_text_append (take n values) (drop n values) (line_ends n) (repeated m (line_ends n))
    (t ∙ sym (length_line_ends n p)) in
    rw (
      line_fields (take n values) (omega arith),
      t,
      rows_text_fields n m (drop n values) p
          (omega (arith, length-drop n values)),
      ← a,
      take-append-drop,
    )

-- ---- the reader
-- none of the ends is a digit; past the last, 0 is none either
abbrev pub NoDigits : List ℕ → Type 0
NoDigits ends = (i : ℕ) → is_digit (get_or ends i 0) ≡ false

line_ends_no_digits : (k : ℕ) (ends : List ℕ) → NoDigits ends → NoDigits (replicate k comma ++ newline ∷ ends)
unfolding is_digit
line_ends_no_digits zero ends h zero = refl
line_ends_no_digits zero ends h (suc i) = h i
line_ends_no_digits (suc k) ends h zero = refl
line_ends_no_digits (suc k) ends h (suc i) = line_ends_no_digits k ends h i

pub repeated_line_ends_no_digits : (n m : ℕ) → NoDigits (repeated m (line_ends n))
unfolding repeated line_ends is_digit
repeated_line_ends_no_digits n zero i = refl
repeated_line_ends_no_digits n (suc m) i =
    rw append_assoc (line_ends_no_digits (n - 1) (repeated m (line_ends n)) (repeated_line_ends_no_digits n m) i)

abbrev pub AtMost : ℕ → List ℕ → Type 0
AtMost most values = (i : ℕ) → i < length values → get_or values i 0 ≤ most

at_most_cons : (most v : ℕ) (values : List ℕ) → v ≤ most → AtMost most values → AtMost most (v ∷ values)
at_most_cons most v values h t zero k = h
at_most_cons most v values h t (suc i) k = t i (omega arith)

-- a text is that of numbers of at most `most`, with these ends
pub record FieldsOf (most : ℕ) (ends text values : List ℕ) : Type 0 where
  pub bytes : text ≡ fields_text values ends
  pub count : length values ≡ length ends
  pub small : AtMost most values

module _ (most : ℕ) where
  pub values_of_fields : (ends values : List ℕ) → NoDigits ends → length values ≡ length ends → AtMost most values
      → values_of most ends (fields_text values ends) ≡ some values
  unfolding values_of fields_text
  values_of_fields [] [] n c s = refl
  values_of_fields [] (v ∷ values) n c s = absurd (omega arith)
  values_of_fields (end ∷ ends) [] n c s = absurd (omega arith)
  values_of_fields (end ∷ ends) (v ∷ values) n c s =
      rw (
        field_of_decimal_end most end (n 0) v (fields_text values ends) (s 0 (omega arith)),
        values_of_fields ends values (λ i. n (suc i)) (omega arith) (λ i k. s (suc i) (omega arith)),
        values_of,
      )

  module _ (nine : 9 ≤ most) where
    -- numbers that are read are their digits, each with the byte that ends it (S 6.1)
    pub fields_of_values : (ends text values : List ℕ) → values_of most ends text ≡ some values
        → FieldsOf most ends text values
    unfolding values_of fields_text
    fields_of_values [] [] values e =
        let values_is : [] ≡ values = cc in
        rw (← values_is) (record { bytes = refl; count = refl; small = λ i h. absurd (omega arith) })
    fields_of_values [] (b ∷ text) values e = absurd (suc-ne-zero 0 (cc))
    fields_of_values (end ∷ ends) text values e =
        (elim (field_of most end text) as (λ f. field_of most end text ≡ f → FieldsOf most (end ∷ ends) text values) [
          | malformed ↦ λ q. absurd (suc-ne-zero 0 (cc (rw (q, values_of) at e)))
          | field v rest ↦
              λ q.
              (elim (values_of most ends rest) as
              (λ o. values_of most ends rest ≡ o → FieldsOf most (end ∷ ends) text values) [
                | none ↦ λ r. absurd (suc-ne-zero 0 (cc (rw (q, r, values_of) at e)))
                | some others ↦
                    λ r.
                    let values_is : v ∷ others ≡ values = cc (rw (q, r, values_of) at e) in
                    let f = text_of_field most end text v rest nine q in
                    let t = fields_of_values ends rest others r in
                    rw (← values_is)
                    (record {
                      bytes = rw (← t.bytes) f.0;
                      count = ap suc t.count;
                      small = at_most_cons most v others f.1 t.small;
                    })
              ]) refl
        ]) refl

-- with a lower bound the reader reads the same numbers, where none of them is above it
pub values_within : (most larger : ℕ) → 9 ≤ most → most ≤ larger → (ends text values : List ℕ) → NoDigits ends
    → (values_of most ends text ≡ some values) ↔ ((values_of larger ends text ≡ some values) × AtMost most values)
values_within most larger nine h ends text values n = (
  λ e.
      let f = fields_of_values most nine ends text values e in
      let read = values_of_fields larger ends values n f.count (λ i k. omega (arith, f.small i k)) in
      (rw f.bytes read, f.small),
  λ e.
      let f = fields_of_values larger (omega arith) ends text values e.0 in
      rw f.bytes (values_of_fields most ends values n f.count e.1),
)
