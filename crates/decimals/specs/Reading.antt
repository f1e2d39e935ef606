-- The reader at a place of a text: what is left there begins with a field, or with none (`digits_out`, `field_out`).
use Rattle.std.specs.Prelude.{◌≡◌, Bool, true, false, List, ◌∷◌, ℕ, ◌+◌, ◌-◌, ◌*◌, ◌<◌, ◌≤◌, ltb, length, get_or, drop}
use Rattle.std.specs.Prelude.{Option, Some, None}
use Rattle.std.proofs.Math.Path.{sym}
use Rattle.std.proofs.Common.{◌∙◌, add-one, drop_of_length-le, drop-cons}
use Rattle.std.specs.Char.{is_ascii_digit}
use Rattle.std.proofs.lemmas.Bool.{ltb-true, ltb-false}
use Rattle.std.proofs.lemmas.List.{get_or_read}
use Rattle.definition.specs.Text.{Field, field, malformed, is_digit, digits_then, field_of}
use Rattle.grammar.specs.Fields.{
  is_next_digit,
  is_next_digit_iff,
  NextDigit,
  digits_then_end,
  digits_then_digit,
  digits_then_other,
  field_of_digit,
  field_of_other,
}
use Rattle.decimals.specs.declared.Number.{Number}

-- the field that the answer tells of: the place behind it stands for what is left there
unfoldable pub field_in : List ℕ → Option Number → Field
field_in text (Some number) = field number.value (drop number.next text)
field_in text None = malformed

-- ---- one byte
-- the library's test of a digit is the reader's
digit_test : {t : Bool} (b : ℕ) → t ≡ is_ascii_digit b → t ≡ is_digit b
unfolding is_digit
digit_test b e = e

pub is_next_digit_lem : {u : Bool} (most v b : ℕ) → u ≡ is_next_digit most v b → u ≡ true → NextDigit most v b
is_next_digit_lem most v b e h = (is_next_digit_iff most v b).0 (sym e ∙ h)

here : (text : List ℕ) (at : ℕ) → at < length text → drop at text ≡ get_or text at 0 ∷ drop (at + 1) text
here text at h = rw (add-one, drop-cons text at 0)

-- ---- behind digits with the value v
module _ (text : List ℕ) (at most end v : ℕ) where
  pub digits_out : length text ≤ at → field_in text None ≡ digits_then most end v (drop at text)
  unfolding digits_then field_in
  digits_out h = rw (drop_of_length-le text h)

  module _ (h : at < length text) where
    pub digits_end : get_or text at 0 ≡ end
        → field_in text (Some (record { value = v; next = at + 1 })) ≡ digits_then most end v (drop at text)
    unfolding field_in
    digits_end e = sym (rw (here text at h, e) (digits_then_end most end v (drop (at + 1) text)))

    module _ (n : get_or text at 0 ≡ end → ⊥) where
      pub digits_other : {u : Bool} → u ≡ is_next_digit most v (get_or text at 0) → u ≡ false
          → field_in text None ≡ digits_then most end v (drop at text)
      unfolding field_in
      digits_other e f =
          sym (rw (here text at h) (digits_then_other most end v (get_or text at 0) (drop (at + 1) text) n (sym e ∙ f)))

      pub digits_more : {u : Bool} → u ≡ is_next_digit most v (get_or text at 0) → u ≡ true
          → digits_then most end (10 * v + (get_or text at 0 - 48)) (drop (at + 1) text)
          ≡ digits_then most end v (drop at text)
      digits_more e f =
          sym (rw (here text at h) (digits_then_digit most end v (get_or text at 0) (drop (at + 1) text) n (sym e ∙ f)))

-- ---- from the first byte on
module _ (text : List ℕ) (at most end : ℕ) where
  pub field_out : false ≡ ltb at (length text) → field_in text None ≡ field_of most end (drop at text)
  unfolding field_of field_in
  field_out e = let h : length text ≤ at = ltb-false at (length text) (sym e) in rw (drop_of_length-le text h)

  -- the code has read b there, and tested whether it is a digit
  module _ (e : true ≡ ltb at (length text)) {b : ℕ} (g : b ≡ get_or text at b) {t : Bool} (d : t ≡ is_ascii_digit b)
    where
      b_here : drop at text ≡ b ∷ drop (at + 1) text
      b_here =
          let h : at < length text = ltb-true at (length text) (sym e) in
          rw (here text at h, ← get_or_read text at b h g 0)

      pub field_other : t ≡ false → field_in text None ≡ field_of most end (drop at text)
      unfolding field_in
      field_other f = sym (rw b_here (field_of_other most end b (drop (at + 1) text) (sym (digit_test b d) ∙ f)))

      pub field_digit : t ≡ true → digits_then most end (b - 48) (drop (at + 1) text) ≡ field_of most end (drop at text)
      field_digit f = sym (rw b_here (field_of_digit most end b (drop (at + 1) text) (sym (digit_test b d) ∙ f)))
