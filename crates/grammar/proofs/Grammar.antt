-- `text_read_iff`, one law for maps and sketches: a text is read just if it is a line of the side and, behind it, so
-- many lines of as many numbers as are asked for, each a byte, where they fit. So a map's text is read just if it is
-- that of a map that fits (`grammar`), and a written one is read back (`written_text_accepted`).
use Rattle.std.specs.Prelude.{◌≡◌, List, [], ◌∷◌, ◌++◌, ◌↔◌, length, get_or}
use Rattle.std.proofs.Math.Path.{refl}
use Rattle.std.proofs.Common.{◌∙◌, suc-ne-zero, arith}
use Rattle.std.proofs.Math.Option.{some, none}
use Prim.Native.Nat.{ℕ, zero, suc, ◌*◌, ◌<◌, ◌≤◌}
use Rattle.std.proofs.Math.Seq.{append_snoc}
use Rattle.definition.specs.Lists.{repeated}
use Rattle.definition.specs.Refusals.{power_of, greys_refusal}
use Rattle.definition.specs.Text.{newline, decimal, line, line_ends, field, malformed, is_digit, field_of}
use Rattle.definition.specs.MapText.{
  rows_text,
  map_text,
  values_of,
  accepted,
  read_numbers,
  read_text,
  read_map,
}
use Rattle.grammar.specs.Fields.{field_of_decimal_end, text_of_field}
use Rattle.grammar.specs.Lines.{
  fields_text,
  rows_text_fields,
  length_repeated_line_ends,
  repeated_line_ends_no_digits,
  values_of_fields,
  fields_of_values,
}
use Rattle.refusals.specs.Powers.{side_positive, side_most, cell_count_side}
use Rattle.refusals.specs.Lowest.{greys_none}
use Rattle.grammar.specs.Grammar.{ends_by, TextOf, MapOf}

-- what the reader finds in a text that it accepts
record Found (n : ℕ → ℕ) (text : List ℕ) (room side : ℕ) (values : List ℕ) : Type 0 where
  rest : List ℕ
  first_line : field_of 999 newline text ≡ field side rest
  no_refusal : greys_refusal (power_of side) room ≡ 0
  numbers : values_of 255 (ends_by n side) rest ≡ some values

-- on each line there is a number, where there is a line
module _ (n : ℕ → ℕ) (some_a_line : (side : ℕ) → 0 < side → 0 < n side) where
  pub text_fields : (side : ℕ) (values : List ℕ) → 0 < side → length values ≡ side * n side
      → line (side ∷ []) ++ rows_text (n side) side values ≡ decimal side ++ newline
      ∷ fields_text values (ends_by n side)
  unfolding line
  text_fields side values p h = rw (append_snoc, rows_text_fields (n side) side values (some_a_line side p) h)

  module _ (text : List ℕ) (room side : ℕ) (values : List ℕ) where
    found_accepted : Found n text room side values → read_text (ends_by n) text room ≡ accepted side values
    unfolding read_text read_numbers
    found_accepted f = rw (f.first_line, f.no_refusal, f.numbers, read_text, read_numbers)

    accepted_found : read_text (ends_by n) text room ≡ accepted side values → Found n text room side values
    unfolding read_text read_numbers
    accepted_found e =
        (elim (field_of 999 newline text) as (λ f. field_of 999 newline text ≡ f → Found n text room side values) [
          | malformed ↦ λ q. absurd (suc-ne-zero 0 (cc (rw (q, read_text) at e)))
          | field m rest ↦
              λ q.
              (elim (greys_refusal (power_of m) room)
              as (λ k. greys_refusal (power_of m) room ≡ k → Found n text room side values) [
                | suc k ↦ λ r. absurd (suc-ne-zero 0 (cc (rw (q, r, read_text) at e)))
                | zero ↦
                    λ r.
                    (elim (values_of 255 (ends_by n m) rest)
                    as (λ o. values_of 255 (ends_by n m) rest ≡ o → Found n text room side values) [
                      | none ↦ λ s. absurd (suc-ne-zero 0 (cc (rw (q, r, s, read_text, read_numbers) at e)))
                      | some numbers ↦
                          λ s.
                          let a = rw (q, r, s, read_text, read_numbers) at e in
                          let m_is : m ≡ side = cc in
                          let numbers_are : numbers ≡ values = cc in
                          rw (← m_is, ← numbers_are)
                          (record { rest = rest; first_line = q; no_refusal = r; numbers = s })
                    ]) refl
              ]) refl
        ]) refl

    text_found : TextOf n text room side values → Found n text room side values
    unfolding is_digit
    text_found t =
        let p = side_positive side t.known in
        let ends = ends_by n side in
        let rest = fields_text values ends in
        record {
          rest = rest;
          first_line =
              rw (t.lines, text_fields side values p t.as_many)
              (field_of_decimal_end 999 newline refl side rest (omega (arith, side_most side t.known)));
          no_refusal = (greys_none (power_of side) room).1 (omega (arith, cell_count_side side t.known));
          numbers =
              values_of_fields 255 ends values (repeated_line_ends_no_digits (n side) side)
              (omega (arith, length_repeated_line_ends (n side) side (some_a_line side p))) t.each_byte;
        }

    found_text : Found n text room side values → TextOf n text room side values
    found_text f =
        let known = (greys_none (power_of side) room).0 f.no_refusal in
        let p = side_positive side known.0 in
        let v = fields_of_values 255 (omega arith) (ends_by n side) f.rest values f.numbers in
        let as_many = v.count ∙ length_repeated_line_ends (n side) side (some_a_line side p) in
        let first = text_of_field 999 newline text side f.rest (omega arith) f.first_line in
        record {
          lines = rw (text_fields side values p as_many, ← v.bytes) first.0;
          known = known.0;
          as_many = as_many;
          each_byte = v.small;
          enough = omega (arith, cell_count_side side known.0);
        }

    pub text_read_iff : (read_text (ends_by n) text room ≡ accepted side values) ↔ TextOf n text room side values
    text_read_iff = (λ e. found_text (accepted_found e), λ t. found_accepted (text_found t))

-- numbers on a line
abbrev same : ℕ → ℕ
same side = side

pub map_text_fields : (side : ℕ) (greys : List ℕ) → 0 < side → length greys ≡ side * side
    → map_text side greys ≡ decimal side ++ newline ∷ fields_text greys (repeated side (line_ends side))
unfolding map_text
map_text_fields side greys p h = text_fields same (λ side p. p) side greys p h

-- just the text of a map is read as that map (S 6.2)
pub grammar : (text : List ℕ) (room side : ℕ) (greys : List ℕ)
    → (read_map text room ≡ accepted side greys) ↔ MapOf text room side greys
unfolding map_text
grammar text room side greys = (
  λ e.
      let t = (text_read_iff same (λ side p. p) text room side greys).0 e in
      record {
        bytes = t.lines;
        one_of_eight = omega arith;
        count = omega arith;
        small = λ i h. omega (arith, t.each_byte i h);
        fits = omega arith;
      },
  λ m.
      (text_read_iff same (λ side p. p) text room side greys).1
      (record {
        lines = m.bytes;
        known = omega arith;
        as_many = omega arith;
        each_byte = λ i h. omega (arith, m.small i h);
        enough = omega arith;
      }),
)

pub written_text_accepted : (room side : ℕ) (greys : List ℕ) → 0 < power_of side → length greys ≡ side * side
    → ((i : ℕ) → i < length greys → get_or greys i 0 ≤ 255) → side * side ≤ room
    → read_map (map_text side greys) room ≡ accepted side greys
written_text_accepted room side greys p c s f =
    (grammar (map_text side greys) room side greys).1
    (record { bytes = refl; one_of_eight = p; count = c; small = s; fits = f })
