-- The first line of a text: what the code finds it to say, for every text that begins so, a map's or a sketch's
-- (`line_good`, `line_refused`).
use Rattle.std.specs.Prelude.{◌≡◌, List, drop, Some, None, Result, Ok, Err}
use Rattle.std.specs.Prelude as Std
use Rattle.std.specs.Option.{ok_or}
use Rattle.std.proofs.Math.Path.{sym}
use Rattle.std.proofs.Common.{arith}
use Prim.Native.Nat.{ℕ, suc, ◌-◌, ◌*◌, ◌<◌, ◌≤◌}
use Rattle.definition.specs.Answers.{number_of}
use Rattle.definition.specs.Refusals.{power_of, greys_refusal}
use Rattle.definition.specs.Text.{newline, field, malformed, field_of}
use Rattle.definition.specs.MapText.{rejected, read_numbers, read_text}
use Rattle.definition.specs.declared.Refusal.{Refusal}
use Rattle.definition.specs.declared.Refusal.TheVariants.{TextMalformed}
use Rattle.refusals.specs.Powers.{side_positive, side_most, cell_count_side}
use Rattle.refusals.specs.Lowest.{greys_none}
use Rattle.refusals.specs.Numbers.{number_positive}
use Rattle.checks.specs.Checks.{checked, passed_none, failed_number}
use Rattle.decimals.specs.Reading.{field_in}
use Rattle.decimals.specs.declared.Number.{Number}
use Rattle.text_cells.specs.declared.FirstLine.{FirstLine}

-- a text's first line ends before the place `from` and says a side that isn't refused, for greys buffers of at least
-- `room` places: the numbers decide, whichever their ends are to be
pub record GoodSide (text : List ℕ) (room side from : ℕ) : Type 0 where
  pub reading : (ends_of : ℕ → List ℕ) → read_text ends_of text room ≡ read_numbers side (ends_of side) (drop from text)
  pub known : 0 < power_of side
  pub some_side : 0 < side
  pub most : side ≤ 256
  pub fits : side * side ≤ room

-- what the code has found it to say
unfoldable pub LineSays : List ℕ → ℕ → Result FirstLine Refusal → Type 0
LineSays text room (Ok line) = GoodSide text room line.side line.next
LineSays text room (Err why) = (ends_of : ℕ → List ℕ) → read_text ends_of text room ≡ rejected (number_of why)

module _ (text : List ℕ) (room : ℕ) where
  pub line_good : (line : FirstLine) → LineSays text room (Ok line) → GoodSide text room line.side line.next
  unfolding LineSays
  line_good line says = says

  pub line_refused : (why : Refusal) → LineSays text room (Err why)
      → (ends_of : ℕ → List ℕ) → read_text ends_of text room ≡ rejected (number_of why)
  unfolding LineSays
  line_refused why says = says

  -- the line is none, and so the text is refused
  pub no_line : {number : Std.Option Number} {why : Refusal} → field_in text number ≡ field_of 999 newline text
      → number ≡ None → Err why ≡ ok_or number TextMalformed → LineSays text room (Err why)
  unfolding LineSays read_text number_of field_in
  no_line {why = why} f none e =
      let m : field_of 999 newline text ≡ malformed = sym (rw none at f) in
      let is : why ≡ TextMalformed = cc (rw none at e) in
      rw is (λ ends_of. rw (m, read_text))

  -- or it says a number, of which the check of 1 and 2 says no or yes
  module _ (line : Number) (f : field_in text (Some line) ≡ field_of 999 newline text) {r : ℕ}
      (er : r ≡ power_of line.value) where
    line_is : field_of 999 newline text ≡ field line.value (drop line.next text)
    unfolding field_in
    line_is = sym f

    pub side_refused : (why : Refusal) → checked (Err why) ≡ greys_refusal r room → LineSays text room (Err why)
    unfolding LineSays read_text
    side_refused why h =
        let n : greys_refusal (power_of line.value) room ≡ suc (number_of why - 1) = rw (← er) (failed_number why h) in
        λ ends_of. rw (line_is, n, read_text, ← number_positive why)

    pub side_good : checked (Ok tt) ≡ greys_refusal r room
        → LineSays text room (Ok (record { side = line.value; next = line.next }))
    unfolding LineSays read_text
    side_good h =
        let n : greys_refusal (power_of line.value) room ≡ 0 = rw (← er) (passed_none h) in
        let known = (greys_none (power_of line.value) room).0 n in
        record {
          reading = λ ends_of. rw (line_is, n, read_text);
          known = known.0;
          some_side = side_positive line.value known.0;
          most = side_most line.value known.0;
          fits = omega (arith, cell_count_side line.value known.0);
        }
