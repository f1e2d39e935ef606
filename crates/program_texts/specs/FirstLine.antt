-- The first line of `quote` and of `sketch`: a level is read (`level_read`), or none (`no_level`); `printed` has what
-- is printed behind it.
use Rattle.std.specs.Prelude.{◌≡◌, List, ℕ, ◌-◌, ◌<◌, min, length, take, drop, Option, Some, None, Err}
use Rattle.std.specs.Option.{ok_or}
use Rattle.definition.specs.Answers.{number_of}
use Rattle.definition.specs.declared.Refusal.{Refusal}
use Rattle.definition.specs.declared.Refusal.TheVariants.{TextMalformed}
use Rattle.std.proofs.Math.Path.{sym, ap}
use Rattle.std.proofs.Common.{◌∙◌, arith, drop_of_length-le, length-drop, take_all}
use Rattle.std.proofs.Math.Decide.{dec_lt}
use Rattle.definition.specs.Text.{newline, field, malformed, field_of}
use Rattle.definition.specs.Plate.{refused_text}
use Rattle.definition.specs.Quote.{behind_level}
use Rattle.decimals.specs.Reading.{field_in}
use Rattle.decimals.specs.declared.Number.{Number}

-- what the code goes on with is what is left behind the line
rest_is : (input : List ℕ) (at : ℕ) {from : ℕ} → from ≡ min at (length input)
    → take (length input - from) (drop from input) ≡ drop at input
rest_is input at {from} ef =
    take_all (length input - from) (drop from input) (omega (arith, length-drop from input))
    ∙ go (dec_lt at (length input))
  where
    go : Dec (at < length input) → drop from input ≡ drop at input
    go (yes h) = let same : from ≡ at = omega arith in ap (λ (i : ℕ). drop i input) same
    go (no h) =
        drop_of_length-le input {i = from} (omega arith) ∙ sym (drop_of_length-le input {i = at} (omega arith))

module _ (printed : ℕ → List ℕ → List ℕ) (input : List ℕ) where
  pub no_level : {number : Option Number} {why : Refusal} → field_in input number ≡ field_of 4294967295 newline input
      → number ≡ None → Err why ≡ ok_or number TextMalformed
      → behind_level printed input ≡ refused_text (number_of why)
  unfolding behind_level field_in number_of
  no_level {why = why} f none e =
      let m : field_of 4294967295 newline input ≡ malformed = sym (rw none at f) in
      let is : why ≡ TextMalformed = cc (rw none at e) in
      rw (is, m, behind_level)

  module _ (line : Number) (f : field_in input (Some line) ≡ field_of 4294967295 newline input) {from : ℕ}
      (ef : from ≡ min line.next (length input)) where
    pub level_read : behind_level printed input ≡ printed line.value (take (length input - from) (drop from input))
    unfolding behind_level field_in
    level_read =
        let m : field_of 4294967295 newline input ≡ field line.value (drop line.next input) = sym f in
        rw (m, behind_level) (ap (printed line.value) (sym (rest_is input line.next ef)))
