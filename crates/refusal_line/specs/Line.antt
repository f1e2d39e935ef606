-- The line of a refusal, from the word in front of the number and the number as a field (`line_printed`).
use Rattle.std.specs.Prelude.{◌≡◌, refl, List, [], ◌∷◌, ◌++◌, ℕ, ◌^◌, ◌≤◌, ◌<◌, length, drop}
use Rattle.std.proofs.Common.{sym, ap, arith, length-append}
use Rattle.definition.specs.Text.{line}
use Rattle.definition.specs.Plate.{refused_text}
use Rattle.decimals.specs.Writing.{Wrote, wrote_append, sets_front, field_text, length_field_text}
use Rattle.decimals.specs.Printed.{Printed, wrote_printed}

-- a word of eight bytes, and the number as a field
abbrev pub refused_word : List ℕ
refused_word = 114 ∷ 101 ∷ 102 ∷ 117 ∷ 115 ∷ 101 ∷ 100 ∷ 44 ∷ []

refused_is : (n : ℕ) → refused_text n ≡ refused_word ++ field_text n 10
unfolding refused_text field_text line
refused_is n = refl

module _ (n : ℕ) (small : n < 2 ^ 64) (before : List ℕ) (room : 29 ≤ length before) where
  refused_short : length (refused_text n) ≤ length before
  refused_short =
      omega (
        arith,
        ap length (refused_is n),
        length-append refused_word (field_text n 10),
        length_field_text n small 10,
      )

  word_wrote : Wrote before 0 refused_word 8 (refused_word ++ drop 8 before)
  word_wrote = record { place = refl; stored = sym (sets_front refused_word before (omega arith)) }

  pub line_printed : {after : List ℕ} {next : ℕ} → Wrote (refused_word ++ drop 8 before) 8 (field_text n 10) next after
      → Printed (refused_text n) before next after
  line_printed y = wrote_printed refused_short (rw (refused_is n) (wrote_append word_wrote y))
