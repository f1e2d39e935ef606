-- The call Lower Text, which makes of a stored map text one that passes: `lower_text_of` is what it answers and leaves
-- in both buffers, for every text and all lists lent.
use Rattle.std.specs.Prelude.{List, [], ◌∷◌, ◌++◌, ℕ, zero, suc, length, drop}
use Rattle.definition.specs.Answers.{Said, returned, refused}
use Rattle.definition.specs.Lowering.{lowered}
use Rattle.definition.specs.Refusals.{output_short, lowest}
use Rattle.definition.specs.MapText.{map_text, accepted, rejected, read_map}

-- what is said, and the greys and the output afterwards
pub record LowerTextOutcome : Type 0 where
  pub said : Said
  pub greys : List ℕ
  pub output : List ℕ

-- refused: nothing is written (S 5.1)
unfoldable pub text_kept : ℕ → List ℕ → List ℕ → LowerTextOutcome
text_kept n greys output = record { said = refused n; greys = greys; output = output }

-- the lowered greys and their one text, in front of what the buffers had behind them; the answer is the text's length
-- (S 9.2)
unfoldable pub text_lowered : List ℕ → List ℕ → List ℕ → List ℕ → LowerTextOutcome
text_lowered low text greys output =
    record {
      said = returned (length text ∷ []);
      greys = low ++ drop (length low) greys;
      output = text ++ drop (length text) output;
    }

-- The text is read as a map text, with the refusals 7, 1, 2, 7; then comes 8, if the output is shorter than the text of
-- the lowered greys (S 9.2, S 5.2).
unfoldable pub lower_text_of : List ℕ → List ℕ → List ℕ → LowerTextOutcome
lower_text_of text greys output =
    elim (read_map text (length greys)) [
      | rejected n ↦ text_kept n greys output
      | accepted side values ↦
          let low = lowered values in
          let low_text = map_text side low in
          elim (lowest (output_short (length low_text) (length output) ∷ [])) [
            | zero ↦ text_lowered low low_text greys output
            | suc n ↦ text_kept (suc n) greys output
          ]
    ]
