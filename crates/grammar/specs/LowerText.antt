-- What Lower Text makes of a text, as one statement (`Converted`): the one text of the lowered greys, which is read
-- back as these, is the text itself if no grey was too high, is just as long in any case, and stays when converted
-- again.
use Rattle.std.specs.Prelude.{◌≡◌, true, List, [], ◌∷◌, ◌++◌, ℕ, ◌*◌, ◌≤◌, length, take, drop}
use Rattle.definition.specs.Answers.{returned}
use Rattle.definition.specs.Lowering.{none_high, lowered}
use Rattle.definition.specs.MapText.{map_text, map_text_of}
use Rattle.definition.specs.LowerText.{LowerTextOutcome, lower_text_of}
use Rattle.grammar.specs.Grammar.{MapOf}

-- ---- what a call that returns n has left, `out`
pub record Converted (text greys output : List ℕ) (n : ℕ) (out : LowerTextOutcome) : Type 0 where
  pub side : ℕ
  pub values : List ℕ
  -- it was a text of the grammar
  pub map_of : MapOf text (length greys) side values
  -- the greys buffer, and the output
  pub greys_are : out.greys ≡ lowered values ++ drop (side * side) greys
  pub text_is : take n out.output ≡ map_text side (lowered values)
  pub rest : drop n out.output ≡ drop n output
  -- no text becomes longer or shorter
  pub as_long : n ≡ length text
  -- Map Text reads the lowered greys back
  pub reads_back : (buffer : List ℕ) → side * side ≤ length buffer → map_text_of (take n out.output) buffer
      ≡ record { said = returned (side ∷ []); greys = lowered values ++ drop (side * side) buffer }
  -- where no grey was too high, the text is copied
  pub copied : none_high values ≡ true → take n out.output ≡ text
  -- converted again, it stays
  pub twice : (buffer other : List ℕ) → side * side ≤ length buffer → n ≤ length other
      → lower_text_of (take n out.output) buffer other
      ≡ record {
        said = returned (n ∷ []);
        greys = lowered values ++ drop (side * side) buffer;
        output = take n out.output ++ drop n other;
      }
