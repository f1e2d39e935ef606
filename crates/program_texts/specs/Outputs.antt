-- What `plate` prints, and `quote` behind its first line: for an input that is too long (`long_text`), for a text that
-- Map Text refuses (`refused_plate`, `refused_quote`), and for a map (`side_plate`, `side_quote`).
use Rattle.std.specs.Prelude.{◌≡◌, List, ◌++◌, ℕ, ◌*◌, ◌≤◌, ◌<◌, length, drop, Ok, Err}
use Rattle.std.proofs.Math.Path.{refl, ap}
use Rattle.std.proofs.Common.{sym, ◌∙◌, suc-ne-zero, arith, lt-ltb, le-ltb, length-append}
use Rattle.definition.specs.Answers.{GreysOutcome, refused, value_says, number_of}
use Rattle.definition.specs.Pyramid.{cell_count}
use Rattle.definition.specs.Diffusion.{plain}
use Rattle.definition.specs.Refusals.{power_of}
use Rattle.definition.specs.MapText.{accepted, rejected, read_low, map_text_of}
use Rattle.definition.specs.DrillList.{drill_text}
use Rattle.definition.specs.Plate.{refused_text, finished_of, plate_of}
use Rattle.definition.specs.Quote.{quote_of_map, quote_of_text}
use Rattle.definition.specs.declared.Refusal.{Refusal}
use Rattle.definition.specs.declared.Refusal.TheVariants.{InputLong}
use Rattle.definition.specs.Model.{Halftone}
use Rattle.refusals.specs.Powers.{cell_count_side}
use Rattle.grammar.specs.MapText.{LowMapOf}
use Rattle.grammar.proofs.MapText.{read_low_iff}
use Rattle.map_text.specs.Accepted.{accepts_iff, leaves_greys}
use Rattle.program_texts.specs.Lengths.{needed_few}
use Rattle.program_texts.specs.Greys.{front_sheet, front_low}
use Rattle.program_texts.specs.Finished.{MapAsked}
use Rattle.program_texts.specs.Fronts.{finished_front, quoted_front}

module _ (input : List ℕ) where
  pub long_text : 4099 < length input → plate_of input ≡ refused_text (number_of InputLong)
  unfolding plate_of number_of
  long_text h = rw (lt-ltb 4099 (length input) h, plate_of)

  module _ (short : length input ≤ 4099) where
    rejected_plate : {k : ℕ} → read_low input 1024 ≡ rejected k → plate_of input ≡ refused_text k
    unfolding plate_of
    rejected_plate e = rw (le-ltb 4099 (length input) short, e, plate_of)

    accepted_plate : {side : ℕ} {values : List ℕ} → read_low input 1024 ≡ accepted side values
        → plate_of input ≡ drill_text (power_of side) (finished_of plain (power_of side) values)
    unfolding plate_of
    accepted_plate e = rw (le-ltb 4099 (length input) short, e, plate_of)

  -- the same for `quote`
  module _ (level : ℕ) where
    rejected_quote : {k : ℕ} → read_low input 1024 ≡ rejected k → quote_of_text level input ≡ refused_text k
    unfolding quote_of_text
    rejected_quote e = rw (e, quote_of_text)

    accepted_quote : {side : ℕ} {values : List ℕ} → read_low input 1024 ≡ accepted side values
        → quote_of_text level input ≡ quote_of_map level side values
    unfolding quote_of_text
    accepted_quote e = rw (e, quote_of_text)

-- ---- what Map Text has answered, on a buffer of 1,024 places
-- where it is a refusal
module _ (input buffer : List ℕ) (whole : length buffer ≡ 1024) {greys : List ℕ} (why : Refusal)
    (promise : record { said = value_says (Err why); greys = greys } ≡ map_text_of input buffer) where
  -- it is the reader's
  pub refused_rejected : read_low input 1024 ≡ rejected (number_of why)
  unfolding map_text_of value_says
  refused_rejected =
      let told : refused (number_of why) ≡ (map_text_of input buffer).said =
      ap (λ (o : GreysOutcome). o.said) promise in
      rw whole at ((elim (read_low input (length buffer))
      as (λ o. read_low input (length buffer) ≡ o → read_low input (length buffer) ≡ rejected (number_of why)) [
        | accepted side values ↦ λ q. absurd (suc-ne-zero 0 (cc (rw (q, map_text_of) at told)))
        | rejected k ↦ λ q. let k_is : k ≡ number_of why = cc (rw (q, map_text_of) at told) in q ∙ ap rejected k_is
      ]) refl)

  pub refused_plate : length input ≤ 4099 → plate_of input ≡ refused_text (number_of why)
  refused_plate short = rejected_plate input short refused_rejected

  pub refused_quote : (level : ℕ) → quote_of_text level input ≡ refused_text (number_of why)
  refused_quote level = rejected_quote input level refused_rejected

-- where it is a side
module _ (input buffer : List ℕ) (whole : length buffer ≡ 1024) {greys : List ℕ} (side : ℕ)
    (promise : record { said = value_says (Ok side); greys = greys } ≡ map_text_of input buffer) where
  pub found : (values : List ℕ) × LowMapOf input (length buffer) side values
  found = (accepts_iff input buffer greys (Ok side) promise side).0 refl

  abbrev values : List ℕ
  values = found.0

  few : cell_count (power_of side) ≤ 1024
  few = omega (arith, cell_count_side side found.1.map.one_of_eight, found.1.map.fits)

  pub count : length values ≡ cell_count (power_of side)
  count = found.1.map.count ∙ sym (cell_count_side side found.1.map.one_of_eight)

  pub greys_are : greys ≡ values ++ drop (side * side) buffer
  greys_are = leaves_greys input buffer greys (Ok side) promise side values found.1

  pub side_asked : MapAsked side greys 1365 1024 1024
  side_asked =
      record {
        few = few;
        lent =
            record {
              power = found.1.map.one_of_eight;
              known = omega arith;
              greys_long =
                  omega (arith, ap length greys_are, length-append values (drop (side * side) buffer), count);
              pyramid_long = needed_few (power_of side) few;
              serials_long = few;
              order_long = few;
            };
        low = rw greys_are (front_low (power_of side) values (drop (side * side) buffer) count found.1.low);
        start =
            rw greys_are (front_sheet (power_of side) values (drop (side * side) buffer) count found.1.map.small);
      }

  finished_same : finished_of plain (power_of side) greys ≡ finished_of plain (power_of side) values
  finished_same =
      ap (finished_of plain (power_of side)) greys_are ∙ finished_front side values (drop (side * side) buffer) count

  pub read_is : read_low input 1024 ≡ accepted side values
  read_is = rw whole at ((read_low_iff input (length buffer) side values).1 found.1)

  -- the page of the greys in their buffer is that of the map
  quoted_same : (level : ℕ) → quote_of_map level side greys ≡ quote_of_map level side values
  quoted_same level =
      ap (quote_of_map level side) greys_are ∙ quoted_front side values (drop (side * side) buffer) count level

  pub side_quote : (level : ℕ) → quote_of_text level input ≡ quote_of_map level side greys
  side_quote level = accepted_quote input level read_is ∙ sym (quoted_same level)

  pub side_plate : length input ≤ 4099
      → plate_of input ≡ drill_text (power_of side) (finished_of plain (power_of side) greys)
  side_plate short =
      accepted_plate input short read_is
      ∙ sym (ap (λ (t : Halftone). drill_text (power_of side) t) finished_same)
