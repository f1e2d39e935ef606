-- The ways out of Map Text and Lower Text: a first line that is refused (`map_line_refused`, `lower_line_refused`),
-- greys that are, an output that is too short, and a map that is read (`map_read`), or lowered and written
-- (`lower_written`).
use Rattle.std.specs.Prelude.{◌≡◌, Bool, true, not, is_some, Some, None, Result, Ok, Err, List, ◌++◌, ℕ, ◌*◌, ◌<◌, ◌≤◌}
use Rattle.std.specs.Prelude.{length}
use Rattle.std.specs.Prelude as Std
use Rattle.std.proofs.Math.Path.{refl, sym, ap}
use Rattle.std.proofs.Common.{◌∙◌, arith, take_at, drop_at}
use Rattle.std.proofs.Math.Bool.{false}
use Rattle.std.proofs.lemmas.Bool.{false≢true, true≢false}
use Rattle.std.proofs.Math.Option.{Option, some, none}
use Rattle.std.proofs.Math.ListN.{take, drop}
use Rattle.std.proofs.lemmas.List.Edits.{sets}
use Rattle.definition.specs.Answers.{value_says, number_of}
use Rattle.definition.specs.MapText.{map_ends, values_of, accepted, rejected, read_numbers, read_map, read_low}
use Rattle.definition.specs.MapText.{map_text_of}
use Rattle.definition.specs.LowerText.{text_kept, lower_text_of}
use Rattle.definition.specs.declared.Refusal.{Refusal}
use Rattle.definition.specs.declared.Refusal.TheVariants.{TextMalformed, OutputShort}
use Rattle.grammar.specs.Lines.{length_repeated_line_ends, fields_of_values}
use Rattle.grammar.specs.Grammar.{MapOf}
use Rattle.grammar.proofs.Grammar.{grammar}
use Rattle.grammar.proofs.LowerText.{lowered_as_long, lower_text_outcome, lower_text_short}
use Rattle.decimals.specs.Writing.{sets_front}
use Rattle.decimals.specs.Printed.{wrote_printed}
use Rattle.text_cells.specs.Cells.{CellsRead}
use Rattle.text_cells.specs.Found.{
  numbers_from,
  CellsFound,
  cells_found,
  cells_stored,
  found_none,
  All,
  found_all,
  why_not,
  low_numbers,
  one_high,
}
use Rattle.text_cells.specs.FirstLine.{GoodSide, LineSays, line_refused}
use Rattle.map_text.specs.Written.{LoweredPut}

-- where the first line is refused, so is the call
module _ (text greys : List ℕ) (why : Refusal) (says : LineSays text (length greys) (Err why)) where
  pub map_line_refused : {a : Result ℕ Refusal} → a ≡ Err why
      → record { said = value_says a; greys = greys } ≡ map_text_of text greys
  unfolding map_text_of read_low value_says
  map_line_refused ea = rw (ea, line_refused text (length greys) why says map_ends, map_text_of, read_low)

  pub lower_line_refused : (output : List ℕ) {a : Result ℕ Refusal} → a ≡ Err why
      → record { said = value_says a; greys = greys; output = output } ≡ lower_text_of text greys output
  unfolding lower_text_of text_kept value_says
  lower_line_refused output ea = rw (ea, line_refused text (length greys) why says map_ends, lower_text_of)

-- ---- what a run has found, and the greys that it has stored, if they were all there
pub record GreysStored (text : List ℕ) (from side most : ℕ) (before : List ℕ) (found : Std.Option Bool)
    (after : List ℕ) : Type 0
  where
    pub all_found : CellsFound text from side false most found
    pub stored : (values : List ℕ) → numbers_from text from side false most ≡ some values → after ≡ sets before 0 values

pub greys_stored : {text : List ℕ} {from side most : ℕ} {greys highs : List ℕ} {found : Std.Option Bool}
    {after highs_after : List ℕ}
    → CellsRead text from side false most greys highs found after highs_after
    → GreysStored text from side most greys found after
greys_stored r = record { all_found = cells_found r; stored = λ values v. (cells_stored r values v).0 }

values_stored : {text greys : List ℕ} {side from most : ℕ} → GoodSide text (length greys) side from → 9 ≤ most
    → (values : List ℕ) → values_of most (map_ends side) (drop from text) ≡ some values
    → {all : Std.Option Bool} {after : List ℕ} → GreysStored text from side most greys all after
    → after ≡ values ++ drop (length values) greys
values_stored {text} {greys} {side} {from} {most} good nine values v t =
    let count = (fields_of_values most nine (map_ends side) (drop from text) values v).count in
    t.stored values v
    ∙ sets_front values greys (omega (arith, length_repeated_line_ends side side good.some_side, good.fits))

-- ---- what the readers make of them
module _ {text : List ℕ} {room side from : ℕ} (good : GoodSide text room side from) where
  read_values : (values : List ℕ) → values_of 255 (map_ends side) (drop from text) ≡ some values
      → read_map text room ≡ accepted side values
  unfolding read_numbers
  read_values values v = good.reading map_ends ∙ rw (v, read_numbers)

  read_none : values_of 255 (map_ends side) (drop from text) ≡ none → read_map text room ≡ rejected 7
  unfolding read_numbers
  read_none v = good.reading map_ends ∙ rw (v, read_numbers)

  low_values : (values : List ℕ) → values_of 240 (map_ends side) (drop from text) ≡ some values
      → read_low text room ≡ accepted side values
  unfolding read_low
  low_values values v =
      let r = low_numbers text from side false good.some_side values v in
      rw (read_values values r.0, r.1, read_low)

  low_none : values_of 240 (map_ends side) (drop from text) ≡ none
      → read_low text room ≡ rejected (why_not text from side false)
  unfolding read_low why_not
  low_none v = go (values_of 255 (map_ends side) (drop from text)) refl
    where
      go : (o : Option (List ℕ)) → values_of 255 (map_ends side) (drop from text) ≡ o
          → read_low text room ≡ rejected (why_not text from side false)
      go none e = rw (read_none e, e, read_low, why_not)
      go (some values) e =
          rw (read_values values e, one_high text from side false good.some_side v values e, e, read_low, why_not)

-- ---- whether the cells were found, as the code has tested it
absent : (found : Std.Option Bool) {b : Bool} → is_some found ≡ not b → b ≡ true → found ≡ None
absent None q e = refl
absent (Some rise) q e = absurd (true≢false (rw e at q))

present : (found : Std.Option Bool) {b : Bool} → is_some found ≡ not b → b ≡ false
    → (rise : Bool) × (found ≡ Some rise)
present None q e = absurd (false≢true (rw e at q))
present (Some rise) q e = (rise, refl)

-- ---- Map Text, behind a good first line
module _ {text greys : List ℕ} {side from : ℕ} (good : GoodSide text (length greys) side from)
    (found : Std.Option Bool) (f : CellsFound text from side false 240 found) {b : Bool} (q : is_some found ≡ not b)
  where
    pub map_refused : b ≡ true → (why : Refusal) → number_of why ≡ why_not text from side false
        → record { said = value_says (Err why); greys = greys } ≡ map_text_of text greys
    unfolding map_text_of value_says
    map_refused n why w = rw (w, low_none good (found_none (rw (absent found q n) at f)), map_text_of)

    pub map_read : b ≡ false → {all : Std.Option Bool} {after : List ℕ} → GreysStored text from side 240 greys all after
        → record { said = value_says (Ok side); greys = after } ≡ map_text_of text greys
    unfolding map_text_of value_says
    map_read n u =
        let v = found_all (rw (present found q n).1 at f) in
        rw (values_stored good (omega arith) v.values v.read u, low_values good v.values v.read, map_text_of)

-- ---- Lower Text, behind a good first line
module _ {text : List ℕ} (greys output : List ℕ) {side from : ℕ} (good : GoodSide text (length greys) side from)
    (found : Std.Option Bool) (f : CellsFound text from side false 255 found) {b : Bool} (q : is_some found ≡ not b)
  where
    pub lower_broken : b ≡ true
        → record { said = value_says (Err TextMalformed); greys = greys; output = output }
        ≡ lower_text_of text greys output
    unfolding lower_text_of text_kept value_says number_of
    lower_broken n = rw (read_none good (found_none (rw (absent found q n) at f)), lower_text_of)

    module _ (n : b ≡ false) where
      there : All (rw (present found q n).1 at f)
      there = found_all (rw (present found q n).1 at f)

      map_of : MapOf text (length greys) side there.values
      map_of = (grammar text (length greys) side there.values).0 (read_values good there.values there.read)

      pub lower_short : length output < length text
          → record { said = value_says (Err OutputShort); greys = greys; output = output }
          ≡ lower_text_of text greys output
      unfolding text_kept value_says number_of
      lower_short h = sym (lower_text_short text greys output side there.values map_of h)

      -- `stored` is what the run that stores has left, and `low` its greys once they are lowered
      pub lower_written : length text ≤ length output → {all : Std.Option Bool} {stored low after : List ℕ} {length : ℕ}
          → GreysStored text from side 255 greys all stored
          → LoweredPut side (take (side * side) stored) output low length after
          → record { said = value_says (Ok length); greys = low ++ drop (side * side) stored; output = after }
          ≡ lower_text_of text greys output
      unfolding value_says
      lower_written h {stored = stored} u w =
          let cells = side * side in
          let values = there.values in
          let m = map_of in
          let rest = drop (length values) greys in
          let stored_is : stored ≡ values ++ rest = values_stored good (omega arith) values there.read u in
          let front : take cells stored ≡ values = rw stored_is (take_at values rest cells m.count) in
          let behind : drop cells stored ≡ drop cells greys =
          rw stored_is (drop_at values rest cells m.count) ∙ ap (λ (k : ℕ). drop k greys) m.count in
          let printed = wrote_printed (omega (arith, lowered_as_long m)) (rw front at w.text) in
          rw (w.in_place, front, behind, printed.count, printed.written, lowered_as_long m)
          (sym (lower_text_outcome text greys output side values m h))
