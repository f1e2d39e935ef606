-- Map texts: `map_text`, the one text of a side and greys; `read_text` and `read_map`, which read by the grammar, with
-- their refusals in order; and the call Map Text, `map_text_of`.
use Rattle.std.specs.Prelude.{true, false, List, [], ◌∷◌, ◌++◌, ℕ, zero, suc, length, take, drop}
use Rattle.std.proofs.Math.Option.{Option, some, none}
use Rattle.definition.specs.Lists.{repeated}
use Rattle.definition.specs.Answers.{GreysOutcome, returned, refused}
use Rattle.definition.specs.Lowering.{none_high}
use Rattle.definition.specs.Refusals.{power_of, greys_refusal}
use Rattle.definition.specs.Text.{newline, line, line_ends, field, malformed, field_of}

-- m lines of n numbers each (S 6.1)
unfoldable pub rows_text : ℕ → ℕ → List ℕ → List ℕ
rows_text n zero values = []
rows_text n (suc m) values = line (take n values) ++ rows_text n m (drop n values)

-- the side on a line, then a line of N greys for each row (S 6.2)
unfoldable pub map_text : ℕ → List ℕ → List ℕ
map_text side greys = line (side ∷ []) ++ rows_text side side greys

-- numbers of at most `most`, with these bytes behind them in turn, and no byte behind the last (S 6.2)
unfoldable pub values_of : ℕ → List ℕ → List ℕ → Option (List ℕ)
values_of most [] [] = some []
values_of most [] (b ∷ rest) = none
values_of most (end ∷ ends) text =
    elim (field_of most end text) [
      | malformed ↦ none
      | field v rest ↦ elim (values_of most ends rest) [ none ↦ none | some values ↦ some (v ∷ values) ]
    ]

-- what a text is read as: a side and its numbers; or the number of a refusal, 7 where it does not fit the grammar
pub data Reading : Type 0 where
  accepted : ℕ → List ℕ → Reading
  rejected : ℕ → Reading

-- the bytes behind the greys of a map: N lines of N
abbrev pub map_ends : ℕ → List ℕ
map_ends side = repeated side (line_ends side)

-- the numbers behind a first line, with these ends: one above 255 does not fit (S 6.2)
unfoldable pub read_numbers : ℕ → List ℕ → List ℕ → Reading
read_numbers side ends text = elim (values_of 255 ends text) [ none ↦ rejected 7 | some values ↦ accepted side values ]

-- The reader of texts that begin with a line of the side: 7 if that isn't a number of one to three digits and byte 10,
-- then 1, then 2 for a greys buffer of `room` places, then 7 for the rest (S 6.4). `ends_of` has the bytes behind the
-- numbers that a side asks for.
unfoldable pub read_text : (ℕ → List ℕ) → List ℕ → ℕ → Reading
read_text ends_of text room =
    elim (field_of 999 newline text) [
      | malformed ↦ rejected 7
      | field side rest ↦
          let r = power_of side in
          elim (greys_refusal r room) [ zero ↦ read_numbers side (ends_of side) rest | suc n ↦ rejected (suc n) ]
    ]

-- a map's text by the grammar (S 6.2)
abbrev pub read_map : List ℕ → ℕ → Reading
read_map text room = read_text map_ends text room

-- Map Text's own reader: by the grammar, as `read_map` does, and then no grey may be above 240 (S 9.1)
unfoldable pub read_low : List ℕ → ℕ → Reading
read_low text room =
    elim (read_map text room) [
      | rejected n ↦ rejected n
      | accepted side greys ↦ elim (none_high greys) [ true ↦ accepted side greys | false ↦ rejected 12 ]
    ]

-- the whole call: the side, and the N² greys in front of what the buffer has behind them; a refusal leaves it whole
-- (S 9.1, S 2.9)
unfoldable pub map_text_of : List ℕ → List ℕ → GreysOutcome
map_text_of text greys =
    elim (read_low text (length greys)) [
      | accepted side values ↦ record { said = returned (side ∷ []); greys = values ++ drop (length values) greys }
      | rejected n ↦ record { said = refused n; greys = greys }
    ]
