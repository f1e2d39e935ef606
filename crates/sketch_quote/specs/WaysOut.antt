-- The ways out of Sketch Quote: a first line that is refused (`first_refused`), a sketch that is (`sketch_refused`),
-- and one stored with its figures (`sketch_quoted_lem`).
use Rattle.std.specs.Prelude.{◌≡◌, refl, true, List, ◌++◌, ℕ, suc, ◌*◌, ◌-◌, ◌^◌, ◌≤◌, ◌<◌, min, length, take, drop}
use Rattle.std.specs.Prelude.{Bool, Result, Ok, Err}
use Rattle.std.specs.Prelude as Std
use Rattle.std.proofs.Math.Path.{sym}
use Rattle.std.proofs.Common.{ap, ◌∙◌, arith, suc-ne-zero, take_at}
use Rattle.std.proofs.Math.Option.{Option, some, none}
use Rattle.definition.specs.Answers.{sketch_says, number_of}
use Rattle.definition.specs.Blocks.{grey_total, total_of}
use Rattle.definition.specs.Lowering.{none_high}
use Rattle.definition.specs.Refusals.{power_of}
use Rattle.definition.specs.MapText.{values_of, accepted, rejected, read_numbers, read_text}
use Rattle.definition.specs.SketchQuote.{
  sketch_ends,
  lows_of,
  highs_of,
  caps_of,
  sketch_kept,
  sketch_quoted,
  sketch_refusal,
  sketch_quote_of,
}
use Rattle.definition.specs.declared.Refusal.{Refusal}
use Rattle.definition.specs.declared.SketchAnswer.{SketchAnswer}
use Rattle.refusals.specs.Numbers.{number_positive}
use Rattle.refusals.specs.Powers.{power_of_small, cell_count_side}
use Rattle.grammar.specs.Lines.{repeated_line_ends_no_digits}
use Rattle.grammar.proofs.MapText.{values_low}
use Rattle.grammar.specs.Sketch.{Apart}
use Rattle.grammar.proofs.Sketch.{read_apart, sketch_none}
use Rattle.checks.specs.Checks.{checked, passed_none, failed_number}
use Rattle.decimals.specs.Writing.{sets_front}
use Rattle.text_cells.specs.Cells.{CellsRead}
use Rattle.text_cells.specs.Found.{numbers_from, cells_stored}
use Rattle.text_cells.specs.FirstLine.{GoodSide, LineSays, line_good, line_refused}
use Rattle.text_cells.specs.declared.FirstLine.{FirstLine}
use Rattle.text_cells.specs.Ends.{pairs_sketch}
use Rattle.sketch_quote.specs.Checks.{sketch_check}

-- a map's power and one of its levels, lows and highs for all its cells, and room for the caps
pub record FiguresAsked (r k lows highs caps : ℕ) : Type 0 where
  pub power : 1 ≤ r
  pub powers : r ≤ 8
  pub level : k ≤ r
  pub lows_there : 2 ^ r * 2 ^ r ≤ lows
  pub highs_there : 2 ^ r * 2 ^ r ≤ highs
  pub caps_room : 2 ^ k * 2 ^ k ≤ caps

-- the answer has both totals, and the caps are written
pub record FiguresPut (side r k : ℕ) (lows highs caps : List ℕ) (answer : SketchAnswer) (after : List ℕ) : Type 0 where
  pub says : answer
      ≡ record { side = side; least = total_of (grey_total r lows); greatest = total_of (grey_total r highs) }
  pub written : after ≡ caps_of r highs k ++ drop (2 ^ k * 2 ^ k) caps

-- ---- the first line, refused; `room` is what the code has worked out
module _ (text : List ℕ) (lows highs : List ℕ) {room : ℕ} (e : room ≡ min (length lows) (length highs)) where
  pub first_refused : (k : ℕ) (caps : List ℕ) (why : Refusal) → LineSays text room (Err why)
      → {a : Result SketchAnswer Refusal} → a ≡ Err why
      → record { said = sketch_says a; lows = lows; highs = highs; caps = caps }
      ≡ sketch_quote_of text k lows highs caps
  unfolding sketch_quote_of sketch_kept sketch_says
  first_refused k caps why says ea = rw (ea, ← e, line_refused text room why says sketch_ends, sketch_quote_of)

  -- a good one
  pub first_good : (line : FirstLine) → LineSays text room (Ok line)
      → GoodSide text (min (length lows) (length highs)) line.side line.next
  first_good line says = rw (← e) (line_good text room line says)

-- with the bound 240 the same pairs are read, where none of their numbers is too high
low_again : (text : List ℕ) (from side : ℕ) → 0 < side → (pairs : List ℕ)
    → values_of 255 (sketch_ends side) (drop from text) ≡ some pairs → none_high pairs ≡ true
    → numbers_from text from side true 240 ≡ some pairs
low_again text from side p pairs e low =
    ap (λ (ends : List ℕ). values_of 240 ends (drop from text)) (pairs_sketch side p)
    ∙ (values_low (sketch_ends side) (drop from text) pairs (repeated_line_ends_no_digits (2 * side) side)).1 (e, low)

-- ---- behind a good first line
module _ {text : List ℕ} (k : ℕ) (lows highs caps : List ℕ) {side from : ℕ}
    (good : GoodSide text (min (length lows) (length highs)) side from) where
  abbrev room : ℕ
  room = min (length lows) (length highs)

  read_pairs : (pairs : List ℕ) → values_of 255 (sketch_ends side) (drop from text) ≡ some pairs
      → read_text sketch_ends text room ≡ accepted side pairs
  unfolding read_numbers
  read_pairs pairs v = good.reading sketch_ends ∙ rw (v, read_numbers)

  read_none : values_of 255 (sketch_ends side) (drop from text) ≡ none → read_text sketch_ends text room ≡ rejected 7
  unfolding read_numbers
  read_none v = good.reading sketch_ends ∙ rw (v, read_numbers)

  check_none : (r : ℕ) → values_of 255 (sketch_ends side) (drop from text) ≡ none
      → sketch_check text from side r k (length caps) ≡ 7
  unfolding sketch_check
  check_none r e = rw (e, sketch_check)

  check_pairs : (r : ℕ) (pairs : List ℕ) → values_of 255 (sketch_ends side) (drop from text) ≡ some pairs
      → sketch_check text from side r k (length caps) ≡ sketch_refusal r pairs k (length caps)
  unfolding sketch_check
  check_pairs r pairs e = rw (e, sketch_check)

  -- the outcome where the numbers aren't there, where the pairs are refused, and where they aren't
  none_kept : values_of 255 (sketch_ends side) (drop from text) ≡ none
      → sketch_quote_of text k lows highs caps ≡ sketch_kept 7 lows highs caps
  unfolding sketch_quote_of
  none_kept e = rw (read_none e, sketch_quote_of)

  pairs_kept : (pairs : List ℕ) (n : ℕ) → values_of 255 (sketch_ends side) (drop from text) ≡ some pairs
      → sketch_refusal (power_of side) pairs k (length caps) ≡ suc n
      → sketch_quote_of text k lows highs caps ≡ sketch_kept (suc n) lows highs caps
  unfolding sketch_quote_of
  pairs_kept pairs n e f = rw (read_pairs pairs e, f, sketch_quote_of)

  pairs_quoted : (pairs : List ℕ) → values_of 255 (sketch_ends side) (drop from text) ≡ some pairs
      → sketch_refusal (power_of side) pairs k (length caps) ≡ 0
      → sketch_quote_of text k lows highs caps ≡ sketch_quoted side pairs k lows highs caps
  unfolding sketch_quote_of
  pairs_quoted pairs e f = rw (read_pairs pairs e, f, sketch_quote_of)

  -- what the check says
  module _ {r : ℕ} (er : r ≡ power_of side) where
    abbrev refusal : ℕ
    refusal = sketch_check text from side r k (length caps)

    same_refusal : sketch_check text from side (power_of side) k (length caps) ≡ refusal
    same_refusal = rw er

    kept : (why : Refusal) → checked (Err why) ≡ refusal
        → sketch_quote_of text k lows highs caps ≡ sketch_kept (suc (number_of why - 1)) lows highs caps
    kept why h = go (values_of 255 (sketch_ends side) (drop from text)) refl
      where
        number : sketch_check text from side (power_of side) k (length caps) ≡ suc (number_of why - 1)
        number = same_refusal ∙ failed_number why h

        go : (o : Option (List ℕ)) → values_of 255 (sketch_ends side) (drop from text) ≡ o
            → sketch_quote_of text k lows highs caps ≡ sketch_kept (suc (number_of why - 1)) lows highs caps
        go none e =
            none_kept e
            ∙ ap (λ (n : ℕ). sketch_kept n lows highs caps) (sym (check_none (power_of side) e) ∙ number)
        go (some pairs) e =
            pairs_kept pairs (number_of why - 1) e (sym (check_pairs (power_of side) pairs e) ∙ number)

    pub sketch_refused : (why : Refusal) → checked (Err why) ≡ refusal → {a : Result SketchAnswer Refusal} → a ≡ Err why
        → record { said = sketch_says a; lows = lows; highs = highs; caps = caps }
        ≡ sketch_quote_of text k lows highs caps
    unfolding sketch_kept sketch_says
    sketch_refused why h ea = rw ea (sym (kept why h ∙ rw (← number_positive why)))

    -- the pairs that are there, where nothing is refused
    record There : Type 0 where
      pairs : List ℕ
      read : numbers_from text from side true 240 ≡ some pairs
      apart : Apart (side * side) pairs
      outcome : sketch_quote_of text k lows highs caps ≡ sketch_quoted side pairs k lows highs caps
      level : k ≤ power_of side
      enough : 2 ^ k * 2 ^ k ≤ length caps

    module _ (h : checked (Ok tt) ≡ refusal) where
      there : There
      there = go (values_of 255 (sketch_ends side) (drop from text)) refl
        where
          number : sketch_check text from side (power_of side) k (length caps) ≡ 0
          number = same_refusal ∙ passed_none h

          go : (o : Option (List ℕ)) → values_of 255 (sketch_ends side) (drop from text) ≡ o → There
          go none e = absurd (suc-ne-zero 6 (sym (check_none (power_of side) e) ∙ number))
          go (some pairs) e =
              let none_applies = sym (check_pairs (power_of side) pairs e) ∙ number in
              let p = (sketch_none (power_of side) pairs k (length caps)).0 none_applies in
              record {
                pairs = pairs;
                read = low_again text from side good.some_side pairs e p.low;
                apart = read_apart text room side pairs (read_pairs pairs e);
                outcome = pairs_quoted pairs e none_applies;
                level = p.level;
                enough = p.enough;
              }

      abbrev low : List ℕ
      low = lows_of there.pairs

      abbrev high : List ℕ
      high = highs_of there.pairs

      -- what the run that stores has left
      module _ {all : Std.Option Bool} {lows_after highs_after : List ℕ}
          (stored : CellsRead text from side true 240 lows highs all lows_after highs_after) where
        lows_are : lows_after ≡ low ++ drop (length low) lows
        lows_are =
            (cells_stored stored there.pairs there.read).0
            ∙ sets_front low lows (omega (arith, there.apart.low_length, good.fits))

        highs_are : highs_after ≡ high ++ drop (length high) highs
        highs_are =
            (cells_stored stored there.pairs there.read).1
            ∙ sets_front high highs (omega (arith, there.apart.high_length, good.fits))

        lows_front : take (side * side) lows_after ≡ low
        lows_front = rw lows_are (take_at low (drop (length low) lows) (side * side) there.apart.low_length)

        highs_front : take (side * side) highs_after ≡ high
        highs_front = rw highs_are (take_at high (drop (length high) highs) (side * side) there.apart.high_length)

        pub figures_asked : FiguresAsked r k (length (take (side * side) lows_after))
            (length (take (side * side) highs_after)) (length caps)
        figures_asked =
            let cells = cell_count_side side good.known in
            rw (er, lows_front, highs_front)
            (record {
              power = good.known;
              powers = power_of_small side;
              level = there.level;
              lows_there = omega (arith, there.apart.low_length);
              highs_there = omega (arith, there.apart.high_length);
              caps_room = there.enough;
            })

        pub sketch_quoted_lem : {answer : SketchAnswer} {caps_after : List ℕ}
            → FiguresPut side r k (take (side * side) lows_after) (take (side * side) highs_after) caps answer
            caps_after
            → record { said = sketch_says (Ok answer); lows = lows_after; highs = highs_after; caps = caps_after }
            ≡ sketch_quote_of text k lows highs caps
        unfolding sketch_quoted sketch_says
        sketch_quoted_lem w =
            let at_power = rw er at w in
            let put = rw (lows_front, highs_front) at at_power in
            rw (put.says, put.written, lows_are, highs_are) (sym there.outcome)
