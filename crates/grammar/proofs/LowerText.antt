-- What Lower Text makes of a text: the one text of the lowered greys (`converted`). It is read back as these
-- (`reads_lowered`), is the text itself if no grey was too high (`copied_if_low`), is just as long in any case
-- (`lowered_as_long`), and stays when converted again (`once_is_enough`).
use Rattle.std.specs.Prelude.{◌≡◌, refl, true, List, [], ◌∷◌, ◌++◌, ℕ, suc, ◌*◌, ◌/◌, ◌≤◌, ◌<◌, min, length, take, drop}
use Rattle.std.proofs.Common.{sym, ap, ◌∙◌, suc-ne-zero, arith, length-append, take_at, drop_at}
use Rattle.std.proofs.Math.Decide.{dec_le}
use borrow.Author.Tests.{lt-ltb, le-ltb}
use Rattle.definition.specs.Lists.{repeated}
use Rattle.definition.specs.Answers.{returned, refused}
use Rattle.definition.specs.Lowering.{none_high, lowered}
use Rattle.definition.specs.Refusals.{lowest}
use Rattle.definition.specs.Text.{newline, decimal, line_ends}
use Rattle.definition.specs.MapText.{map_text, Reading, accepted, rejected, read_map, map_text_of}
use Rattle.definition.specs.LowerText.{LowerTextOutcome, text_kept, text_lowered, lower_text_of}
use Rattle.refusals.specs.Powers.{side_positive}
use Rattle.lowering.specs.Low.{low_at, lowered_length, lowered_low, lowered_same, lowered_twice}
use Rattle.grammar.specs.Decimal.{decimal_below_ten, decimal_from_ten}
use Rattle.grammar.specs.Lines.{AtMost, fields_text}
use Rattle.grammar.specs.Grammar.{MapOf}
use Rattle.grammar.proofs.Grammar.{grammar, map_text_fields}
use Rattle.grammar.specs.MapText.{LowMapOf}
use Rattle.grammar.proofs.MapText.{map_text_outcome}
use Rattle.grammar.specs.LowerText.{Converted}

-- ---- 241 to 255 have three digits, as 240 has
three_digits : (v : ℕ) → 100 ≤ v → v < 1000 → length (decimal v) ≡ 3
three_digits v h k =
    rw (
      decimal_from_ten v (omega arith),
      decimal_from_ten (v / 10) (omega arith),
      decimal_below_ten (v / 10 / 10) (omega arith),
    )

as_many_digits : (v : ℕ) → v ≤ 255 → length (decimal (min v 240)) ≡ length (decimal v)
as_many_digits v h =
    elim (dec_le v 240) [
      | yes low ↦ ap (λ (n : ℕ). length (decimal n)) (omega arith)
      | no high ↦
          three_digits (min v 240) (omega arith) (omega arith) ∙ sym (three_digits v (omega arith) (omega arith))
    ]

fields_as_long : (values ends : List ℕ) → AtMost 255 values
    → length (fields_text (lowered values) ends) ≡ length (fields_text values ends)
unfolding fields_text lowered
fields_as_long [] ends h = refl
fields_as_long (v ∷ values) [] h = refl
fields_as_long (v ∷ values) (end ∷ ends) h =
    omega (
      arith,
      length-append (decimal (min v 240)) (end ∷ fields_text (lowered values) ends),
      length-append (decimal v) (end ∷ fields_text values ends),
      as_many_digits v (h 0 (omega arith)),
      fields_as_long values ends (λ i k. h (suc i) (omega arith)),
    )

-- ---- the lowered greys of a text
module _ {text : List ℕ} {room side : ℕ} {values : List ℕ} (m : MapOf text room side values) where
  pub lowered_count : length (lowered values) ≡ side * side
  lowered_count = lowered_length values ∙ m.count

  -- the text that is written is as long as the one that was read (S 9.2)
  pub lowered_as_long : length (map_text side (lowered values)) ≡ length text
  lowered_as_long =
      let p = side_positive side m.one_of_eight in
      let ends = repeated side (line_ends side) in
      ap length (map_text_fields side (lowered values) p lowered_count)
      ∙ omega (
        arith,
        length-append (decimal side) (newline ∷ fields_text (lowered values) ends),
        length-append (decimal side) (newline ∷ fields_text values ends),
        fields_as_long values ends m.small,
      )
      ∙ sym (ap length (m.bytes ∙ map_text_fields side values p m.count))

  -- their text is one that Map Text takes, wherever they fit
  lowered_map : (room' : ℕ) → side * side ≤ room'
      → LowMapOf (map_text side (lowered values)) room' side (lowered values)
  lowered_map room' h =
      let low = low_at (lowered values) (lowered_low values) in
      record {
        map = record {
          bytes = refl;
          one_of_eight = m.one_of_eight;
          count = lowered_count;
          small = λ i k. omega (arith, low i k);
          fits = h;
        };
        low = low;
      }

-- ---- the call, on a text of the grammar
module _ (text greys output : List ℕ) (side : ℕ) (values : List ℕ) (m : MapOf text (length greys) side values) where
  -- what the call answers and leaves (S 9.2)
  pub lower_text_outcome : length text ≤ length output
      → lower_text_of text greys output
      ≡ record {
        said = returned (length text ∷ []);
        greys = lowered values ++ drop (side * side) greys;
        output = map_text side (lowered values) ++ drop (length text) output;
      }
  unfolding lower_text_of text_lowered lowest
  lower_text_outcome h =
      let room = le-ltb (length output) (length (map_text side (lowered values))) (omega (arith, lowered_as_long m)) in
      rw ((grammar text (length greys) side values).1 m, room, lower_text_of, lowered_as_long m, lowered_count m)

  pub lower_text_short : length output < length text → lower_text_of text greys output ≡ text_kept 8 greys output
  unfolding lower_text_of lowest
  lower_text_short h =
      let short = lt-ltb (length output) (length (map_text side (lowered values))) (omega (arith, lowered_as_long m)) in
      rw ((grammar text (length greys) side values).1 m, short, lower_text_of)

-- the converted text, read back and converted again
module _ {text : List ℕ} {room side : ℕ} {values : List ℕ} (m : MapOf text room side values) where
  lowered_read : (buffer : List ℕ) → side * side ≤ length buffer
      → map_text_of (map_text side (lowered values)) buffer
      ≡ record {
        said = returned (side ∷ []);
        greys = lowered values ++ drop (side * side) buffer;
      }
  lowered_read buffer h =
      map_text_outcome (map_text side (lowered values)) buffer side (lowered values) (lowered_map m (length buffer) h)

  lowered_again : (buffer other : List ℕ) → side * side ≤ length buffer → length text ≤ length other
      → lower_text_of (map_text side (lowered values)) buffer other
      ≡ record {
        said = returned (length text ∷ []);
        greys = lowered values ++ drop (side * side) buffer;
        output = map_text side (lowered values) ++ drop (length text) other;
      }
  lowered_again buffer other h k =
      let low = map_text side (lowered values) in
      let map_of = (lowered_map m (length buffer) h).map in
      let room : length low ≤ length other = omega (arith, lowered_as_long m) in
      rw (lowered_twice values, lowered_as_long m)
      at (lower_text_outcome low buffer other side (lowered values) map_of room)

module _ (text greys output : List ℕ) (side : ℕ) (values : List ℕ) (m : MapOf text (length greys) side values) where
  is_converted : length text ≤ length output
      → Converted text greys output (length text) (lower_text_of text greys output)
  is_converted h =
      let n = length text in
      let low = map_text side (lowered values) in
      let taken : take n (low ++ drop n output) ≡ low = take_at low (drop n output) n (lowered_as_long m) in
      rw (lower_text_outcome text greys output side values m h)
      (record {
        side = side;
        values = values;
        map_of = m;
        greys_are = refl;
        text_is = taken;
        rest = drop_at low (drop n output) n (lowered_as_long m);
        as_long = refl;
        reads_back = λ buffer k. rw taken (lowered_read m buffer k);
        copied = λ e. taken ∙ ap (map_text side) (lowered_same values e) ∙ sym m.bytes;
        twice = λ buffer other k l. rw taken (lowered_again m buffer other k l);
      })

-- all that is promised of a converted text (S 15.10)
pub converted : (text greys output : List ℕ) (n : ℕ) → (lower_text_of text greys output).said ≡ returned (n ∷ [])
    → Converted text greys output n (lower_text_of text greys output)
unfolding lower_text_of text_kept
converted text greys output n e = go (read_map text (length greys)) refl
  where
    refused_not : (k : ℕ) → refused k ≡ returned (n ∷ []) → ⊥
    refused_not k f = suc-ne-zero 0 (cc)

    go : (o : Reading) → read_map text (length greys) ≡ o
        → Converted text greys output n (lower_text_of text greys output)
    go (rejected k) q = absurd (refused_not k (rw (q, lower_text_of) at e))
    go (accepted side values) q =
        let m = (grammar text (length greys) side values).0 q in
        elim (dec_le (length text) (length output)) [
          | no short ↦
              absurd (refused_not 8 (rw (lower_text_short text greys output side values m (omega arith)) at e))
          | yes h ↦
              let n_is : length text ≡ n = cc (rw (lower_text_outcome text greys output side values m h) at e) in
              rw n_is at (is_converted text greys output side values m h)
        ]

-- ---- the request's sentences, each by itself: of a call that returned n, whose text was that of these greys
module _ (text greys output : List ℕ) (n : ℕ) (said : (lower_text_of text greys output).said ≡ returned (n ∷ [])) where
  abbrev c : Converted text greys output n (lower_text_of text greys output)
  c = converted text greys output n said

  abbrev made : List ℕ
  made = take n (lower_text_of text greys output).output

  pub was_read : read_map text (length greys) ≡ accepted c.side c.values
  was_read = (grammar text (length greys) c.side c.values).1 c.map_of

  pub greys_lowered : (lower_text_of text greys output).greys
      ≡ lowered c.values ++ drop (c.side * c.side) greys
  greys_lowered = c.greys_are

  pub one_text : made ≡ map_text c.side (lowered c.values)
  one_text = c.text_is

  pub rest_stays : drop n (lower_text_of text greys output).output ≡ drop n output
  rest_stays = c.rest

  pub never_longer : n ≤ length text
  never_longer = omega (arith, c.as_long)

  -- it is read back as the lowered greys (S 15.10)
  pub reads_lowered : (buffer : List ℕ) → c.side * c.side ≤ length buffer → map_text_of made buffer
      ≡ record { said = returned (c.side ∷ []); greys = lowered c.values ++ drop (c.side * c.side) buffer }
  reads_lowered = c.reads_back

  -- it is the same text if none was too high (S 15.10)
  pub copied_if_low : none_high c.values ≡ true → made ≡ text
  copied_if_low = c.copied

  -- it stays when lowered again (S 15.10)
  pub once_is_enough : (buffer other : List ℕ) → c.side * c.side ≤ length buffer → n ≤ length other
      → (lower_text_of made buffer other).output ≡ made ++ drop n other
  once_is_enough buffer other h k = ap (λ (o : LowerTextOutcome). o.output) (c.twice buffer other h k)
