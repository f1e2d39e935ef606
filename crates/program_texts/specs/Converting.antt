-- What `convert` prints, by what Lower Text has answered on a buffer of 65,536 greys and an output with room for the
-- longest map text: the converted text, or the line of the refusal (`convert_answered`).
use Rattle.std.specs.Prelude.{◌≡◌, refl, List, [], ◌∷◌, ◌++◌, ℕ, ◌*◌, ◌≤◌, drop, Result, Ok, Err}
use Rattle.std.proofs.Math.Path.{sym, ap}
use Rattle.std.proofs.Common.{◌∙◌, arith}
use Rattle.std.proofs.Math.Nat.{suc-ne-zero}
use Rattle.std.proofs.Math.ListN.{length}
use Rattle.definition.specs.Answers.{returned, refused, value_says, number_of}
use Rattle.definition.specs.Lowering.{lowered}
use Rattle.definition.specs.MapText.{map_text, Reading, accepted, rejected, read_map}
use Rattle.definition.specs.LowerText.{LowerTextOutcome, text_kept, lower_text_of}
use Rattle.definition.specs.Plate.{refused_text}
use Rattle.definition.specs.Convert.{convert_of}
use Rattle.definition.specs.declared.Refusal.{Refusal}
use Rattle.refusals.specs.Powers.{side_positive, side_most}
use Rattle.grammar.specs.Grammar.{MapOf}
use Rattle.grammar.proofs.Grammar.{grammar}
use Rattle.grammar.proofs.LowerText.{lowered_as_long, lower_text_outcome}
use Rattle.decimals.specs.Writing.{length_decimal}
use Rattle.decimals.specs.Printed.{Printed}
use Rattle.program_texts.specs.Promised.{Answered}
use Rattle.map_text.specs.Written.{MapLent, map_length}

-- the longest map text
text_most : {text : List ℕ} {side : ℕ} {values : List ℕ} → MapOf text 65536 side values → length text ≤ 262148
text_most {text} {side} {values} m =
    let lent : MapLent side (length values) = record {
      some_side = side_positive side m.one_of_eight;
      most = side_most side m.one_of_eight;
      whole = m.count;
    } in
    rw m.bytes
    (omega (
      arith,
      map_length values lent m.small,
      length_decimal 3 side (omega arith) (omega (arith, side_most side m.one_of_eight)),
      m.count,
      m.fits,
    ))

module _ (input buffer before : List ℕ) (whole : length buffer ≡ 65536) (room : 262148 ≤ length before)
    {held after : List ℕ} (a : Result ℕ Refusal)
    (promise : record { said = value_says a; greys = held; output = after } ≡ lower_text_of input buffer before) where
  -- a text that the grammar has
  module _ {side : ℕ} {values : List ℕ} (q : read_map input 65536 ≡ accepted side values) where
    map_of : MapOf input (length buffer) side values
    map_of = rw whole ((grammar input 65536 side values).0 q)

    left : ◌≡◌ {A = LowerTextOutcome} (record { said = value_says a; greys = held; output = after })
        (record {
          said = returned (length input ∷ []);
          greys = lowered values ++ drop (side * side) buffer;
          output = map_text side (lowered values) ++ drop (length input) before;
        })
    left =
        promise
        ∙ lower_text_outcome input buffer before side values map_of
        (omega (arith, text_most ((grammar input 65536 side values).0 q)))

    is_text : convert_of input ≡ map_text side (lowered values)
    unfolding convert_of
    is_text = rw (q, convert_of)

    length_printed : {n : ℕ} → a ≡ Ok n → Printed (convert_of input) before n after
    unfolding value_says
    length_printed {n} e =
        let said : value_says (Ok n) ≡ returned (length input ∷ []) =
        ap value_says (sym e) ∙ ap (λ (o : LowerTextOutcome). o.said) left in
        let n_is : n ≡ length input = cc in
        let as_long = lowered_as_long map_of in
        rw is_text
        (record {
          room = omega (arith, as_long, text_most ((grammar input 65536 side values).0 q));
          count = n_is ∙ sym as_long;
          written = rw as_long (ap (λ (o : LowerTextOutcome). o.output) left);
        })

    not_refused : {why : Refusal} → a ≡ Err why → ⊥
    unfolding value_says
    not_refused e = suc-ne-zero 0 (cc (ap value_says (sym e) ∙ ap (λ (o : LowerTextOutcome). o.said) left))

  -- a text that it hasn't
  module _ {k : ℕ} (q : read_map input 65536 ≡ rejected k) where
    kept : ◌≡◌ {A = LowerTextOutcome} (record { said = value_says a; greys = held; output = after })
        (record { said = refused k; greys = buffer; output = before })
    unfolding lower_text_of text_kept
    kept = promise ∙ rw (whole, q, lower_text_of)

    not_converted : {n : ℕ} → a ≡ Ok n → ⊥
    unfolding value_says
    not_converted e = suc-ne-zero 0 (cc (ap value_says (sym e) ∙ ap (λ (o : LowerTextOutcome). o.said) kept))

    refusal_left : {why : Refusal} → a ≡ Err why
        → (convert_of input ≡ refused_text (number_of why)) × (after ≡ before)
    unfolding value_says convert_of
    refusal_left {why} e =
        let said : refused (number_of why) ≡ refused k =
        ap value_says (sym e) ∙ ap (λ (o : LowerTextOutcome). o.said) kept in
        let k_is : number_of why ≡ k = cc in
        (rw (q, convert_of, k_is), ap (λ (o : LowerTextOutcome). o.output) kept)

-- an answer that keeps the call's promise
pub convert_answered : (input buffer before : List ℕ) → length buffer ≡ 65536 → 262148 ≤ length before
    → {held after : List ℕ} (a : Result ℕ Refusal)
    → record { said = value_says a; greys = held; output = after } ≡ lower_text_of input buffer before
    → Answered (convert_of input) before a after
unfolding Answered
convert_answered input buffer before whole room {after = after} (Ok n) promise = go (read_map input 65536) refl
  where
    go : (o : Reading) → read_map input 65536 ≡ o → Printed (convert_of input) before n after
    go (accepted side values) q = length_printed input buffer before whole room (Ok n) promise q refl
    go (rejected k) q = absurd (not_converted input buffer before whole room (Ok n) promise q refl)
convert_answered input buffer before whole room {after = after} (Err why) promise = go (read_map input 65536) refl
  where
    go : (o : Reading) → read_map input 65536 ≡ o
        → (convert_of input ≡ refused_text (number_of why)) × (after ≡ before)
    go (accepted side values) q = absurd (not_refused input buffer before whole room (Err why) promise q refl)
    go (rejected k) q = refusal_left input buffer before whole room (Err why) promise q refl
