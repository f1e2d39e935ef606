-- What Map Text takes: a text of the grammar that has no grey above 240 (`read_low_iff`). On such a text, and on no
-- other, the call returns the map's side and leaves its greys (`map_text_returned_iff`, `map_text_outcome`).
use Rattle.std.specs.Prelude.{◌≡◌, refl, Bool, true, false, List, [], ◌∷◌, ◌++◌, ◌↔◌, ℕ, ◌*◌, length, drop}
use Rattle.std.proofs.Common.{sym, ap, ap₂, ◌∙◌, suc-ne-zero, arith}
use Rattle.std.proofs.Math.Option.{some}
use Rattle.definition.specs.Answers.{GreysOutcome, returned}
use Rattle.definition.specs.Lowering.{none_high}
use Rattle.definition.specs.MapText.{values_of, Reading, accepted, rejected, read_map, read_low, map_text_of}
use Rattle.lowering.specs.Low.{low_at, at_low}
use Rattle.grammar.specs.Lines.{NoDigits, values_within}
use Rattle.grammar.proofs.Grammar.{grammar}
use Rattle.grammar.specs.MapText.{LowMapOf}

-- Map Text reads a text just if it is that of a map that fits and is low (S 15.10)
pub read_low_iff : (text : List ℕ) (room side : ℕ) (greys : List ℕ)
    → (read_low text room ≡ accepted side greys) ↔ LowMapOf text room side greys
unfolding read_low
read_low_iff text room side greys = (
  λ e. from (read_map text room) refl e,
  λ m.
      let low = at_low greys (λ i h. omega (arith, m.low i h)) in
      rw ((grammar text room side greys).1 m.map, low, read_low),
)
  where
    from : (o : Reading) → read_map text room ≡ o → read_low text room ≡ accepted side greys
        → LowMapOf text room side greys
    from (rejected n) q e = absurd (suc-ne-zero 0 (cc (rw (q, read_low) at e)))
    from (accepted n values) q e = low (none_high values) refl
      where
        low : (b : Bool) → none_high values ≡ b → LowMapOf text room side greys
        low false f = absurd (suc-ne-zero 0 (cc (rw (q, f, read_low) at e)))
        low true f =
            let a = rw (q, f, read_low) at e in
            let n_is : n ≡ side = cc in
            let values_is : values ≡ greys = cc in
            record {
              map = (grammar text room side greys).0 (q ∙ ap₂ accepted n_is values_is);
              low = λ i h. omega (arith, low_at greys (ap none_high (sym values_is) ∙ f) i h);
            }

-- the call returns the side, and leaves the greys with the rest of the buffer behind them (S 9.1)
pub map_text_outcome : (text buffer : List ℕ) (side : ℕ) (greys : List ℕ) → LowMapOf text (length buffer) side greys
    → map_text_of text buffer ≡ record { said = returned (side ∷ []); greys = greys ++ drop (side * side) buffer }
unfolding map_text_of
map_text_outcome text buffer side greys m =
    rw (← m.map.count, (read_low_iff text (length buffer) side greys).1 m, map_text_of)

-- and on no other text does it return a side
pub map_text_returned_iff : (text buffer : List ℕ) (side : ℕ)
    → ((map_text_of text buffer).said ≡ returned (side ∷ []))
    ↔ ((greys : List ℕ) × LowMapOf text (length buffer) side greys)
unfolding map_text_of
map_text_returned_iff text buffer side = (
  λ e.
      (elim (read_low text (length buffer))
      as (λ o. read_low text (length buffer) ≡ o → (greys : List ℕ) × LowMapOf text (length buffer) side greys) [
        | accepted n greys ↦
            λ q.
            let n_is : n ≡ side = cc (rw (q, map_text_of) at e) in
            (greys, (read_low_iff text (length buffer) side greys).0 (rw n_is at q))
        | rejected n ↦ λ q. absurd (suc-ne-zero 0 (cc (rw (q, map_text_of) at e)))
      ]) refl,
  λ m. ap (λ (o : GreysOutcome). o.said) (map_text_outcome text buffer side m.0 m.1),
)

-- read with the bound 240, a text has the numbers that the grammar reads, where none of them is too high
pub values_low : (ends text values : List ℕ) → NoDigits ends
    → (values_of 240 ends text ≡ some values) ↔ ((values_of 255 ends text ≡ some values) × (none_high values ≡ true))
values_low ends text values n =
    let within = values_within 240 255 (omega arith) (omega arith) ends text values n in (
      λ e. let r = within.0 e in (r.0, at_low values r.1),
      λ r. within.1 (r.0, low_at values r.1),
    )
