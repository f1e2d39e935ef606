-- The laws of texts for the code. Any answer of Map Text that keeps the call's promise is a side just if the text is
-- that of a map which fits and has no grey above 240 (`accepts_iff`), and its greys are then the map's
-- (`leaves_greys`). Any such answer of Lower Text that is a length has converted the text (`converts`).
use Rattle.std.specs.Prelude.{◌≡◌, List, [], ◌∷◌, ◌++◌, ◌↔◌, ℕ, ◌*◌, length, drop, Result, Ok, Err}
use Rattle.std.proofs.Common.{sym, ◌∙◌, suc-ne-zero}
use Rattle.std.proofs.Math.Path.{ap}
use Rattle.definition.specs.Answers.{GreysOutcome, returned, value_says}
use Rattle.definition.specs.MapText.{map_text_of}
use Rattle.definition.specs.LowerText.{LowerTextOutcome, lower_text_of}
use Rattle.definition.specs.declared.Refusal.{Refusal}
use Rattle.grammar.specs.MapText.{LowMapOf}
use Rattle.grammar.proofs.MapText.{map_text_outcome, map_text_returned_iff}
use Rattle.grammar.specs.LowerText.{Converted}
use Rattle.grammar.proofs.LowerText.{converted}

returned_side : (a : Result ℕ Refusal) (side : ℕ) → value_says a ≡ returned (side ∷ []) → a ≡ Ok side
unfolding value_says
returned_side (Ok n) side e = let n_is : n ≡ side = cc in ap Ok n_is
returned_side (Err why) side e = absurd (suc-ne-zero 0 (cc))

module _ (text buffer after : List ℕ) (a : Result ℕ Refusal)
    (promise : record { said = value_says a; greys = after } ≡ map_text_of text buffer) where
  -- the grammar, of the code's answer (S 15.10)
  pub accepts_iff : (side : ℕ) → (a ≡ Ok side) ↔ ((greys : List ℕ) × LowMapOf text (length buffer) side greys)
  unfolding value_says
  accepts_iff side =
      let said = ap (λ (o : GreysOutcome). o.said) promise in (
        λ e. (map_text_returned_iff text buffer side).0 (sym said ∙ ap value_says e),
        λ m. returned_side a side (said ∙ (map_text_returned_iff text buffer side).1 m),
      )

  pub leaves_greys : (side : ℕ) (greys : List ℕ) → LowMapOf text (length buffer) side greys
      → after ≡ greys ++ drop (side * side) buffer
  leaves_greys side greys m = ap (λ (o : GreysOutcome). o.greys) (promise ∙ map_text_outcome text buffer side greys m)

-- `held` and `written` are what the call has left in the buffers (S 15.10)
pub converts : (text greys output held written : List ℕ) (a : Result ℕ Refusal) (n : ℕ)
    → record { said = value_says a; greys = held; output = written } ≡ lower_text_of text greys output → a ≡ Ok n
    → Converted text greys output n (record { said = value_says a; greys = held; output = written })
unfolding value_says
converts text greys output held written a n promise e =
    let said : (lower_text_of text greys output).said ≡ returned (n ∷ []) =
    sym (ap (λ (o : LowerTextOutcome). o.said) promise) ∙ ap value_says e in
    rw promise (converted text greys output n said)
