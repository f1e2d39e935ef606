-- What a call tells that writes a text or refuses it (`Answered`), by the promise of a call where the definition says
-- which case it is (`text_answered`, `refusal_answered`); and what is then printed (`text_printed`, `line_printed`).
use Rattle.std.specs.Prelude.{◌≡◌, List, [], ◌∷◌, ℕ, suc, ◌≤◌, length, Result, Ok, Err}
use Rattle.std.proofs.Math.Path.{refl, ap}
use Rattle.std.proofs.Math.Nat.{suc-ne-zero}
use Rattle.definition.specs.Answers.{returned, refused, value_says, number_of}
use Rattle.definition.specs.Text.{TextOutcome, text_into}
use Rattle.definition.specs.Plate.{refused_text}
use Rattle.definition.specs.declared.Refusal.{Refusal}
use Rattle.decimals.specs.Printed.{Printed}

-- the text is printed; or it is the line of the refusal, and nothing is written
unfoldable pub Answered : List ℕ → List ℕ → Result ℕ Refusal → List ℕ → Type 0
Answered text before (Ok n) after = Printed text before n after
Answered text before (Err why) after = (text ≡ refused_text (number_of why)) × (after ≡ before)

module _ {text before after : List ℕ} where
  pub printed_answered : {n : ℕ} → Printed text before n after → Answered text before (Ok n) after
  unfolding Answered
  printed_answered w = w

  pub text_printed : {n : ℕ} → Answered text before (Ok n) after → Printed text before n after
  unfolding Answered
  text_printed w = w

  pub line_printed : (why : Refusal) → Answered text before (Err why) after → {n : ℕ} {end : List ℕ}
      → Printed (refused_text (number_of why)) after n end → Printed text before n end
  unfolding Answered
  line_printed why a w = rw (a.0, ← a.1) w

-- another way to say the text
pub answered_as : {text other : List ℕ} (before after : List ℕ) (answer : Result ℕ Refusal) → text ≡ other
    → Answered other before answer after → Answered text before answer after
answered_as before after answer e w = rw e w

pub refused_answered : {text : List ℕ} (before : List ℕ) {why : Refusal} {answer : Result ℕ Refusal}
    → answer ≡ Err why → text ≡ refused_text (number_of why) → Answered text before answer before
unfolding Answered
refused_answered before e t = rw e (t, refl)

module _ (text before after : List ℕ) where
  -- a call that isn't refused
  pub text_answered : (answer : Result ℕ Refusal)
      → record { said = value_says answer; output = after } ≡ text_into 0 text before → length text ≤ length before
      → Answered text before answer after
  unfolding Answered value_says text_into
  text_answered (Ok n) e room =
      let said : returned (n ∷ []) ≡ returned (length text ∷ []) = ap (λ (out : TextOutcome). out.said) e in
      record { room = room; count = cc; written = ap (λ (out : TextOutcome). out.output) e }
  text_answered (Err why) e room = absurd (suc-ne-zero 0 (cc (ap (λ (out : TextOutcome). out.said) e)))

  -- a call that is refused with a number
  pub refusal_answered : (k : ℕ) (answer : Result ℕ Refusal)
      → record { said = value_says answer; output = after } ≡ text_into (suc k) text before
      → {shown : List ℕ} → shown ≡ refused_text (suc k) → Answered shown before answer after
  unfolding Answered value_says text_into
  refusal_answered k (Ok n) e s = absurd (suc-ne-zero 0 (cc (ap (λ (out : TextOutcome). out.said) e)))
  refusal_answered k (Err why) e s =
      let said : refused (number_of why) ≡ refused (suc k) = ap (λ (out : TextOutcome). out.said) e in
      let number : number_of why ≡ suc k = cc in
      (rw (s, number), ap (λ (out : TextOutcome). out.output) e)
