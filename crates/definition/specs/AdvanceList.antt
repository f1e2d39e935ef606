-- Lists of Advance calls after an accepted Load (`call_of`, `held_after_calls`, `replies_of`), and the model fed with
-- them (`model_call`, `model_after_calls`, `model_replies`). All calls are on the same buffers, which nothing else
-- writes, and each has the record of the call before it: so no record of another side comes in between.
use Rattle.std.specs.Prelude.{Bool, true, false, List, [], ◌∷◌, ◌++◌, map, ℕ, zero, suc, ◌+◌, ◌-◌, ◌^◌, take, drop, ℤ}
use Rattle.definition.specs.Answers.{Said, returned, finished, more, comparison, refused}
use Rattle.definition.specs.Diffusion.{kernel_of}
use Rattle.definition.specs.Model.{Halftone, top_of, steps}
use Rattle.definition.specs.Refusals.{pyramid_short, sheet_short, lowest}
use Rattle.definition.specs.Advance.{Reply, AdvanceOutcome, said_at}
use Rattle.definition.specs.ByQuarters.{load_by_quarters, advance_by_quarters}
use Rattle.definition.specs.declared.Progress.{Progress}

-- An Advance call of a list: its budget, and how many places of each buffer it is lent, from the first on (the whole
-- buffer, if that is shorter) (S 15.2).
pub record Call : Type 0 where
  pub budget : ℕ
  pub pyramid_lent : ℕ
  pub serials_lent : ℕ
  pub order_lent : ℕ

-- what the caller holds between two calls: the record that was answered last, and the buffers, whole
pub record Held : Type 0 where
  pub progress : Progress
  pub pyramid : List ℤ
  pub serials : List ℕ
  pub order : List ℕ

-- after Load (S 7.1)
unfoldable pub held_after_load : ℕ → ℕ → List ℕ → List ℤ → List ℕ → List ℕ → Held
held_after_load side knit greys pyramid serials order =
    let out = load_by_quarters side knit greys pyramid serials order in
    record { progress = out.progress; pyramid = out.pyramid; serials = out.serials; order = out.order }

-- a call on what is held: what was lent comes back in front of what wasn't (S 15.2)
unfoldable pub call_of : Held → Call → AdvanceOutcome
call_of held call =
    let out = advance_by_quarters held.progress call.budget
    (take call.pyramid_lent held.pyramid) (take call.serials_lent held.serials)
    (take call.order_lent held.order) in
    record {
      reply = out.reply;
      pyramid = out.pyramid ++ drop call.pyramid_lent held.pyramid;
      serials = out.serials ++ drop call.serials_lent held.serials;
      order = out.order ++ drop call.order_lent held.order;
    }

-- what is held after it
unfoldable pub held_after : AdvanceOutcome → Held
held_after out =
    record { progress = out.reply.progress; pyramid = out.pyramid; serials = out.serials; order = out.order }

-- a list of calls: the outcome of each, what the caller holds after all of them, and what they answered (S 15.2)
unfoldable pub outcomes_of : Held → List Call → List AdvanceOutcome
outcomes_of held [] = []
outcomes_of held (call ∷ calls) = let out = call_of held call in out ∷ outcomes_of (held_after out) calls

unfoldable pub held_after_calls : Held → List Call → Held
held_after_calls held [] = held
held_after_calls held (call ∷ calls) = held_after_calls (held_after (call_of held call)) calls

unfoldable pub replies_of : Held → List Call → List Reply
replies_of held calls = map (λ out. out.reply) (outcomes_of held calls)

-- The model refuses a call that is lent too little, with 3 or 4 (S 15.2); 0 where all are long enough.
unfoldable pub model_refusal : ℕ → Call → ℕ
model_refusal r call =
    lowest (pyramid_short r call.pyramid_lent ∷ sheet_short r call.serials_lent ∷ sheet_short r call.order_lent ∷ [])

-- A call that is lent enough makes a step for each unit of its budget, with the weights of the knit that the map was
-- loaded for; one that is refused makes none (S 3.9, S 15.2).
unfoldable pub model_call : ℕ → ℕ → Halftone → Call → Halftone
model_call knit r s call = elim (model_refusal r call) [ zero ↦ steps (kernel_of knit) r call.budget s | suc n ↦ s ]

-- It answers by how many the dots have risen, and says what goes with the top that it leaves, or the number; the record
-- has the side, the dots and the knit (S 7.3, S 15.2).
unfoldable pub model_reply : ℕ → ℕ → Halftone → Call → Reply
model_reply knit r s call =
    let after = model_call knit r s call in
    record {
      progress = record { side = 2 ^ r; dots = after.dots; knit = knit };
      made = after.dots - s.dots;
      said = elim (model_refusal r call) [ zero ↦ said_at (top_of after.pyramid) | suc n ↦ refused (suc n) ];
    }

-- a list of calls: the model's sheet after all of them, and what it answered (S 15.2)
unfoldable pub model_after_calls : ℕ → ℕ → Halftone → List Call → Halftone
model_after_calls knit r s [] = s
model_after_calls knit r s (call ∷ calls) = model_after_calls knit r (model_call knit r s call) calls

unfoldable pub model_replies : ℕ → ℕ → Halftone → List Call → List Reply
model_replies knit r s [] = []
model_replies knit r s (call ∷ calls) = model_reply knit r s call
    ∷ model_replies knit r (model_call knit r s call) calls

-- whether a call was refused, by what it said
unfoldable pub is_refusal : Said → Bool
is_refusal (returned values) = false
is_refusal finished = false
is_refusal more = false
is_refusal (comparison c) = false
is_refusal (refused n) = true

-- the sum of the budgets of the calls that were not refused (S 15.3)
unfoldable pub granted : List Call → List Reply → ℕ
granted [] replies = 0
granted (call ∷ calls) [] = 0
granted (call ∷ calls) (reply ∷ replies) =
    elim (is_refusal reply.said) [ true ↦ 0 | false ↦ call.budget ] + granted calls replies
