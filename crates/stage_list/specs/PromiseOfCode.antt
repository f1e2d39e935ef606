-- The promise of names in code: `Promised`, of what the caller holds after Load and a list of calls
-- (`promise_of_code`).
use Rattle.std.specs.Prelude.{◌≡◌, List, ℕ, ℤ}
use Rattle.definition.specs.Blocks.{grey_total}
use Rattle.definition.specs.Refusals.{power_of}
use Rattle.definition.specs.Stages.{
  Action,
  Caller,
  caller_at_first,
  caller_after_all,
  answers_of,
  memory_at_first,
  memory_after_all,
  model_answers,
}
use Rattle.guarantee.specs.PriceList.{Accepted}
use Rattle.stages.specs.Promise.{StagesHold, NamesHold}
use Rattle.stages.proofs.Theorem.{names_hold}

-- What the caller holds after Load and a list of calls; and, if Load accepts, the promise of names of it.
pub record Promised (side knit : ℕ) (g : List ℕ) (p : List ℤ) (s o : List ℕ)
    (actions : List Action) (caller : Caller) : Type 0 where
  pub caller_is : caller ≡ caller_after_all g (caller_at_first side knit g p s o) actions
  pub promise : Accepted side knit g p s o
      → StagesHold knit (power_of side) (grey_total (power_of side) g) g p s o actions
      (caller_at_first side knit g p s o) caller (answers_of g (caller_at_first side knit g p s o) actions)
      (memory_after_all knit (power_of side) (memory_at_first (power_of side) g) actions)
      (model_answers knit (power_of side) (memory_at_first (power_of side) g) actions)

pub promised : (side knit : ℕ) (g : List ℕ) (p : List ℤ) (s o : List ℕ)
    (actions : List Action) (caller : Caller)
    → caller ≡ caller_after_all g (caller_at_first side knit g p s o) actions
    → Promised side knit g p s o actions caller
promised side knit g p s o actions caller e =
    record { caller_is = e; promise = λ accepted. rw e (names_hold side knit g p s o accepted actions) }

-- By its fields: the promise of names, of the very list of calls that was made (S 15.9).
pub promise_of_code : {side knit : ℕ} {g : List ℕ} {p : List ℤ} {s o : List ℕ}
    {actions : List Action} {caller : Caller}
    → Promised side knit g p s o actions caller → Accepted side knit g p s o → NamesHold side knit g p s o actions
promise_of_code k accepted = rw k.caller_is at (k.promise accepted)
