-- The two ways out of the sample: refused, with nothing changed (`refused_is`), and filled (`sampled_is`).
use Rattle.std.specs.Prelude.{◌≡◌, ◌++◌, List, length, drop, Result, Ok, Err}
use Prim.Native.Nat.{ℕ, suc, ◌-◌, ◌≤◌}
use Rattle.std.proofs.Common.{arith, take, length-take}
use Rattle.definition.specs.Answers.{value_says, number_of}
use Rattle.definition.specs.Pyramid.{cell_count}
use Rattle.definition.specs.Refusals.{power_of, greys_refusal}
use Rattle.definition.specs.Sample.{sample_of, sample_greys, state_after}
use Rattle.definition.specs.declared.Refusal.{Refusal}
use Rattle.refusals.specs.Lowest.{greys_none}
use Rattle.refusals.specs.Numbers.{number_positive}
use Rattle.checks.specs.Checks.{checked, passed_none, failed_number}
use Rattle.sample_runs.proofs.InTurn.{accepted_is}

module _ (seed side : ℕ) {r : ℕ} (er : r ≡ power_of side) (greys : List ℕ) where
  pub refused_is : (why : Refusal) {a : Result ℕ Refusal} → checked (Err why) ≡ greys_refusal r (length greys)
      → a ≡ Err why
      → record { said = value_says a; greys = greys } ≡ sample_of seed side greys
  unfolding sample_of value_says
  refused_is why e ea =
      let n : greys_refusal (power_of side) (length greys)
      ≡ suc (number_of why - 1) = rw (← er) (failed_number why e) in
      rw (ea, n, sample_of, ← number_positive why)

  module _ (e : checked (Ok tt) ≡ greys_refusal r (length greys)) {cells : ℕ} (ec : cells ≡ cell_count r) where
    none : greys_refusal (power_of side) (length greys) ≡ 0
    none = rw (← er) (passed_none e)

    pub room : cells ≤ length greys
    room = omega (arith, ec, (greys_none r (length greys)).0 (passed_none e))

    pub front_length : cells ≡ length (take cells greys)
    front_length = omega (arith, length-take cells greys, room)

    pub sampled_is : {state : ℕ} {front : List ℕ} → state ≡ state_after (length (take cells greys)) seed
        → front ≡ sample_greys (length (take cells greys)) seed
        → record { said = value_says (Ok state); greys = front ++ drop cells greys } ≡ sample_of seed side greys
    unfolding value_says
    sampled_is reached stored = rw (reached, stored, ← front_length, ec, er, accepted_is seed side greys none)
