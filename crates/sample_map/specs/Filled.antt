-- What a loop that fills greys by a run of the generator leaves after n turns (`Sampled`, `sampled_more`).
use Rattle.std.specs.Prelude.{◌≡◌, refl, List, ◌++◌, ℕ, ◌+◌, ◌<◌, length, set, drop}
use Rattle.std.proofs.Common.{ap, ◌∙◌}
use Rattle.definition.specs.Sample.{next_state, grey_of, sample_greys, state_after}
use Rattle.integers.specs.Fill.{front_store}
use Rattle.sample_runs.specs.Runs.{greys_in_turn, state_in_turn, length_greys}

-- after n steps from a seed on: the state reached, and the greys in the first n places
pub record Sampled (seed n : ℕ) (before : List ℕ) (state : ℕ) (after : List ℕ) : Type 0 where
  pub reached : state ≡ state_after n seed
  pub stored : after ≡ sample_greys n seed ++ drop n before

pub sampled_none : (seed : ℕ) (before : List ℕ) → Sampled seed 0 before seed before
unfolding state_after sample_greys
sampled_none seed before = record { reached = refl; stored = refl }

-- one step more: `next` and `grey` are what the code has worked out
pub sampled_more : {seed n state : ℕ} {before greys : List ℕ} → Sampled seed n before state greys → n < length before
    → {next grey : ℕ} → next ≡ next_state state → grey ≡ grey_of next
    → Sampled seed (n + 1) before next (set greys n grey)
unfolding state_after sample_greys
sampled_more {seed} {n} {state} {before} s h {next} {grey} en eg =
    record {
      reached = en ∙ rw (s.reached, state_in_turn n 1 seed);
      stored =
          ap (λ (l : List ℕ). set l n grey) s.stored
          ∙ front_store (sample_greys n seed) before grey (length_greys n seed) h
          ∙ rw (greys_in_turn n 1 seed, ← s.reached, ← en, ← eg);
    }
