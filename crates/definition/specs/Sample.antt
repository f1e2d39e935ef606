-- The call Sample, which fills greys from a seed: `sample_of`; its greys and the state reached, `sample_greys` and
-- `state_after`; and what the program `sample` prints, `sample_text`.
use Rattle.std.specs.Prelude.{List, [], ◌∷◌, ◌++◌, ℕ, zero, suc, ◌+◌, ◌*◌, ◌/◌, ◌%◌, ◌^◌, length, drop}
use Rattle.definition.specs.Answers.{GreysOutcome, returned, refused}
use Rattle.definition.specs.Pyramid.{cell_count}
use Rattle.definition.specs.Lowering.{lowered}
use Rattle.definition.specs.Refusals.{power_of, greys_refusal}
use Rattle.definition.specs.MapText.{map_text}

-- one step of the state (S 12.1)
unfoldable pub next_state : ℕ → ℕ
next_state state = (1664525 * state + 1013904223) % 2 ^ 32

-- the grey of a state: its highest byte (S 12.1)
unfoldable pub grey_of : ℕ → ℕ
grey_of state = state / 2 ^ 24

-- the greys of n steps from a state on, by cell number, each that of the state which its step has reached (S 12.1)
unfoldable pub sample_greys : ℕ → ℕ → List ℕ
sample_greys zero state = []
sample_greys (suc n) state = let next = next_state state in grey_of next ∷ sample_greys n next

-- the state that n steps reach (S 12.1)
unfoldable pub state_after : ℕ → ℕ → ℕ
state_after zero state = state
state_after (suc n) state = state_after n (next_state state)

-- The whole call: it answers the state reached (S 12.1). Places past the N² greys stay, and all of them where it
-- refuses (S 2.9).
unfoldable pub sample_of : ℕ → ℕ → List ℕ → GreysOutcome
sample_of seed side greys =
    let r = power_of side in
    let n = cell_count r in
    elim (greys_refusal r (length greys)) [
      | zero ↦ record { said = returned (state_after n seed ∷ []); greys = sample_greys n seed ++ drop n greys }
      | suc k ↦ record { said = refused (suc k); greys = greys }
    ]

-- what the program `sample` prints: the map text of seed 1 and side 32, its greys lowered first; the call itself fills
-- greys up to 255 (S 14.3)
unfoldable pub sample_text : List ℕ
sample_text = map_text 32 (lowered (sample_greys (32 * 32) 1))
