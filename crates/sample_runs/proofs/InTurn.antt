-- Two calls, the second from the state that the first returned: together they leave the greys of one long run
-- (`calls_in_turn`).
use Rattle.std.specs.Prelude.{◌≡◌, List, [], ◌∷◌, ◌++◌, length, take, drop}
use Rattle.std.proofs.Math.Path.{refl}
use Rattle.std.proofs.Common.{sym, ap, ◌∙◌, suc-ne-zero, take_at}
use Prim.Native.Nat.{ℕ, zero, suc, ◌+◌, ◌*◌}
use Rattle.definition.specs.Answers.{GreysOutcome, returned}
use Rattle.definition.specs.Pyramid.{cell_count}
use Rattle.definition.specs.Refusals.{power_of, greys_refusal}
use Rattle.definition.specs.Sample.{sample_greys, state_after, sample_of}
use Rattle.refusals.specs.Powers.{cell_count_side}
use Rattle.refusals.specs.Lowest.{greys_none}
use Rattle.sample_runs.specs.Runs.{greys_in_turn, state_in_turn, length_greys}

-- where it isn't refused
pub accepted_is : (seed side : ℕ) (greys : List ℕ) → greys_refusal (power_of side) (length greys) ≡ 0
    → sample_of seed side greys
    ≡ record {
      said = returned (state_after (cell_count (power_of side)) seed ∷ []);
      greys = sample_greys (cell_count (power_of side)) seed ++ drop (cell_count (power_of side)) greys;
    }
unfolding sample_of
accepted_is seed side greys none = rw (none, sample_of)

-- a call that returned a state wasn't refused; the state is the one reached, and the first N² places hold the greys of
-- the run
module _ (seed side state : ℕ) (greys : List ℕ) (e : (sample_of seed side greys).said ≡ returned (state ∷ [])) where
  not_refused : greys_refusal (power_of side) (length greys) ≡ 0
  unfolding sample_of
  not_refused =
      (elim (greys_refusal (power_of side) (length greys)) as
      (λ n. greys_refusal (power_of side) (length greys) ≡ n → greys_refusal (power_of side) (length greys) ≡ 0) [
        | zero ↦ λ q. q
        | suc k ↦ λ q. absurd (suc-ne-zero 0 (cc (rw (q, sample_of) at e)))
      ]) refl

  cells_is : cell_count (power_of side) ≡ side * side
  cells_is = cell_count_side side ((greys_none (power_of side) (length greys)).0 not_refused).0

  returned_state : state ≡ state_after (side * side) seed
  returned_state =
      let f = sym e ∙ ap (λ (o : GreysOutcome). o.said) (accepted_is seed side greys not_refused) in
      rw (← cells_is) (cc)

  filled_greys : take (side * side) (sample_of seed side greys).greys ≡ sample_greys (side * side) seed
  filled_greys =
      ap (λ (o : GreysOutcome). take (side * side) o.greys) (accepted_is seed side greys not_refused)
      ∙ rw cells_is
      (take_at (sample_greys (side * side) seed) (drop (side * side) greys) (side * side)
      (length_greys (side * side) seed))

-- Two buffers filled in turn, the second from the state that the first call reached: the greys of one longer run, and
-- the state that it reaches (S 15.13).
pub calls_in_turn : (seed state last first second : ℕ) (a b : List ℕ)
    → (sample_of seed first a).said ≡ returned (state ∷ []) → (sample_of state second b).said ≡ returned (last ∷ [])
    → (take (first * first) (sample_of seed first a).greys ++ take (second * second) (sample_of state second b).greys
    ≡ sample_greys (first * first + second * second) seed)
    × (last ≡ state_after (first * first + second * second) seed)
calls_in_turn seed state last first second a b e f =
    let s = returned_state seed first state a e in
    let t = returned_state state second last b f in (
      rw (
        filled_greys seed first state a e,
        filled_greys state second last b f,
        s,
        greys_in_turn (first * first)
            (second * second) seed,
      ),
      t ∙ rw (s, state_in_turn (first * first) (second * second) seed),
    )
