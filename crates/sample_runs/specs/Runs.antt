-- Runs of the generator: a run of m + n steps is one of m steps and then, from the state that it reached, one of n
-- (`greys_in_turn`, `state_in_turn`).
use Rattle.std.specs.Prelude.{◌≡◌, refl, ◌++◌, ℕ, zero, suc, ◌+◌, ◌≤◌, length, get_or}
use Rattle.std.proofs.Common.{ap, zero-add, suc-add, arith}
use Rattle.definition.specs.Sample.{next_state, grey_of, sample_greys, state_after}

pub greys_in_turn : (m n state : ℕ)
    → sample_greys (m + n) state ≡ sample_greys m state ++ sample_greys n (state_after m state)
unfolding sample_greys state_after
greys_in_turn zero n state = rw (zero-add n)
greys_in_turn (suc m) n state = rw (suc-add m n, greys_in_turn m n (next_state state))

pub state_in_turn : (m n state : ℕ) → state_after (m + n) state ≡ state_after n (state_after m state)
unfolding state_after
state_in_turn zero n state = rw (zero-add n)
state_in_turn (suc m) n state = rw (suc-add m n, state_in_turn m n (next_state state))

pub length_greys : (n state : ℕ) → length (sample_greys n state) ≡ n
unfolding sample_greys
length_greys zero state = refl
length_greys (suc n) state = ap suc (length_greys n (next_state state))

-- every grey is a byte
pub greys_small : (n state i : ℕ) → get_or (sample_greys n state) i 0 ≤ 255
unfolding sample_greys next_state grey_of
greys_small zero state i = omega arith
greys_small (suc n) state zero = omega arith
greys_small (suc n) state (suc i) = greys_small n (next_state state) i
