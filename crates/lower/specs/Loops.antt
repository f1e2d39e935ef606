-- The test of each grey is the definition's test of them all (`all_low`), and one more grey lowered in place makes the
-- lowered greys one more (`one_lowered`).
use Rattle.std.specs.Prelude.{◌≡◌, refl, List, ℕ, ◌+◌, ◌<◌, ◌++◌, ◌&&◌, min, leb, length, get_or, set, take, drop}
use Rattle.std.specs.List.{list_all}
use Rattle.std.proofs.Common.{arith}
use Rattle.std.proofs.lemmas.List.{get_or_default}
use Rattle.std.proofs.lemmas.List.Edits.{map_over_more}
use Rattle.std.proofs.lemmas.List.Recursion.{same_from_clauses}
use Rattle.definition.specs.Lowering.{none_high, lowered}

pub all_low : (greys : List ℕ) → list_all (λ grey. leb grey 240) greys ≡ none_high greys
unfolding none_high
all_low = same_from_clauses _ _ (λ grey rest. leb grey 240 && rest) refl (λ grey greys. refl) (λ grey greys. refl)

-- `held` is what the buffer holds, and `low` what the code has worked out for its grey at i
pub one_lowered : (greys : List ℕ) (i : ℕ) {held : List ℕ} {low : ℕ} → i < length greys
    → held ≡ lowered (take i greys) ++ drop i greys → length held ≡ length greys → low ≡ min (get_or held i 0) 240
    → set held i low ≡ lowered (take (i + 1) greys) ++ drop (i + 1) greys
unfolding lowered
one_lowered greys i {held} h e l q =
    rw q
    (map_over_more (λ grey. min grey 240) greys held i (get_or held i 0) h e
    (get_or_default held i 0 (get_or held i 0) (omega arith)))
