-- The walk from the block of level 0, the whole map, sums up every level (`whole_walked`).
use Rattle.std.specs.Prelude.{◌≡◌, cond, List, ℕ, leb, replicate, ℤ}
use Rattle.std.proofs.Common.{◌∙◌, arith}
use Rattle.definition.specs.Lists.{tabulate}
use Rattle.definition.specs.Survey.{error_at, level_sum}
use Rattle.integers.specs.Lists.{eq_tabulate, get_or_replicate_self}
use Rattle.survey.specs.BlockErrors.{Walked}
use Rattle.survey.specs.Within.{within_whole}

-- they begin with 0, and end as the sums of the definitions
pub whole_walked : (r : ℕ) (greys serials : List ℕ) {e : ℤ} {sums : List ℕ}
    → Walked r (error_at r greys serials) 0 0 0 (replicate 9 0) e sums
    → sums ≡ tabulate 9 (λ k. cond (leb k r) (level_sum r greys serials k) 0)
unfolding level_sum
whole_walked r greys serials w =
    let f = error_at r greys serials in
    eq_tabulate 9 _ _ 0 w.long
    (λ i h. w.sums i ∙ rw (get_or_replicate_self {A = ℕ} 9 i 0, within_whole r f i) (omega arith))
