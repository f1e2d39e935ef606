-- The greys of the map among those lent: whether they are low (`low_short`, `low_front`). `cells` is what the code has
-- worked out for their number.
use Rattle.std.specs.Prelude.{◌≡◌, Bool, List, ℕ, ◌≤◌, ◌<◌, length, take}
use Rattle.std.proofs.Common.{sym, ◌∙◌, arith, length-take-le, take_all}
use Rattle.std.proofs.Math.Path.{ap}
use Rattle.definition.specs.Pyramid.{cell_count}
use Rattle.definition.specs.Lowering.{none_high}
use Rattle.definition.specs.Load.{low_map}

module _ (r : ℕ) (greys : List ℕ) {cells : ℕ} (e : cells ≡ cell_count r) {low : Bool} where
  pub low_short : length greys < cells → low ≡ none_high greys → low ≡ low_map r greys
  unfolding low_map
  low_short h q = q ∙ ap none_high (sym (take_all (cell_count r) greys (omega arith)))

  pub low_front : low ≡ none_high (take cells greys) → low ≡ low_map r greys
  unfolding low_map
  low_front q = q ∙ ap (λ (n : ℕ). none_high (take n greys)) e

pub front_length : (greys : List ℕ) {cells : ℕ} → cells ≤ length greys → cells ≡ length (take cells greys)
front_length greys {cells} h = sym (length-take-le cells greys h)
