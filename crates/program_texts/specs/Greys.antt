-- The greys of a map at the start of a longer buffer: the model of the buffer starts with a sound sheet
-- (`front_sheet`), and the map is low if its greys are (`front_low`).
use Rattle.std.specs.Prelude.{◌≡◌, true, List, ◌++◌, ℕ, ◌≤◌, ◌<◌, length, get_or}
use Rattle.std.proofs.Common.{arith}
use Rattle.std.proofs.Math.ListN.{get_or-append}
use Rattle.definition.specs.Pyramid.{cell_count}
use Rattle.definition.specs.Model.{model_start}
use Rattle.definition.specs.Load.{low_map}
use Rattle.dots.proofs.Steps.{Sheet}
use Rattle.guarantee.proofs.Start.{each_of, start_sheet, start_front, at_low_map}

module _ (r : ℕ) (values rest : List ℕ) (count : length values ≡ cell_count r) where
  pub front_sheet : ((i : ℕ) → i < length values → get_or values i 0 ≤ 255) → Sheet r (model_start r (values ++ rest))
  front_sheet small =
      rw (start_front r values rest (omega arith)) (start_sheet r values (each_of (λ grey. grey ≤ 255) values 0 small))

  pub front_low : ((i : ℕ) → i < length values → get_or values i 0 ≤ 240) → low_map r (values ++ rest) ≡ true
  front_low low =
      at_low_map r (values ++ rest)
      (λ i h. rw (get_or-append values rest 0 i (omega (arith, count))) (low i (omega (arith, count))))
