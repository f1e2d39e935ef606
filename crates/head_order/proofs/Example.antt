-- An instance, so that `HeadsHold` is seen to speak of something: side 16 on plain cloth, dark in the cells (1, 1) and
-- (1, 9), which lie in two macroblocks of the first round. The buffers are one place longer than needed. Worked the
-- other way round, the two holes swap their serials (`serials_differ`): only the cells are the same in every order.
use Rattle.std.specs.Prelude.{◌≡◌, refl, ◌≢◌, true, List, [], ◌∷◌, ◌++◌, ℕ, zero, suc, ◌≤◌, length, get_or, replicate}
use Rattle.std.specs.Prelude.{ℤ, pos}
use Rattle.std.proofs.Common.{ap, arith}
use Rattle.definition.specs.Lists.{sum_to, tabulate_from}
use Rattle.definition.specs.Pyramid.{
  start,
  place_in,
  row_at,
  column_at,
  level_of,
  in_level,
  entry,
  four,
  coarser,
  pyramid_over,
}
use Rattle.definition.specs.Blocks.{grey_at}
use Rattle.definition.specs.Descent.{candidate, first_of_equals, better, largest, descend}
use Rattle.definition.specs.Diffusion.{
  plain,
  weights_of,
  places_in_turn,
  kernel_of,
  within,
  on_map,
  weight_at,
  share,
  diffuse,
}
use Rattle.definition.specs.Model.{model_start, missing, place_dot}
use Rattle.definition.specs.Refusals.{power_up_to, power_of, lowest}
use Rattle.definition.specs.Lowering.{none_high}
use Rattle.definition.specs.Load.{low_map}
use Rattle.heads.specs.TwoHeads.{
  Macroblock,
  block_sums,
  macroblock_sum,
  wanted,
  clear,
  burns,
  work,
  work_all,
  macroblocks,
  rounds,
  most_rounds,
  two_heads_in,
  two_heads,
  two_heads_refusal,
  two_heads_by_quarters,
}
use Rattle.guarantee.specs.PriceList.{Each}
use Rattle.guarantee.proofs.Start.{each_of, low_map_at}
use Rattle.head_order.specs.Promise.{Reordered, HeadsAccepted, HeadsHold}
use Rattle.head_order.proofs.Orders.{reordered_refl}
use Rattle.head_order.proofs.Call.{none_accepted, heads_hold}

abbrev greys : List ℕ
greys = replicate 17 0 ++ (240 ∷ (replicate 7 0 ++ (240 ∷ replicate 230 0)))

abbrev pyramid : List ℤ
pyramid = replicate 342 (pos 9)

abbrev sheet : List ℕ
sheet = replicate 257 9

low : low_map 4 greys ≡ true
unfolding low_map none_high
low = refl

bytes : Each (λ grey. grey ≤ 255) greys
bytes = each_of (λ grey. grey ≤ 255) greys 0 (λ i h. omega (arith, low_map_at 4 greys low (omega arith) i h))

none : two_heads_refusal 16 plain (length greys) (length pyramid) (length sheet) (length sheet)
    (low_map (power_of 16) greys) ≡ 0
unfolding two_heads_refusal lowest power_of power_up_to low_map none_high start
none = refl

accepted : HeadsAccepted 16 plain greys pyramid sheet sheet
accepted = record { bytes = bytes; said = none_accepted 16 plain greys pyramid sheet sheet none }

pub holds_here :
    HeadsHold 16 plain (power_of 16) greys pyramid sheet sheet
    (two_heads_by_quarters 16 plain greys pyramid sheet sheet) (two_heads (kernel_of plain) (power_of 16) greys)
holds_here = heads_hold 16 plain greys pyramid sheet sheet accepted

-- the first round with its first two macroblocks swapped
unfoldable pub swapped : ℕ → List Macroblock
swapped zero = (0, 2) ∷ (0, 0) ∷ (2, 0) ∷ (2, 2) ∷ []
swapped (suc t) = macroblocks 4 (suc t)

pub swapped_is : (t : ℕ) → Reordered (macroblocks 4 t) (swapped t)
unfolding swapped macroblocks tabulate_from
swapped_is zero =
    record {
      before = (0, 2) ∷ [];
      after = (2, 0) ∷ (2, 2) ∷ [];
      is = refl;
      rest = reordered_refl ((0, 2) ∷ (2, 0) ∷ (2, 2) ∷ []);
    }
swapped_is (suc t) = reordered_refl (macroblocks 4 (suc t))

-- cell (1, 1) has number 17
serial_here : get_or (two_heads (kernel_of plain) 4 greys).serials 17 0 ≡ 1
unfolding sum_to tabulate_from start place_in row_at column_at level_of in_level entry four coarser pyramid_over grey_at
    candidate first_of_equals better largest descend weights_of places_in_turn kernel_of within on_map weight_at share
    diffuse model_start missing place_dot block_sums macroblock_sum wanted clear burns work work_all macroblocks rounds
    most_rounds two_heads_in two_heads
serial_here = refl

serial_there : get_or (two_heads_in (kernel_of plain) 4 swapped greys).serials 17 0 ≡ 2
unfolding sum_to tabulate_from start place_in row_at column_at level_of in_level entry four coarser pyramid_over grey_at
    candidate first_of_equals better largest descend weights_of places_in_turn kernel_of within on_map weight_at share
    diffuse model_start missing place_dot block_sums macroblock_sum wanted clear burns work work_all macroblocks rounds
    most_rounds two_heads_in swapped
serial_there = refl

pub serials_differ :
    (two_heads_in (kernel_of plain) 4 swapped greys).serials ≢ (two_heads (kernel_of plain) 4 greys).serials
serials_differ e =
    omega (arith, serial_here, serial_there, ap (λ (l : List ℕ). get_or l 17 0) e)
