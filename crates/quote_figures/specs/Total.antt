-- The total (`total_is`): the whole map is the square of level 0, at most 65,536 cells with a grey of at most 255 each.
use Rattle.std.specs.Prelude.{◌≡◌, List, ℕ, ◌*◌, ◌≤◌, length, get_or}
use Rattle.std.proofs.Common.{ap, ◌∙◌, arith, Fits}
use Rattle.std.specs.Int.{w8}
use Rattle.definition.specs.Pyramid.{cell_number}
use Rattle.definition.specs.Blocks.{block_side, grey_at, grey_sum, grey_total, total_of}
use Rattle.quadtree.specs.Areas.{block_most}
use Rattle.quadtree.specs.Levels.{block_side_lem, cells_few}
use Rattle.quote_figures.specs.MapLent.{MapLent}

pub total_is : (r : ℕ) (greys : List ℕ) {sum n : ℕ} → sum ≡ grey_sum r greys 0 0 0 → n ≡ total_of sum
    → n ≡ total_of (grey_total r greys)
unfolding grey_total
total_is r greys e q = q ∙ ap total_of e

pub sum_few : (r : ℕ) (greys : List ℕ) → MapLent r (length greys) → ((i : ℕ) → Fits w8 (get_or greys i 0))
    → {sum : ℕ} → sum ≡ grey_sum r greys 0 0 0 → sum ≤ 255 * 65536
unfolding grey_sum grey_at
sum_few r greys h bytes e =
    let few : block_side r 0 * block_side r 0 ≤ 65536 = rw (block_side_lem r r 0 (omega arith)) (cells_few r h.powers)
    in
    let most = block_most r (grey_at r greys) 255 0 0 0 (λ x y. omega (arith, bytes (cell_number r x y))) in
    omega (arith, e, most, few)
