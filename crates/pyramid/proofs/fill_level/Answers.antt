use mathlib.Core.Path.{◌≡◌, ap, ◌∙◌}
use mathlib.Core.List.{List}
use native.Mathlib.Omega.{arith}
use lib.ListN.{drop}
use lib.IntN.{ℤ}
use Rattle.integers.specs.Fill.{filled_none, filled_store}
use Rattle.integers.specs.Machine.{back64}
use Rattle.layouts.specs.Sums.{four_from}
use Rattle.pyramid.specs.Sums.{asked_size, asked_filled, below_filled, filled_level}
use Rattle.pyramid.proofs.fill_level.Goals as goal

pub loop-i-init : goal.loop-i-init
loop-i-init c =
    filled_none _ _

pub sum_below-requires-clause-sums_asked : goal.sum_below-requires-clause-sums_asked
sum_below-requires-clause-sums_asked c =
    rw c.loop-i.invariant
    (asked_filled _ _ (asked_size c.cell_count-size.ensures c.requires.1) _ _ (omega arith))

pub loop-i-preserved : goal.loop-i-preserved
loop-i-preserved c =
    let h = asked_size c.cell_count-size.ensures c.requires.1 in
    let i = c.loop-i.i in
    let inv = c.loop-i.invariant in
    filled_store _ _ _ (omega (arith, h.whole, h.some)) inv
    (back64 c.sum_below.result c.sum_below.type_inv
    ∙ c.sum_below.ensures
    ∙ ap (λ (l : List ℤ). four_from (drop c.cell_count-size.result l) i) inv
    ∙ ap (λ (l : List ℤ). four_from l i) (below_filled _ _ h _ _ (omega arith)))

pub returns : goal.returns
returns c =
    let size = c.cell_count-size.result in
    let e : c.loop-i.i ≡ size = omega arith in
    c.loop-i.invariant ∙ rw (e, c.cell_count-size.ensures) (filled_level _ _)
