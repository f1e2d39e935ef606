-- `quote_figures::total_dots`: the whole map is the square of level 0. That greys are bytes is known of the slice.
use native.Mathlib.Omega.{arith}
use borrow.Author.Rules.{rules}
use Rattle.quote_figures.specs.Total.{total_is, sum_few}
use Rattle.quote_figures.proofs.total_dots.Goals as goal

pub returns : goal.returns
returns c =
    let bytes = c.type_inv.greys in
    let few = sum_few _ _ c.requires bytes c.block_greys-sum.ensures in
    record { value = search (total_is, rules); upper_bound = omega (arith, few) }
