-- `quote_figures::block_cap`: the square's row and column, its side and its grey sum.
use borrow.Author.Rules.{rules}
use Rattle.quote_figures.specs.Caps.{small_side, cap_fits, cap_is}
use Rattle.quote_figures.proofs.block_cap.Goals as goal

pub overflow_cast-result : goal.overflow_cast-result
overflow_cast-result c =
    search (cap_fits, small_side, rules)

pub returns : goal.returns
returns c =
    search (cap_is, rules)
