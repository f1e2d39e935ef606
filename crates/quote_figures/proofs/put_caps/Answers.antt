use Rattle.std.proofs.Common.{arith, rules}
use Rattle.integers.specs.Fill.{filled_none, filled_store}
use Rattle.quote_figures.specs.Caps.{all_capped}
use Rattle.quote_figures.proofs.put_caps.Goals as goal

pub loop-i-init : goal.loop-i-init
loop-i-init c = filled_none _ _

pub loop-i-preserved : goal.loop-i-preserved
loop-i-preserved c = search (filled_store, arith, rules)

pub returns : goal.returns
returns c =
    all_capped _ _ _ _ c.cell_count-count.ensures c.requires.k_in_bounds c.loop-i.auto.i-end c.loop-i-test.false
    c.loop-i.invariant
