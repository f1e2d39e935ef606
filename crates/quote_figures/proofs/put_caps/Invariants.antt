-- `quote_figures::put_caps`: the squares so far have their caps.
use Rattle.std.proofs.Common.{◌≡◌}
use Rattle.integers.specs.Fill.{filled}
use Rattle.quote_figures.specs.Caps.{cap_at}
use Rattle.quote_figures.proofs.put_caps.Given as goal

abbrev pub invariant-loop-i : goal.invariant-loop-i
invariant-loop-i l = l.cap-items ≡ filled (cap_at l.r l.greys l.k) l.i l.initial.cap-items
