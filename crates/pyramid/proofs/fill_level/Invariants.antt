-- `pyramid::fill_level`: after i turns the first i places hold the sums of the four below them.
use mathlib.Core.Path.{◌≡◌}
use lib.ListN.{drop}
use Rattle.integers.specs.Fill.{filled}
use Rattle.layouts.specs.Sums.{four_from}
use Rattle.pyramid.proofs.fill_level.Given as goal

abbrev pub invariant-loop-i : goal.invariant-loop-i
invariant-loop-i l = l.part ≡ filled (four_from (drop l.size l.initial.part)) l.i l.initial.part
