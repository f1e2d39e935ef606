-- `shelf::sort`: plate after plate.
use Rattle.shelf.specs.Sorting.{Sorting}
use Rattle.shelf.proofs.sort.Given as goal

abbrev pub invariant-loop-i : goal.invariant-loop-i
invariant-loop-i l = Sorting l.plates l.initial.list l.list l.r l.n l.i
