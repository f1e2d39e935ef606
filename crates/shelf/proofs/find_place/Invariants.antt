-- `shelf::find_place`: a search by halves.
use Prim.Native.Nat.{◌-◌}
use Rattle.shelf.specs.Searching.{Searching}
use Rattle.shelf.proofs.find_place.Given as goal

abbrev pub invariant-loop-low : goal.invariant-loop-low
invariant-loop-low l = Searching l.plates l.list l.r l.n l.low l.high

abbrev pub decreases-loop-low : goal.decreases-loop-low
decreases-loop-low l = l.high - l.low
