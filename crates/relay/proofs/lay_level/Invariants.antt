-- `relay::lay_level`: after i turns the first i cells of the level are written.
use Rattle.layouts.specs.Filling.{Filling}
use Rattle.relay.specs.Laying.{value_at}
use Rattle.relay.proofs.lay_level.Given as goal

abbrev pub invariant-loop-i : goal.invariant-loop-i
invariant-loop-i l = Filling l.k (value_at l.from) l.initial.level l.i l.level
