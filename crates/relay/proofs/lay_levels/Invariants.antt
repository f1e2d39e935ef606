-- `relay::lay_levels`: after k turns the first k levels are written.
use Rattle.relay.specs.Laying.{Laid}
use Rattle.relay.proofs.lay_levels.Given as goal

abbrev pub invariant-loop-k : goal.invariant-loop-k
invariant-loop-k l = Laid l.r l.k l.pyramid l.initial.second l.second
