-- `survey::Map::walk`, by the levels that are left: four cells, or four quarters and the block itself.
use Prim.Native.Nat.{◌-◌}
use Rattle.survey.proofs.Map.+walk.Given as goal

abbrev pub decreases-walk : goal.decreases-walk
decreases-walk l = l.self.now.r - l.k
