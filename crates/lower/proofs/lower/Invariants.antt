-- `lower::lower`: the greys before the place are lowered, those from it on are as they were.
use Rattle.std.proofs.Common.{◌≡◌, ◌++◌, take, drop}
use Rattle.definition.specs.Lowering.{lowered}
use Rattle.lower.proofs.lower.Given as goal

abbrev pub invariant-loop-grey : goal.invariant-loop-grey
invariant-loop-grey l = l.greys ≡ lowered (take l.grey-index l.initial.greys) ++ drop l.grey-index l.initial.greys
