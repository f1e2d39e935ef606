-- `decimals::put_spaces`: all places so far hold spaces.
use Rattle.std.proofs.Common.{◌-◌, replicate}
use Rattle.definition.specs.Text.{space}
use Rattle.decimals.specs.Writing.{Wrote}
use Rattle.decimals.proofs.put_spaces.Given as goal

abbrev pub invariant-loop-at : goal.invariant-loop-at
invariant-loop-at l = Wrote l.initial.out l.from (replicate (l.at - l.from) space) l.at l.out
