-- `sound::counted`: the loop adds up the sum of the definition.
use Rattle.std.proofs.Common.{◌*◌, get_or}
use Rattle.definition.specs.Blocks.{burnt}
use Rattle.definition.specs.Lists.{sum_to}
use Rattle.integers.specs.Totals.{Total}
use Rattle.sound.proofs.counted.Given as goal

abbrev pub invariant-loop-serial : goal.invariant-loop-serial
invariant-loop-serial l =
    Total (sum_to l.serial-index (λ m. burnt (get_or l.serials m 0))) (l.serial-index * 1) l.sum
