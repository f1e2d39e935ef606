-- `decimals::short_length`: the tests that hold and those that do not bound the number by two powers of ten.
use Rattle.std.proofs.Common.{arith}
use Rattle.decimals.specs.Writing.{length_below_ten, length_between}
use Rattle.decimals.proofs.short_length.Goals as goal

pub returns-then-n-lt10 : goal.returns-then-n-lt10
returns-then-n-lt10 c = length_below_ten _ (omega arith)

pub returns-then-n-lt100 : goal.returns-then-n-lt100
returns-then-n-lt100 c = length_between 1 _ (omega arith) (omega arith)

pub returns-then-n-lt1000 : goal.returns-then-n-lt1000
returns-then-n-lt1000 c = length_between 2 _ (omega arith) (omega arith)

pub returns-then-n-lt10000 : goal.returns-then-n-lt10000
returns-then-n-lt10000 c = length_between 3 _ (omega arith) (omega arith)

pub returns : goal.returns
returns c = length_between 4 _ (omega arith) (omega arith)
