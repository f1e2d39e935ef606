use native.Mathlib.Omega.{arith}
use borrow.Author.Rules.{rules}
use Rattle.descent.specs.Walk.{number_here, four_asked, entry_few, next_asked, next_number}
use Rattle.descent.proofs.+walk.Goals as goal

pub returns-then-k-r : goal.returns-then-k-r
returns-then-k-r t c =
    search (number_here, rules)

pub overflow_mul-first : goal.overflow_mul-first
overflow_mul-first t c =
    omega (arith, entry_few c.requires c.if-k-r.false)

pub overflow_add-first : goal.overflow_add-first
overflow_add-first t c =
    omega (arith, entry_few c.requires c.if-k-r.false)

pub largest-quarter-requires : goal.largest-quarter-requires
largest-quarter-requires t c =
    four_asked c.requires c.if-k-r.false (omega arith)

pub overflow_add-first-2 : goal.overflow_add-first-2
overflow_add-first-2 t c =
    omega (
      arith,
      entry_few c.requires c.if-k-r.false,
      c.largest-quarter.ensures.one,
    )

pub walk-requires : goal.walk-requires
walk-requires t c =
    (search rules, search (next_asked, rules))

pub returns : goal.returns
returns t c =
    search (next_number, rules)
