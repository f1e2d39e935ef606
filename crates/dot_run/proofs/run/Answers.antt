use borrow.Author.Rules.{rules}
use Rattle.dot_run.specs.Running.{begins, top_in, few, spent, none_due, dot_asked, goes_on}
use Rattle.dot_run.proofs.run.Goals as goal

pub loop-made-init : goal.loop-made-init
loop-made-init c =
    search (begins, rules)

pub slice_copy_out-top : goal.slice_copy_out-top
slice_copy_out-top c =
    search (top_in, rules)

pub returns-then-top-lt-HALF_DOT : goal.returns-then-top-lt-HALF_DOT
returns-then-top-lt-HALF_DOT c =
    search (none_due, rules)

pub overflow_add-dots : goal.overflow_add-dots
overflow_add-dots c =
    search (few, rules)

pub place_dot-requires-clause-dot_asked : goal.place_dot-requires-clause-dot_asked
place_dot-requires-clause-dot_asked c =
    search (dot_asked, rules)

pub loop-made-preserved : goal.loop-made-preserved
loop-made-preserved c =
    search (goes_on, rules)

pub returns : goal.returns
returns c =
    search (spent, rules)
