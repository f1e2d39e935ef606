-- `place_dot::place_dot`: the walk, and a dot at the cell that it reaches.
use borrow.Author.Rules.{rules}
use Rattle.place_dot.specs.Placed.{descent_asked, reached_asked, reached_step}
use Rattle.place_dot.proofs.place_dot.Goals as goal

pub descend-cell-requires : goal.descend-cell-requires
descend-cell-requires c =
    search (descent_asked, rules)

pub place_at-requires : goal.place_at-requires
place_at-requires c =
    record { place_at_asked = search (reached_asked, rules); pyramid_len = search rules }

pub returns : goal.returns
returns c =
    search (reached_step, rules)
