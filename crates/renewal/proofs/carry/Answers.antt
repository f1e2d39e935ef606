-- `renewal::carry`.
use Rattle.std.proofs.Common.{ap, ◌∙◌}
use Rattle.renewal.specs.OverPlaces.{below}
use Rattle.renewal.specs.Steps.{less_fits, total_fits, sum_kept, carried}
use Rattle.renewal.proofs.carry.Goals as goal

pub overflow_sub-result : goal.overflow_sub-result
overflow_sub-result c =
    less_fits c.requires (c.four_below-four.ensures ∙ ap (below c.args.pyramid.now) c.over.ensures)

pub overflow_add-result : goal.overflow_add-result
overflow_add-result c =
    total_fits c.requires (c.four_below-four.ensures ∙ ap (below c.args.pyramid.now) c.over.ensures)

pub returns : goal.returns
returns c =
    let e = c.four_below-four.ensures ∙ ap (below c.args.pyramid.now) c.over.ensures in
    (sum_kept c.requires e, carried c.requires e)
