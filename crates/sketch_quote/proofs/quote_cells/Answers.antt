-- `sketch_quote::quote_cells`: what the check says, told apart; the cells stored, and their figures.
use borrow.Author.Rules.{rules}
use Rattle.refusals.specs.Powers.{power_small}
use Rattle.checks.specs.Checks.{gives_back}
use Rattle.sketch_quote.specs.WaysOut.{sketch_refused, figures_asked, sketch_quoted_lem}
use Rattle.sketch_quote.proofs.quote_cells.Goals as goal

pub check_sketch-requires : goal.check_sketch-requires
check_sketch-requires c =
    search (power_small, rules)

pub returns-in_err-check_sketch : goal.returns-in_err-check_sketch
returns-in_err-check_sketch c =
    sketch_refused _ _ _ _ c.requires c.power_of-r.ensures _ c.in_err-check_sketch.ensures
    (gives_back _ _ c.from_residual.ensures.1)

pub put_figures-requires : goal.put_figures-requires
put_figures-requires c =
    figures_asked _ _ _ _ c.requires c.power_of-r.ensures c.in_ok-check_sketch.ensures c.read_cells.ensures

pub returns : goal.returns
returns c =
    sketch_quoted_lem _ _ _ _ c.requires c.power_of-r.ensures c.in_ok-check_sketch.ensures c.read_cells.ensures
    c.put_figures.ensures
