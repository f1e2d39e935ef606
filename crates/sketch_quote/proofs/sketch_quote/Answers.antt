-- `sketch_quote::sketch_quote`: what the first line says, told apart.
use Rattle.checks.specs.Checks.{gives_back}
use Rattle.sketch_quote.specs.WaysOut.{first_refused, first_good}
use Rattle.sketch_quote.proofs.sketch_quote.Goals as goal

pub returns-in_err-line : goal.returns-in_err-line
returns-in_err-line c =
    first_refused _ _ _ c.min.ensures _ _ _ c.in_err-line.ensures (gives_back _ _ c.from_residual.ensures.1)

pub quote_cells-requires : goal.quote_cells-requires
quote_cells-requires c = first_good _ _ _ c.min.ensures _ c.in_ok-line.ensures
