-- `map_text::map_text`: what the first line says, told apart.
use Rattle.checks.specs.Checks.{gives_back}
use Rattle.text_cells.specs.FirstLine.{line_good}
use Rattle.map_text.specs.WaysOut.{map_line_refused}
use Rattle.map_text.proofs.map_text.Goals as goal

pub returns-in_err-line : goal.returns-in_err-line
returns-in_err-line c = map_line_refused _ _ _ c.in_err-line.ensures (gives_back _ _ c.from_residual.ensures.1)

pub read_map-requires : goal.read_map-requires
read_map-requires c = line_good _ _ _ c.in_ok-line.ensures
