-- `text_cells::why_not`.
use Rattle.text_cells.specs.Found.{broken_text, too_high}
use Rattle.text_cells.proofs.why_not.Goals as goal

pub returns-in-None : goal.returns-in-None
returns-in-None c = broken_text _ _ _ _ c.in-None.ensures

pub returns-in-Some : goal.returns-in-Some
returns-in-Some c = too_high _ _ _ _ c.in-Some.ensures
