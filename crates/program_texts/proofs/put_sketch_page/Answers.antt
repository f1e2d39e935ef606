-- `program_texts::put_sketch_page`.
use Rattle.program_texts.specs.Sketching.{page_printed}
use Rattle.program_texts.proofs.put_sketch_page.Goals as goal

pub returns : goal.returns
returns c =
    page_printed _ _ _ _ c.requires.0 c.requires.1
    (rw (c.from.ensures, c.from-2.ensures) at c.put_totals-at.ensures.0) c.put_totals-at.ensures.1 c.put_caps.ensures
