-- `quote_page::put_line`: five columns.
use Rattle.quote_page.specs.Lines.{line_wrote}
use Rattle.quote_page.proofs.put_line.Goals as goal

pub returns : goal.returns
returns c =
    line_wrote _ _ _ _ _ c.put_column-second.ensures.0 c.put_column-third.ensures.0 c.put_column-fourth.ensures.0
    c.put_column-fifth.ensures.0 c.put_column.ensures.0
