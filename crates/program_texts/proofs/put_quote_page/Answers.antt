-- `program_texts::put_quote_page`.
use Rattle.program_texts.specs.Quoting.{quote_answered}
use Rattle.program_texts.proofs.put_quote_page.Goals as goal

pub returns-in_err-run_map : goal.returns-in_err-run_map
returns-in_err-run_map c =
    absurd c.in_err-run_map.ensures

pub returns : goal.returns
returns c =
    quote_answered _ _ c.requires.0 c.type_inv.greys _ _ _ _ _ c.requires.1 c.in_ok-run_map.ensures _
    c.quote_page.ensures
