-- `program_texts::put_quote_of_text`.
use borrow.Author.Rules.{rules}
use Rattle.checks.specs.Checks.{gives_back}
use Rattle.program_texts.specs.Promised.{refused_answered, answered_as}
use Rattle.program_texts.specs.Outputs.{refused_quote, side_asked, side_quote}
use Rattle.program_texts.proofs.put_quote_of_text.Goals as goal

pub returns-in_err-side : goal.returns-in_err-side
returns-in_err-side c =
    refused_answered _ (gives_back _ _ c.from_residual.ensures.1)
    (refused_quote _ _ (search rules) _ c.in_err-side.ensures _)

pub put_quote_page-requires : goal.put_quote_page-requires
put_quote_page-requires c =
    (side_asked _ _ (search rules) _ c.in_ok-side.ensures, search rules)

pub returns : goal.returns
returns c =
    answered_as _ _ _ (side_quote _ _ (search rules) _ c.in_ok-side.ensures _) c.put_quote_page.ensures
