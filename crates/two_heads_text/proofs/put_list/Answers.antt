-- `two_heads_text::put_list`: what the call answers, told apart. That greys are bytes is known of the slice.
use Rattle.std.proofs.Common.{refl, arith}
use borrow.Author.Rules.{rules}
use Rattle.checks.specs.Checks.{gives_back}
use Rattle.program_texts.specs.Promised.{refused_answered}
use Rattle.two_heads_text.specs.Listing.{refused_list, run_listed}
use Rattle.two_heads_text.proofs.put_list.Goals as goal

pub returns-in_err-run : goal.returns-in_err-run
returns-in_err-run c =
    refused_answered _ (gives_back _ _ c.from_residual.ensures.1)
    (refused_list _ _ (λ i. omega (arith, c.type_inv.greys i)) _ _ _ c.requires.0 _ c.in_err-run.ensures _ refl)

pub returns : goal.returns
returns c =
    run_listed _ _ (λ i. omega (arith, c.type_inv.greys i)) _ _ _ c.requires.0 _ c.in_ok-run.ensures _ refl _
    c.requires.1 _ c.drill_list.ensures
