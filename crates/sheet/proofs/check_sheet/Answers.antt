-- `sheet::check_sheet`: what the check of the lengths says, told apart, then the test of the sheet.
use borrow.Author.Rules.{rules}
use Rattle.checks.specs.Checks.{gives_back}
use Rattle.sheet.specs.Sheets.{lengths_failed, lengths_passed, quarters_sound, quarters_unsound}
use Rattle.sheet.proofs.check_sheet.Goals as goal

pub returns-in_err-check_lengths : goal.returns-in_err-check_lengths
returns-in_err-check_lengths c =
    rw (gives_back _ _ c.from_residual.ensures.1) (lengths_failed _ _ _ _ _ _ _ c.in_err-check_lengths.ensures)

pub sound_lent-requires : goal.sound_lent-requires
sound_lent-requires c =
    (search rules, lengths_passed _ _ _ _ _ c.in_ok-check_lengths.ensures)

pub returns-then-sound_lent : goal.returns-then-sound_lent
returns-then-sound_lent c =
    search (quarters_sound, rules)

pub returns : goal.returns
returns c =
    search (quarters_unsound, rules)
