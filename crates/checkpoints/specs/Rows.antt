-- The rows of the two checks: Keep's (`keep_passed`, `keep_failed`); Restore's by what is lent (`lent_first`), then the
-- last three (`then_last`).
use Rattle.std.specs.Prelude.{◌≡◌, Bool, true, false, not, List, [], ◌∷◌, ℕ, suc, Ok, Err}
use Rattle.std.proofs.Math.Path.{refl}
use Rattle.std.proofs.Common.{sym, ◌∙◌, arith}
use borrow.Author.Tests.{ne_eqb, not-false}
use Rattle.definition.specs.Answers.{number_of}
use Rattle.definition.specs.Refusals.{
  Row,
  side_unknown,
  knit_unknown,
  greys_short,
  pyramid_short,
  sheet_short,
  sheet_unsound,
  grey_high,
  lowest,
}
use Rattle.definition.specs.Load.{load_refusal}
use Rattle.definition.specs.Checkpoints.{is_name, name_unknown, keep_refusal, restore_refusal}
use Rattle.definition.specs.declared.Refusal.TheVariants.{NameUnknown}
use Rattle.refusals.specs.Lowest.{positive, lowest_none, lowest_before, lowest_after, lowest_split, lowest_last_not}
use Rattle.checks.specs.Checks.{checked}

-- ---- Keep's check
module _ {r : ℕ} (some : r ≡ 0 → ⊥) (name : ℕ) {b : Bool} (e : b ≡ is_name name) where
  pub keep_passed : b ≡ true → checked (Ok tt) ≡ keep_refusal r name
  unfolding checked keep_refusal lowest
  keep_passed yes' = rw (ne_eqb r 0 some, ← e, yes')

  pub keep_failed : b ≡ false → checked (Err NameUnknown) ≡ keep_refusal r name
  unfolding checked number_of keep_refusal lowest
  keep_failed no' = rw (ne_eqb r 0 some, ← e, no')

-- ---- Restore's rows: those of Load by what is lent come first
module _ (r knit g p s o : ℕ) (sound low known : Bool) where
  abbrev first_rows : List Row
  first_rows =
      side_unknown r ∷ knit_unknown knit ∷ greys_short r g ∷ pyramid_short r p ∷ sheet_short r s ∷ sheet_short r o ∷ []

  abbrev last_rows : List Row
  last_rows = sheet_unsound sound ∷ grey_high low ∷ name_unknown known ∷ []

  -- Load's own rows, of low greys
  lent_rows : load_refusal r knit g p s o true ≡ lowest first_rows
  unfolding load_refusal
  lent_rows = lowest_last_not first_rows (grey_high true) refl

  pub lent_first : (n : ℕ) → load_refusal r knit g p s o true ≡ suc n
      → restore_refusal r knit g p s o sound low known ≡ suc n
  unfolding restore_refusal
  lent_first n e = lowest_before first_rows last_rows n (sym lent_rows ∙ e)

  pub then_last : load_refusal r knit g p s o true ≡ 0
      → restore_refusal r knit g p s o sound low known
      ≡ lowest (sheet_unsound sound ∷ grey_high low ∷ name_unknown known ∷ [])
  unfolding restore_refusal positive
  then_last e = lowest_after first_rows last_rows refl (sym lent_rows ∙ e)

  -- what is not refused: what is lent will do, and so will the name
  pub restore_none : restore_refusal r knit g p s o sound low known ≡ 0
      → (load_refusal r knit g p s o true ≡ 0) × (known ≡ true)
  unfolding restore_refusal positive
  restore_none e =
      let h = lowest_split first_rows last_rows refl e in
      let five = lowest_none 5 (not sound) _ (omega arith) h.1 in
      let twelve = lowest_none 12 (not low) _ (omega arith) five.1 in
      let ten = lowest_none 10 (not known) _ (omega arith) twelve.1 in
      (lent_rows ∙ h.0, not-false known ten.0)
