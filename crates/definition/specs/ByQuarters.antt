-- The calls on a pyramid by quarters: `load_by_quarters`, `advance_by_quarters`, `drill_list_by_quarters`,
-- `restore_by_quarters` and `renewal_by_quarters` write the pyramid lent row after row, make the call on that, and
-- write what it leaves by quarters. And Relay, `relay_of`, which writes the pyramid of an older sheet by quarters.
use Rattle.std.specs.Prelude.{Bool, List, [], ◌∷◌, ◌++◌, ℕ, zero, suc, length, drop, ℤ}
use Rattle.definition.specs.Answers.{Said, returned, refused}
use Rattle.definition.specs.Pyramid.{needed}
use Rattle.definition.specs.Sound.{is_sound}
use Rattle.definition.specs.Refusals.{
  power_of,
  side_unknown,
  knit_unknown,
  pyramid_short,
  sheet_short,
  sheet_unsound,
  lowest,
}
use Rattle.definition.specs.Load.{LoadOutcome, load_of}
use Rattle.definition.specs.Advance.{AdvanceOutcome, sheet_in, advance_of}
use Rattle.definition.specs.Text.{TextOutcome}
use Rattle.definition.specs.DrillList.{drill_list_of}
use Rattle.definition.specs.Renewal.{renewal_of}
use Rattle.definition.specs.Checkpoints.{RestoreOutcome, restore_of}
use Rattle.definition.specs.Quarters.{quarters_from, as_rows, as_quarters}
use Rattle.definition.specs.declared.Progress.{Progress}
use Rattle.definition.specs.declared.Checkpoints.{Checkpoints}

-- Load (S 7.1, S 15.14)
unfoldable pub load_by_quarters : ℕ → ℕ → List ℕ → List ℤ → List ℕ → List ℕ → LoadOutcome
load_by_quarters side knit greys pyramid serials order =
    let r = power_of side in
    let out = load_of side knit greys (as_rows r pyramid) serials order in
    record {
      progress = out.progress;
      said = out.said;
      pyramid = as_quarters r out.pyramid;
      serials = out.serials;
      order = out.order;
    }

-- Advance; the sheet that has to be sound is the one by quarters (S 7.3, S 15.14)
unfoldable pub advance_by_quarters : Progress → ℕ → List ℤ → List ℕ → List ℕ → AdvanceOutcome
advance_by_quarters progress budget pyramid serials order =
    let r = power_of progress.side in
    let out = advance_of progress budget (as_rows r pyramid) serials order in
    record {
      reply = out.reply;
      pyramid = as_quarters r out.pyramid;
      serials = out.serials;
      order = out.order;
    }

-- Drill List, likewise (S 9.3, S 15.14)
unfoldable pub drill_list_by_quarters : Progress → List ℤ → List ℕ → List ℕ → List ℕ → TextOutcome
drill_list_by_quarters progress pyramid serials order output =
    drill_list_of progress (as_rows (power_of progress.side) pyramid) serials order output

-- Restore, likewise (S 10.2, S 15.14)
unfoldable pub restore_by_quarters :
    Progress → Checkpoints → ℕ → List ℕ → List ℤ → List ℕ → List ℕ → RestoreOutcome
restore_by_quarters progress checkpoints name greys pyramid serials order =
    let r = power_of progress.side in
    let out = restore_of progress checkpoints name greys (as_rows r pyramid) serials order in
    record {
      progress = out.progress;
      checkpoints = out.checkpoints;
      said = out.said;
      pyramid = as_quarters r out.pyramid;
      serials = out.serials;
      order = out.order;
    }

-- the renewal by itself (S 12.3, S 15.14)
unfoldable pub renewal_by_quarters : ℕ → ℕ → ℕ → List ℤ → Bool × List ℤ
renewal_by_quarters side row column pyramid =
    let r = power_of side in
    let out = renewal_of side row column (as_rows r pyramid) in
    (out.0, as_quarters r out.1)

-- ---- Relay
-- what it says, and the second pyramid afterwards
pub record RelayOutcome : Type 0 where
  pub said : Said
  pub second : List ℤ

-- its checks, 1, 11, 3 for either pyramid, 4, 4, 5, from the side's power, the knit, the lengths lent, and whether the
-- sheet is sound row after row (S 5.2, S 12.2)
unfoldable pub relay_refusal : ℕ → ℕ → ℕ → ℕ → ℕ → ℕ → Bool → ℕ
relay_refusal r knit pyramid second serials order sound =
    lowest
    (side_unknown r ∷ knit_unknown knit ∷ pyramid_short r pyramid ∷ pyramid_short r second
    ∷ sheet_short r serials ∷ sheet_short r order ∷ sheet_unsound sound ∷ [])

-- The second pyramid gets the first one by quarters over its needed length, and what lies past that stays (S 12.2). A
-- refusal leaves it unchanged.
unfoldable pub relay_of : Progress → List ℤ → List ℕ → List ℕ → List ℤ → RelayOutcome
relay_of progress pyramid serials order second =
    let r = power_of progress.side in
    let sound = is_sound r (sheet_in r progress.dots pyramid serials order) in
    let refusal = relay_refusal r progress.knit (length pyramid) (length second) (length serials) (length order)
    sound in
    elim refusal [
      | zero ↦ record { said = returned []; second = quarters_from r pyramid ++ drop (needed r) second }
      | suc n ↦ record { said = refused (suc n); second = second }
    ]
