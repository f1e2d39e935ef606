-- Every call answers as it would row after row, places renamed: lent a pyramid that was written by quarters, it leaves
-- what the call by rows leaves, written by quarters, and the same otherwise; for every input, refused ones too
-- (`load_renamed_lem`, `advance_renamed_lem`, `drill_list_renamed`, `restore_renamed_lem`, `renewal_renamed`).
use Rattle.std.specs.Prelude.{◌≡◌, List, ℕ, ℤ}
use Rattle.std.proofs.Common.{ap}
use Rattle.definition.specs.Refusals.{power_of}
use Rattle.definition.specs.Load.{LoadOutcome, load_of}
use Rattle.definition.specs.Advance.{AdvanceOutcome, advance_of}
use Rattle.definition.specs.DrillList.{drill_list_of}
use Rattle.definition.specs.Renewal.{renewal_of}
use Rattle.definition.specs.Checkpoints.{RestoreOutcome, restore_of}
use Rattle.definition.specs.Quarters.{as_quarters}
use Rattle.definition.specs.ByQuarters.{
  load_by_quarters,
  advance_by_quarters,
  drill_list_by_quarters,
  restore_by_quarters,
  renewal_by_quarters,
}
use Rattle.definition.specs.declared.Progress.{Progress}
use Rattle.definition.specs.declared.Checkpoints.{Checkpoints}
use Rattle.layouts.specs.Lent.{rows_quarters}

-- an outcome with its pyramid written by quarters
abbrev pub load_renamed : ℕ → LoadOutcome → LoadOutcome
load_renamed r out =
    record {
      progress = out.progress;
      said = out.said;
      pyramid = as_quarters r out.pyramid;
      serials = out.serials;
      order = out.order;
    }

abbrev pub advance_renamed : ℕ → AdvanceOutcome → AdvanceOutcome
advance_renamed r out =
    record {
      reply = out.reply;
      pyramid = as_quarters r out.pyramid;
      serials = out.serials;
      order = out.order;
    }

abbrev pub restore_renamed : ℕ → RestoreOutcome → RestoreOutcome
restore_renamed r out =
    record {
      progress = out.progress;
      checkpoints = out.checkpoints;
      said = out.said;
      pyramid = as_quarters r out.pyramid;
      serials = out.serials;
      order = out.order;
    }

-- Load (S 15.14)
pub load_renamed_lem : (side knit : ℕ) (greys : List ℕ) (pyramid : List ℤ) (serials order : List ℕ)
    → let r = power_of side in
    load_by_quarters side knit greys (as_quarters r pyramid) serials order
    ≡ load_renamed r (load_of side knit greys pyramid serials order)
unfolding load_by_quarters
load_renamed_lem side knit greys pyramid serials order =
    ap (λ (p : List ℤ). load_renamed (power_of side) (load_of side knit greys p serials order))
    (rows_quarters (power_of side) pyramid)

-- Advance (S 15.14)
pub advance_renamed_lem : (progress : Progress) (budget : ℕ) (pyramid : List ℤ) (serials order : List ℕ)
    → let r = power_of progress.side in
    advance_by_quarters progress budget (as_quarters r pyramid) serials order
    ≡ advance_renamed r (advance_of progress budget pyramid serials order)
unfolding advance_by_quarters
advance_renamed_lem progress budget pyramid serials order =
    ap (λ (p : List ℤ). advance_renamed (power_of progress.side) (advance_of progress budget p serials order))
    (rows_quarters (power_of progress.side) pyramid)

-- Drill List (S 15.14)
pub drill_list_renamed : (progress : Progress) (pyramid : List ℤ) (serials order output : List ℕ)
    → drill_list_by_quarters progress (as_quarters (power_of progress.side) pyramid) serials order output
    ≡ drill_list_of progress pyramid serials order output
unfolding drill_list_by_quarters
drill_list_renamed progress pyramid serials order output =
    ap (λ (p : List ℤ). drill_list_of progress p serials order output)
    (rows_quarters (power_of progress.side) pyramid)

-- Restore (S 15.14)
pub restore_renamed_lem :
    (progress : Progress) (checkpoints : Checkpoints) (name : ℕ)
    (greys : List ℕ) (pyramid : List ℤ) (serials order : List ℕ)
    → let r = power_of progress.side in
    restore_by_quarters progress checkpoints name greys (as_quarters r pyramid) serials order
    ≡ restore_renamed r (restore_of progress checkpoints name greys pyramid serials order)
unfolding restore_by_quarters
restore_renamed_lem progress checkpoints name greys pyramid serials order =
    ap (λ (p : List ℤ).
    restore_renamed (power_of progress.side) (restore_of progress checkpoints name greys p serials order))
    (rows_quarters (power_of progress.side) pyramid)

-- the renewal by itself (S 15.14)
pub renewal_renamed : (side row column : ℕ) (pyramid : List ℤ)
    → let r = power_of side in
    let out = renewal_of side row column pyramid in
    renewal_by_quarters side row column (as_quarters r pyramid) ≡ (out.0, as_quarters r out.1)
unfolding renewal_by_quarters
renewal_renamed side row column pyramid =
    ap (λ (p : List ℤ).
    let out = renewal_of side row column p in
    (out.0, as_quarters (power_of side) out.1)) (rows_quarters (power_of side) pyramid)
