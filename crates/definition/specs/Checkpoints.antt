-- Names for stages of a map: what `keep_of` and `restore_of` answer and leave, for every record, value and name and all
-- lists lent. The value beside the sheet, `Checkpoints`, has the dots kept under each of eight names. Keep writes the
-- record's dots down under a name, Restore goes back to them.
use Rattle.std.specs.Prelude.{Bool, false, not, ◌&&◌, List, [], ◌∷◌, ◌++◌, ℕ, zero, suc, ◌-◌, leb, length, get_or, set}
use Rattle.std.specs.Prelude.{drop, ℤ}
use Rattle.definition.specs.Answers.{Said, returned, refused}
use Rattle.definition.specs.Pyramid.{needed, cell_count}
use Rattle.definition.specs.Blocks.{grey_total, total_of}
use Rattle.definition.specs.Diffusion.{kernel_of}
use Rattle.definition.specs.Model.{model_start, steps}
use Rattle.definition.specs.Sound.{is_sound}
use Rattle.definition.specs.Refusals.{
  Row,
  power_of,
  side_unknown,
  knit_unknown,
  greys_short,
  pyramid_short,
  sheet_short,
  sheet_unsound,
  grey_high,
  lowest,
}
use Rattle.definition.specs.Load.{low_map}
use Rattle.definition.specs.Advance.{sheet_in}
use Rattle.definition.specs.declared.Progress.{Progress}
use Rattle.definition.specs.declared.Checkpoints.{Checkpoints}

-- the names are 1 to 8 (S 2.11)
unfoldable pub is_name : ℕ → Bool
is_name name = leb 1 name && leb name 8

-- what stands under a name: 0 while it is empty, and with n dots kept suc n (S 2.11)
unfoldable pub kept_at : Checkpoints → ℕ → ℕ
kept_at checkpoints name = get_or checkpoints.kept (name - 1) 0

-- refusal 10: a name that will not do (S 5.1)
abbrev pub name_unknown : Bool → Row
name_unknown known = (10, not known)

-- ---- Keep: the checks 1, then 10
-- from the side's power and the name (S 5.2)
unfoldable pub keep_refusal : ℕ → ℕ → ℕ
keep_refusal r name = lowest (side_unknown r ∷ name_unknown (is_name name) ∷ [])

-- the record and the value afterwards, and what is said
pub record KeepOutcome : Type 0 where
  pub progress : Progress
  pub checkpoints : Checkpoints
  pub said : Said

-- The record's dots are written down, whatever they are; the other names stay. A refusal gives back record and value
-- (S 10.1).
unfoldable pub keep_of : Progress → Checkpoints → ℕ → KeepOutcome
keep_of progress checkpoints name =
    elim (keep_refusal (power_of progress.side) name) [
      | zero ↦
          record {
            progress = progress;
            checkpoints = record { kept = set checkpoints.kept (name - 1) (suc progress.dots) };
            said = returned [];
          }
      | suc n ↦ record { progress = progress; checkpoints = checkpoints; said = refused (suc n) }
    ]

-- ---- Restore, the return to a name
-- a name will do if it is one of the eight, not empty, and has at most as many dots as the map comes to (S 10.3)
unfoldable pub can_restore : Checkpoints → ℕ → ℕ → Bool
can_restore checkpoints name total =
    is_name name && elim (kept_at checkpoints name) [ zero ↦ false | suc dots ↦ leb dots total ]

-- its checks, 1, 11, 2, 3, 4, 4, 5, 12, 10, from the side's power, the knit, the lengths lent, whether the sheet is
-- sound, whether the map's greys are low, and whether the name will do (S 5.2)
unfoldable pub restore_refusal : ℕ → ℕ → ℕ → ℕ → ℕ → ℕ → Bool → Bool → Bool → ℕ
restore_refusal r knit greys pyramid serials order sound low known =
    lowest
    (side_unknown r ∷ knit_unknown knit ∷ greys_short r greys ∷ pyramid_short r pyramid
    ∷ sheet_short r serials ∷ sheet_short r order ∷ sheet_unsound sound ∷ grey_high low ∷ name_unknown known ∷ [])

-- the record, the value and the three buffers afterwards, and what is said
pub record RestoreOutcome : Type 0 where
  pub progress : Progress
  pub checkpoints : Checkpoints
  pub said : Said
  pub pyramid : List ℤ
  pub serials : List ℕ
  pub order : List ℕ

-- the sheet that the model of these greys has with so many dots, over the needed lengths of the buffers; the record
-- keeps its side and knit, and the value stays (S 10.2)
unfoldable pub restored :
    Progress → ℕ → ℕ → Checkpoints
    → List ℕ → List ℤ → List ℕ → List ℕ → RestoreOutcome
restored progress r dots checkpoints greys pyramid serials order =
    let sheet = steps (kernel_of progress.knit) r dots (model_start r greys) in
    record {
      progress = record { side = progress.side; dots = dots; knit = progress.knit };
      checkpoints = checkpoints;
      said = returned [];
      pyramid = sheet.pyramid ++ drop (needed r) pyramid;
      serials = sheet.serials ++ drop (cell_count r) serials;
      order = sheet.order ++ drop (cell_count r) order;
    }

-- The sheet that lies in the buffers has to be sound too. A refusal gives back record and value, and leaves every
-- buffer unchanged (S 10.2, S 10.3).
unfoldable pub restore_of :
    Progress → Checkpoints → ℕ → List ℕ → List ℤ → List ℕ → List ℕ → RestoreOutcome
restore_of progress checkpoints name greys pyramid serials order =
    let r = power_of progress.side in
    let sound = is_sound r (sheet_in r progress.dots pyramid serials order) in
    let known = can_restore checkpoints name (total_of (grey_total r greys)) in
    let refusal = restore_refusal r progress.knit (length greys) (length pyramid) (length serials) (length order)
    sound (low_map r greys) known in
    elim refusal [
      | zero ↦ restored progress r (kept_at checkpoints name - 1) checkpoints greys pyramid serials order
      | suc n ↦
          record {
            progress = progress;
            checkpoints = checkpoints;
            said = refused (suc n);
            pyramid = pyramid;
            serials = serials;
            order = order;
          }
    ]
