-- The call Advance row after row: what it answers and leaves in every buffer, for every record, every budget and all
-- lists lent. `advance_of` is the whole of it, `advanced` one that is not refused; `dots_due` says how many dots are
-- due.
use Rattle.std.specs.Prelude.{Bool, cond, List, [], ◌∷◌, ◌++◌, ℕ, zero, suc, ◌+◌, ◌/◌, min, length, take, drop, ℤ, pos}
use Rattle.std.specs.Prelude.{Result, Ok, Err}
use Rattle.std.specs.Prelude.{nat_abs}
use Rattle.std.specs.Int.Signed.{lt_z}
use Rattle.definition.specs.Answers.{Said, finished, more, refused, number_of, status_says}
use Rattle.definition.specs.Pyramid.{one_dot, half_dot, needed, cell_count}
use Rattle.definition.specs.Diffusion.{kernel_of}
use Rattle.definition.specs.Model.{Halftone, top_of, steps}
use Rattle.definition.specs.Sound.{is_sound}
use Rattle.definition.specs.Refusals.{
  power_of,
  side_unknown,
  knit_unknown,
  pyramid_short,
  sheet_short,
  sheet_unsound,
  lowest,
}
use Rattle.definition.specs.declared.Progress.{Progress}
use Rattle.definition.specs.declared.AdvanceAnswer.{AdvanceAnswer}
use Rattle.definition.specs.declared.Refusal.{Refusal}

-- what Advance answers: the new record, the dots made in this call, and what it says (S 7.3)
pub record Reply : Type 0 where
  pub progress : Progress
  pub made : ℕ
  pub said : Said

-- what its code answers is this: where it refuses, the record that it was given, and 0 dots made (S 7.4)
unfoldable pub reply_of : Progress → Result AdvanceAnswer Refusal → Reply
reply_of given (Ok answer) =
    record { progress = answer.progress; made = answer.made; said = status_says answer.status }
reply_of given (Err why) = record { progress = given; made = 0; said = refused (number_of why) }

-- its answer, and the three buffers afterwards
pub record AdvanceOutcome : Type 0 where
  pub reply : Reply
  pub pyramid : List ℤ
  pub serials : List ℕ
  pub order : List ℕ

-- how many dots are due with a top of t: none below half a dot (S 3.1)
unfoldable pub dots_due : ℤ → ℕ
dots_due t = cond (lt_z t (pos half_dot)) 0 ((nat_abs t + half_dot) / one_dot)

-- what is said with this top: "finished" where no dot is due, else "more" (S 7.3)
unfoldable pub said_at : ℤ → Said
said_at t = cond (lt_z t (pos half_dot)) finished more

-- the sheet with so many dots that lies in the buffers: each over its needed length, and nothing past it (S 2.8, S 2.9)
unfoldable pub sheet_in : ℕ → ℕ → List ℤ → List ℕ → List ℕ → Halftone
sheet_in r dots pyramid serials order =
    record {
      pyramid = take (needed r) pyramid;
      serials = take (cell_count r) serials;
      order = take (cell_count r) order;
      dots = dots;
    }

-- its checks, 1, 11, 3, 4, 4, 5, from the side's power, the knit, the lengths lent, and whether the sheet is sound
-- (S 5.2)
unfoldable pub advance_refusal : ℕ → ℕ → ℕ → ℕ → ℕ → Bool → ℕ
advance_refusal r knit pyramid serials order sound =
    lowest
    (side_unknown r ∷ knit_unknown knit ∷ pyramid_short r pyramid ∷ sheet_short r serials ∷ sheet_short r order
    ∷ sheet_unsound sound ∷ [])

-- An Advance that is not refused makes the dots that are due, but no more than the budget, which is any number, and
-- spreads them by the record's knit (S 7.3). What lies past the needed lengths stays (S 2.9).
unfoldable pub advanced : ℕ → Progress → ℕ → List ℤ → List ℕ → List ℕ → AdvanceOutcome
advanced r progress budget pyramid serials order =
    let before = sheet_in r progress.dots pyramid serials order in
    let made = min budget (dots_due (top_of before.pyramid)) in
    let after = steps (kernel_of progress.knit) r made before in
    record {
      reply =
          record {
            progress = record { side = progress.side; dots = after.dots; knit = progress.knit };
            made = made;
            said = said_at (top_of after.pyramid);
          };
      pyramid = after.pyramid ++ drop (needed r) pyramid;
      serials = after.serials ++ drop (cell_count r) serials;
      order = after.order ++ drop (cell_count r) order;
    }

-- Any sound sheet will do, whatever made it (S 7.5). A refused call leaves every buffer unchanged, and answers the
-- record that it was given, 0 dots made, and the number (S 7.4).
unfoldable pub advance_of : Progress → ℕ → List ℤ → List ℕ → List ℕ → AdvanceOutcome
advance_of progress budget pyramid serials order =
    let r = power_of progress.side in
    let sound = is_sound r (sheet_in r progress.dots pyramid serials order) in
    elim (advance_refusal r progress.knit (length pyramid) (length serials) (length order) sound) [
      | zero ↦ advanced r progress budget pyramid serials order
      | suc n ↦ record {
        reply = record { progress = progress; made = 0; said = refused (suc n) };
        pyramid = pyramid;
        serials = serials;
        order = order;
      }
    ]
