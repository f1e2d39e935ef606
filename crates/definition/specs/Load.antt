-- The call Load row after row: `load_of` is what it answers and leaves in every buffer, for every side and knit and all
-- lists lent, `loaded` a Load that is not refused. Here and elsewhere the buffers of a caller are lists: the pyramid
-- one of integers, the others of natural numbers.
use Rattle.std.specs.Prelude.{Bool, List, [], ◌∷◌, ◌++◌, ℕ, zero, suc, length, take, drop, ℤ}
use Rattle.definition.specs.Answers.{Said, returned, refused}
use Rattle.definition.specs.Pyramid.{needed, cell_count}
use Rattle.definition.specs.Model.{model_start}
use Rattle.definition.specs.Lowering.{none_high}
use Rattle.definition.specs.Refusals.{
  power_of,
  side_unknown,
  knit_unknown,
  greys_short,
  pyramid_short,
  sheet_short,
  grey_high,
  lowest,
}
use Rattle.definition.specs.declared.Progress.{Progress}

-- the record, what is said, and the three buffers afterwards
pub record LoadOutcome : Type 0 where
  pub progress : Progress
  pub said : Said
  pub pyramid : List ℤ
  pub serials : List ℕ
  pub order : List ℕ

-- whether none of the map's own greys is too high: those past its N² cells are not looked at (S 7.2)
unfoldable pub low_map : ℕ → List ℕ → Bool
low_map r greys = none_high (take (cell_count r) greys)

-- its checks, 1, 11, 2, 3, 4, 4, 12, from the side's power, the knit, the lengths lent, and whether the map's greys are
-- low (S 5.2)
unfoldable pub load_refusal : ℕ → ℕ → ℕ → ℕ → ℕ → ℕ → Bool → ℕ
load_refusal r knit greys pyramid serials order low =
    lowest
    (side_unknown r ∷ knit_unknown knit ∷ greys_short r greys ∷ pyramid_short r pyramid
    ∷ sheet_short r serials ∷ sheet_short r order ∷ grey_high low ∷ [])

-- The buffers get the model's start over their needed lengths; the record is (side, 0, knit) (S 7.1). What lies past
-- these lengths stays (S 2.9).
unfoldable pub loaded : ℕ → ℕ → ℕ → List ℕ → List ℤ → List ℕ → List ℕ → LoadOutcome
loaded side knit r greys pyramid serials order =
    let fresh = model_start r greys in
    record {
      progress = record { side = side; dots = 0; knit = knit };
      said = returned [];
      pyramid = fresh.pyramid ++ drop (needed r) pyramid;
      serials = fresh.serials ++ drop (cell_count r) serials;
      order = fresh.order ++ drop (cell_count r) order;
    }

-- A refused Load leaves every buffer unchanged, and answers the record (0, 0, 0) and the number (S 7.2).
unfoldable pub load_of : ℕ → ℕ → List ℕ → List ℤ → List ℕ → List ℕ → LoadOutcome
load_of side knit greys pyramid serials order =
    let r = power_of side in
    let low = low_map r greys in
    elim (load_refusal r knit (length greys) (length pyramid) (length serials) (length order) low) [
      | zero ↦ loaded side knit r greys pyramid serials order
      | suc n ↦
          record {
            progress = record { side = 0; dots = 0; knit = 0 };
            said = refused (suc n);
            pyramid = pyramid;
            serials = serials;
            order = order;
          }
    ]
