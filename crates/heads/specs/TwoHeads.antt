-- The laser with two heads: one macroblock worked (`work`), the macroblocks of a round (`macroblocks`), the rounds to
-- their end (`rounds`, `two_heads`), the call (`two_heads_by_quarters`) and the program (`two_heads_text`). Equal
-- entries do not take turns here: it is always the first.
use Rattle.std.specs.Prelude.{Bool, true, false, cond, not, ◌&&◌, ◌||◌, List, [], ◌∷◌, ◌++◌, ℕ, zero, suc, ◌+◌, ◌*◌}
use Rattle.std.specs.Prelude.{◌-◌, ◌/◌, ◌%◌, ◌^◌, leb, ltb, eqb, length, drop, ℤ, pos}
use Rattle.std.specs.Int.Signed.{le_z}
use Rattle.definition.specs.Lists.{tabulate}
use Rattle.definition.specs.Answers.{Said, returned, refused}
use Rattle.definition.specs.Pyramid.{half_dot, needed, cell_count, entry, four}
use Rattle.definition.specs.Descent.{first_of_equals, largest, descend}
use Rattle.definition.specs.Diffusion.{Kernel, plain, kernel_of}
use Rattle.definition.specs.Model.{Halftone, top_of, model_start, place_dot}
use Rattle.definition.specs.Quarters.{as_rows, as_quarters}
use Rattle.definition.specs.Refusals.{
  power_of,
  side_unknown,
  side_small,
  knit_unknown,
  greys_short,
  pyramid_short,
  sheet_short,
  grey_high,
  lowest,
}
use Rattle.definition.specs.Load.{low_map}
use Rattle.definition.specs.MapText.{accepted, rejected, read_low}
use Rattle.definition.specs.DrillList.{drill_text}
use Rattle.definition.specs.Plate.{refused_text}
use Rattle.definition.specs.declared.Progress.{Progress}

-- ---- one macroblock
-- A macroblock of 8 by 8 cells is four blocks of 4 by 4, which are entries of level r − 2: it goes by the row and the
-- column, on that level, of its top left one (S 13.1).
abbrev pub Macroblock : Type 0
Macroblock = ℕ × ℕ

-- the sums of its four blocks, by row and column, each 0 or 1 (S 13.2)
unfoldable pub block_sums : ℕ → List ℤ → Macroblock → ℕ → ℕ → ℤ
block_sums r pyramid m i j = entry pyramid (r - 2) (m.0 + i) (m.1 + j)

-- its own sum (S 13.2)
unfoldable pub macroblock_sum : ℕ → List ℤ → Macroblock → ℤ
macroblock_sum r pyramid m = four (block_sums r pyramid m) 0 0

-- the cell that it comes to: down from the block with the largest sum, of equals always the first (S 13.2)
unfoldable pub wanted : ℕ → List ℤ → Macroblock → ℕ × ℕ
wanted r pyramid m =
    let best = largest first_of_equals (block_sums r pyramid m) 0 0 in
    descend first_of_equals pyramid 2 (r - 2) (m.0 + best.row) (m.1 + best.column)

-- Of rows, and so of columns: x is none of the two rim rows of a macroblock, whose first is row 4a and whose last is
-- row 4a + 7, unless that side of the rim is the map's edge (S 13.3).
unfoldable pub clear : ℕ → ℕ → ℕ → Bool
clear r a x = (not (eqb x (4 * a)) || eqb a 0) && (not (eqb x (4 * a + 7)) || eqb (4 * a + 8) (2 ^ r))

-- the macroblock owes half a dot or more, and the cell that it comes to lies clear (S 13.2, S 13.3)
unfoldable pub burns : ℕ → List ℤ → Macroblock → Bool
burns r pyramid m =
    let cell = wanted r pyramid m in
    le_z (pos half_dot) (macroblock_sum r pyramid m) && clear r m.0 cell.0 && clear r m.1 cell.1

-- A macroblock worked: the cell is burnt and what it lacked spread as the engine does it, or nothing is done (S 13.3).
unfoldable pub work : Kernel → ℕ → Halftone → Macroblock → Halftone
work kernel r s m =
    elim (burns r s.pyramid m) [ true ↦ place_dot kernel r s (wanted r s.pyramid m) | false ↦ s ]

-- macroblocks worked one after the other; so their serials go by this order (S 13.4)
unfoldable pub work_all : Kernel → ℕ → Halftone → List Macroblock → Halftone
work_all kernel r s [] = s
work_all kernel r s (m ∷ ms) = work_all kernel r (work kernel r s m) ms

-- ---- rounds
-- where the macroblocks of round t, which counts from 0, begin, counted in blocks from the map's corner: in it, one to
-- the right, one down, then both, and so on in turn (S 13.1)
abbrev pub row_offset : ℕ → ℕ
row_offset t = t % 4 / 2

abbrev pub column_offset : ℕ → ℕ
column_offset t = t % 2

-- how many macroblocks lie wholly on the map, one beside the other, from an offset on (S 13.1)
abbrev pub across : ℕ → ℕ → ℕ
across r offset = (2 ^ (r - 2) - offset) / 2

-- the macroblocks of round t, by row then column (S 13.1)
unfoldable pub macroblocks : ℕ → ℕ → List Macroblock
macroblocks r t =
    let n = across r (column_offset t) in
    tabulate (across r (row_offset t) * n) (λ i. (row_offset t + 2 * (i / n), column_offset t + 2 * (i % n)))

-- Rounds, until four in a row have made no hole, but at most `fuel`: t have been made, the last `idle` of them without
-- a hole. Round t works the macroblocks that `order` names, in that order (S 13.4).
unfoldable pub rounds : Kernel → ℕ → (ℕ → List Macroblock) → ℕ → ℕ → ℕ → Halftone → Halftone
rounds kernel r order zero t idle s = s
rounds kernel r order (suc fuel) t idle s =
    elim (leb 4 idle) [
      | true ↦ s
      | false ↦
          let after = work_all kernel r s (order t) in
          rounds kernel r order fuel (suc t) (cond (eqb after.dots s.dots) (suc idle) 0) after
    ]

-- Each hole costs at most four rounds, and four more end the run: more than these are never made.
unfoldable pub most_rounds : ℕ → ℕ
most_rounds r = 4 * cell_count r + 4

-- a map run to the end, each round in an order of its own (S 13.4, S 15.15)
unfoldable pub two_heads_in : Kernel → ℕ → (ℕ → List Macroblock) → List ℕ → Halftone
two_heads_in kernel r order greys = rounds kernel r order (most_rounds r) 0 0 (model_start r greys)

-- and by row then column (S 13.5)
unfoldable pub two_heads : Kernel → ℕ → List ℕ → Halftone
two_heads kernel r greys = two_heads_in kernel r (macroblocks r) greys

-- ---- the call
-- what is answered and said, and the three buffers afterwards
pub record TwoHeadsOutcome : Type 0 where
  pub progress : Progress
  pub made : ℕ
  pub debt : ℤ
  pub said : Said
  pub pyramid : List ℤ
  pub serials : List ℕ
  pub order : List ℕ

-- its checks, 1, 14, 11, 2, 3, 4, 4, 12: those of Load, with 14 behind 1 (S 5.2)
unfoldable pub two_heads_refusal : ℕ → ℕ → ℕ → ℕ → ℕ → ℕ → Bool → ℕ
two_heads_refusal side knit greys pyramid serials order low =
    let r = power_of side in
    lowest
    (side_unknown r ∷ side_small side ∷ knit_unknown knit ∷ greys_short r greys ∷ pyramid_short r pyramid
    ∷ sheet_short r serials ∷ sheet_short r order ∷ grey_high low ∷ [])

-- The buffers as the run leaves them over their needed lengths, the record (side, holes, knit), the holes, and the top
-- as the debt. A refusal leaves every buffer unchanged and gives zeros beside its number (S 13.5).
unfoldable pub two_heads_of : ℕ → ℕ → List ℕ → List ℤ → List ℕ → List ℕ → TwoHeadsOutcome
two_heads_of side knit greys pyramid serials order =
    let r = power_of side in
    let low = low_map r greys in
    let run = two_heads (kernel_of knit) r greys in
    elim (two_heads_refusal side knit (length greys) (length pyramid) (length serials) (length order) low) [
      | zero ↦
          record {
            progress = record { side = side; dots = run.dots; knit = knit };
            made = run.dots;
            debt = top_of run.pyramid;
            said = returned [];
            pyramid = run.pyramid ++ drop (needed r) pyramid;
            serials = run.serials ++ drop (cell_count r) serials;
            order = run.order ++ drop (cell_count r) order;
          }
      | suc n ↦
          record {
            progress = record { side = 0; dots = 0; knit = 0 };
            made = 0;
            debt = pos 0;
            said = refused (suc n);
            pyramid = pyramid;
            serials = serials;
            order = order;
          }
    ]

-- the same on a pyramid by quarters, as the engine's calls are (`ByQuarters`) (S 13.5)
unfoldable pub two_heads_by_quarters : ℕ → ℕ → List ℕ → List ℤ → List ℕ → List ℕ → TwoHeadsOutcome
two_heads_by_quarters side knit greys pyramid serials order =
    let r = power_of side in
    let out = two_heads_of side knit greys (as_rows r pyramid) serials order in
    record {
      progress = out.progress;
      made = out.made;
      debt = out.debt;
      said = out.said;
      pyramid = as_quarters r out.pyramid;
      serials = out.serials;
      order = out.order;
    }

-- ---- the program
-- what `two_heads` prints for a map on plain cloth: its drill list, or the refusal of a side that is too small (S 14.6)
unfoldable pub two_heads_list : ℕ → List ℕ → List ℕ
two_heads_list side greys =
    let r = power_of side in
    elim (ltb side 16) [ true ↦ refused_text 14 | false ↦ drill_text r (two_heads (kernel_of plain) r greys) ]

-- and for an input: with `plate`'s limits, that of the map read, or the refusal (S 14.6)
unfoldable pub two_heads_text : List ℕ → List ℕ
two_heads_text input =
    elim (ltb 4099 (length input)) [
      | true ↦ refused_text 9
      | false ↦
          elim (read_low input 1024) [
            | accepted side greys ↦ two_heads_list side greys
            | rejected n ↦ refused_text n
          ]
    ]
