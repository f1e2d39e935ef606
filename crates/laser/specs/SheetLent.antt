-- What the run is asked (`SheetLent`), and what it leaves.
use Rattle.std.specs.Prelude.{List, [], ◌++◌, ℕ, ◌≤◌, length, take, drop, ℤ}
use Rattle.definition.specs.Answers.{returned}
use Rattle.definition.specs.Pyramid.{needed, cell_count}
use Rattle.definition.specs.Quarters.{rows_from, quarters_from}
use Rattle.definition.specs.Diffusion.{kernel_of}
use Rattle.definition.specs.Model.{Halftone, top_of}
use Rattle.dots.proofs.Steps.{Sheet}
use Rattle.heads.specs.TwoHeads.{macroblocks, rounds, most_rounds, TwoHeadsOutcome}

-- the sheet without dots that lies in the buffers, with its pyramid written row after row
abbrev pub sheet_of : ℕ → List ℤ → List ℕ → List ℕ → Halftone
sheet_of r p s o =
    record { pyramid = rows_from r p; serials = take (cell_count r) s; order = take (cell_count r) o; dots = 0 }

-- that sheet is sound, and the map has room for macroblocks
pub record SheetLent (r : ℕ) (p : List ℤ) (s o : List ℕ) : Type 0 where
  pub least : 4 ≤ r
  pub most : r ≤ 8
  pub pyramid_long : needed r ≤ length p
  pub serials_long : cell_count r ≤ length s
  pub order_long : cell_count r ≤ length o
  pub sheet : Sheet r (sheet_of r p s o)

-- its run, by row then column
abbrev pub run_of : ℕ → ℕ → Halftone → Halftone
run_of knit r first = rounds (kernel_of knit) r (macroblocks r) (most_rounds r) 0 0 first

-- the answer, and the buffers with that run over their needed lengths
abbrev pub ran_of : ℕ → ℕ → ℕ → List ℤ → List ℕ → List ℕ → TwoHeadsOutcome
ran_of side knit r p s o =
    let run = run_of knit r (sheet_of r p s o) in
    record {
      progress = record { side = side; dots = run.dots; knit = knit };
      made = run.dots;
      debt = top_of run.pyramid;
      said = returned [];
      pyramid = quarters_from r run.pyramid ++ drop (needed r) p;
      serials = run.serials ++ drop (cell_count r) s;
      order = run.order ++ drop (cell_count r) o;
    }
