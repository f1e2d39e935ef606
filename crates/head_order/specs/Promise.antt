-- What is promised of the laser with two heads: of one macroblock, what two heads need to work at the same time
-- (`OwnCells`; `Apart` of two of one round); of a run, on any fit table of weights (`TwoHeads`); of the call
-- (`HeadsHold`).
use Rattle.std.specs.Prelude.{◌≡◌, ◌≢◌, List, [], ◌∷◌, ◌++◌, ℕ, ◌+◌, ◌*◌, ◌-◌, ◌^◌, ◌≤◌, ◌<◌, length, get_or, take}
use Rattle.std.specs.Prelude.{drop, ℤ, pos, ◌+ℤ◌}
use Rattle.definition.specs.Answers.{returned}
use Rattle.definition.specs.Pyramid.{one_dot, needed, cell_count, entry}
use Rattle.definition.specs.Blocks.{burnt_at, grey_total, all_dots}
use Rattle.definition.specs.Diffusion.{Kernel, kernel_of}
use Rattle.definition.specs.Model.{Halftone, top_of}
use Rattle.definition.specs.Sound.{Sound}
use Rattle.definition.specs.DrillList.{drill_text}
use Rattle.definition.specs.Quarters.{quarters_from}
use Rattle.definition.specs.ByQuarters.{drill_list_by_quarters}
use Rattle.heads.specs.TwoHeads.{
  Macroblock,
  wanted,
  burns,
  work,
  work_all,
  macroblocks,
  two_heads_in,
  TwoHeadsOutcome,
  two_heads_by_quarters,
}
use Rattle.quadtree.specs.Areas.{In}
use Rattle.dots.proofs.Steps.{Sheet}
use Rattle.guarantee.specs.PriceList.{Each}
use Rattle.guarantee.proofs.Listed.{listed_of}

-- ---- the cells of a macroblock
-- cell (x, y) is one of its 64
pub record Has (m : Macroblock) (x y : ℕ) : Type 0 where
  pub row : In (4 * m.0) 8 x
  pub column : In (4 * m.1) 8 y

-- it lies wholly on the map (S 13.1)
pub record Fits (r : ℕ) (m : Macroblock) : Type 0 where
  pub row : m.0 + 2 ≤ 2 ^ (r - 2)
  pub column : m.1 + 2 ≤ 2 ^ (r - 2)

-- two of them have no cell in common
pub record Apart (m n : Macroblock) : Type 0 where
  pub none : (x y : ℕ) → Has m x y → Has n x y → ⊥

-- two sheets have the same residuals in the macroblock's cells
abbrev pub Agree : ℕ → Macroblock → Halftone → Halftone → Type 0
Agree r m s t = (x y : ℕ) → Has m x y → entry s.pyramid r x y ≡ entry t.pyramid r x y

-- Of a macroblock and a sheet: what it does, and what it leaves in its own cells, is the same on every sheet that has
-- the same residuals there; and a cell that is none of its own keeps its residual and its mark.
pub record OwnCells (kernel : Kernel) (r : ℕ) (s : Halftone) (m : Macroblock) : Type 0 where
  pub reads : (t : Halftone) → Sheet r t → Agree r m s t
      → (burns r s.pyramid m ≡ burns r t.pyramid m) × (wanted r s.pyramid m ≡ wanted r t.pyramid m)
  pub leaves : (t : Halftone) → Sheet r t → Agree r m s t → Agree r m (work kernel r s m) (work kernel r t m)
  pub marks : (t : Halftone) → Sheet r t → Agree r m s t → (x y : ℕ) → Has m x y
      → burnt_at r s.serials x y ≡ burnt_at r t.serials x y
      → burnt_at r (work kernel r s m).serials x y ≡ burnt_at r (work kernel r t m).serials x y
  pub writes : (x y : ℕ) → x < 2 ^ r → y < 2 ^ r → (Has m x y → ⊥)
      → (entry (work kernel r s m).pyramid r x y ≡ entry s.pyramid r x y)
      × (burnt_at r (work kernel r s m).serials x y ≡ burnt_at r s.serials x y)

-- ---- a run
-- the same elements in another order: the first one stands somewhere, and what is left there are the others
abbrev pub Reordered : {A : Type 0} → List A → List A → Type 0
Reordered {A = A} [] ys = ys ≡ []
Reordered {A = A} (x ∷ xs) ys = record {
  before : List A;
  after : List A;
  is : ys ≡ before ++ x ∷ after;
  rest : Reordered xs (before ++ after);
}

-- the same pyramid and the same burnt cells; the serials, which number the holes, may differ
pub record SameBurnt (r : ℕ) (s t : Halftone) : Type 0 where
  pub pyramid : s.pyramid ≡ t.pyramid
  pub cells : (row column : ℕ) → row < 2 ^ r → column < 2 ^ r
      → burnt_at r s.serials row column ≡ burnt_at r t.serials row column

pub record TwoHeads (kernel : Kernel) (r : ℕ) (greys : List ℕ) (run : Halftone) : Type 0 where
  -- a sheet that Drill List takes
  pub sound : Sound r run
  -- no cell is burnt twice: the places of the order list that are used are all different
  pub once : (i j : ℕ) → i < j → j < run.dots → get_or run.order i 0 ≢ get_or run.order j 0
  -- 65,280 for each hole, and the debt at the top, are 256 times the sum of the greys
  pub debt : pos (one_dot * run.dots) +ℤ top_of run.pyramid ≡ pos (256 * grey_total r greys)
  -- it has stopped: no round, of whatever offset, makes a hole
  pub stopped : (t : ℕ) → work_all kernel r run (macroblocks r t) ≡ run
  -- each round may be worked in an order of its own
  pub any_order : (order : ℕ → List Macroblock) → ((t : ℕ) → Reordered (macroblocks r t) (order t))
      → SameBurnt r (two_heads_in kernel r order greys) run

-- ---- the call
-- greys that are bytes, and a call that is not refused
pub record HeadsAccepted (side knit : ℕ) (greys : List ℕ) (pyramid : List ℤ) (serials order : List ℕ) : Type 0 where
  pub bytes : Each (λ grey. grey ≤ 255) greys
  pub said : (two_heads_by_quarters side knit greys pyramid serials order).said ≡ returned []

-- Of the buffers as they were lent, of what comes back, and of the run that the definition makes of the greys: r is the
-- power of the side.
pub record HeadsHold (side knit r : ℕ) (greys : List ℕ) (lent_pyramid : List ℤ) (lent_serials lent_order : List ℕ)
    (out : TwoHeadsOutcome) (run : Halftone) : Type 0 where
  -- a side from 16 on, and one of the two knits
  pub power : 4 ≤ r
  pub side_is : side ≡ 2 ^ r
  pub known : knit ≤ 1
  -- the record, the holes and the debt (S 13.5)
  pub progress : out.progress ≡ record { side = side; dots = out.made; knit = knit }
  pub made : out.made ≡ run.dots
  pub top : out.debt ≡ top_of out.pyramid
  -- what is needed of each buffer is the run's, the pyramid's written by quarters (S 13.5)
  pub pyramid : take (needed r) out.pyramid ≡ quarters_from r run.pyramid
  pub serials : take (cell_count r) out.serials ≡ run.serials
  pub order : take (cell_count r) out.order ≡ run.order
  -- and what lies past it is as it was lent (S 2.9)
  pub pyramid_rest : drop (needed r) out.pyramid ≡ drop (needed r) lent_pyramid
  pub serials_rest : drop (cell_count r) out.serials ≡ drop (cell_count r) lent_serials
  pub order_rest : drop (cell_count r) out.order ≡ drop (cell_count r) lent_order
  -- 65,280 for each hole, and the debt, are 256 times the sum of the greys (S 15.15)
  pub debt : pos (one_dot * out.made) +ℤ out.debt ≡ pos (256 * grey_total r greys)
  -- no cell is burnt twice (S 15.15), and the burnt cells of the whole map are the holes
  pub once : (i j : ℕ) → i < j → j < out.made → get_or out.order i 0 ≢ get_or out.order j 0
  pub all_dots_lem : all_dots r out.serials ≡ out.made
  -- no round, of whatever offset, would make another hole (S 15.15)
  pub stopped : (t : ℕ) → work_all (kernel_of knit) r run (macroblocks r t) ≡ run
  -- the same pyramid and the same burnt cells whatever the order within each round (S 15.15)
  pub any_order : (order : ℕ → List Macroblock) → ((t : ℕ) → Reordered (macroblocks r t) (order t))
      → SameBurnt r (two_heads_in (kernel_of knit) r order greys) run
  -- a sound sheet: Drill List prints it wherever there is room (S 15.15)
  pub sound : Sound r run
  pub listed : (output : List ℕ) → length (drill_text r run) ≤ length output
      → drill_list_by_quarters out.progress out.pyramid out.serials out.order output ≡ listed_of r run output
