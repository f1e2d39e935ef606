-- What the functions for C return and write (S 16.1), from what the calls' definitions say: one record for each
-- (`LoadCode`, `AdvanceCode`, `TextCode` and so on).
use Rattle.std.specs.Prelude.{Bool, cond, List, [], ◌∷◌, ℕ, ℤ, get_or}
use Rattle.std.proofs.lemmas.List.Edits.{sets}
use Rattle.definition.specs.Answers.{
  Said,
  GreysOutcome,
  returned,
  finished,
  more,
  comparison,
  refused,
  Compared,
  before,
  before_at,
  same,
  after_at,
  after,
}
use Rattle.definition.specs.Checkpoints.{keep_of}
use Rattle.definition.specs.ByQuarters.{load_by_quarters, advance_by_quarters, restore_by_quarters, RelayOutcome}
use Rattle.definition.specs.Survey.{tally_of, levels_of}
use Rattle.definition.specs.Text.{TextOutcome}
use Rattle.definition.specs.LowerText.{LowerTextOutcome}
use Rattle.definition.specs.SketchQuote.{SketchOutcome}
use Rattle.definition.specs.Shelf.{ShelfOutcome}
use Rattle.heads.specs.TwoHeads.{two_heads_by_quarters}

-- 102 to 106 for what a comparison says
unfoldable pub compared_code : Compared → ℕ
compared_code before = 102
compared_code (before_at row column) = 103
compared_code same = 104
compared_code (after_at row column) = 105
compared_code after = 106

-- 0 where the call did its work, 100 for "more", a comparison's code, else the number of the refusal
unfoldable pub code_of : Said → ℕ
code_of (returned values) = 0
code_of finished = 0
code_of more = 100
code_of (comparison c) = compared_code c
code_of (refused n) = n

-- the first value returned; 0 where there is none
unfoldable pub value_of : Said → ℕ
value_of (returned []) = 0
value_of (returned (v ∷ values)) = v
value_of finished = 0
value_of more = 0
value_of (comparison c) = 0
value_of (refused n) = 0

pub record LoadCode : Type 0 where
  pub code : ℕ
  pub side : ℕ
  pub dots : ℕ
  pub knit : ℕ
  pub pyramid : List ℤ
  pub serials : List ℕ
  pub order : List ℕ

unfoldable pub load_code : ℕ → ℕ → List ℕ → List ℤ → List ℕ → List ℕ → LoadCode
load_code side knit greys pyramid serials order =
    let o = load_by_quarters side knit greys pyramid serials order in
    record {
      code = code_of o.said;
      side = o.progress.side;
      dots = o.progress.dots;
      knit = o.progress.knit;
      pyramid = o.pyramid;
      serials = o.serials;
      order = o.order;
    }

pub record AdvanceCode : Type 0 where
  pub code : ℕ
  pub dots : ℕ
  pub made : ℕ
  pub pyramid : List ℤ
  pub serials : List ℕ
  pub order : List ℕ

unfoldable pub advance_code : ℕ → ℕ → ℕ → ℕ → List ℤ → List ℕ → List ℕ → AdvanceCode
advance_code side dots knit budget pyramid serials order =
    let o = advance_by_quarters (record { side = side; dots = dots; knit = knit }) budget pyramid serials order in
    record {
      code = code_of o.reply.said;
      dots = o.reply.progress.dots;
      made = o.reply.made;
      pyramid = o.pyramid;
      serials = o.serials;
      order = o.order;
    }

-- Keep: the value is changed in place
pub record KeepCode : Type 0 where
  pub code : ℕ
  pub kept : List ℕ

unfoldable pub keep_code : ℕ → ℕ → ℕ → List ℕ → ℕ → KeepCode
keep_code side dots knit kept name =
    let o = keep_of (record { side = side; dots = dots; knit = knit }) (record { kept = kept }) name in
    record { code = code_of o.said; kept = o.checkpoints.kept }

-- Restore: the value is only read
pub record RestoreCode : Type 0 where
  pub code : ℕ
  pub dots : ℕ
  pub pyramid : List ℤ
  pub serials : List ℕ
  pub order : List ℕ

unfoldable pub restore_code :
    ℕ → ℕ → ℕ → List ℕ → ℕ → List ℕ → List ℤ → List ℕ → List ℕ → RestoreCode
restore_code side dots knit kept name greys pyramid serials order =
    let o = restore_by_quarters (record { side = side; dots = dots; knit = knit }) (record { kept = kept }) name
    greys pyramid serials order in
    record {
      code = code_of o.said;
      dots = o.progress.dots;
      pyramid = o.pyramid;
      serials = o.serials;
      order = o.order;
    }

pub record TallyCode : Type 0 where
  pub code : ℕ
  pub value : ℕ

unfoldable pub tally_code : ℕ → List ℕ → ℕ → ℕ → ℕ → TallyCode
tally_code side serials level row column =
    let said = tally_of side serials level row column in record { code = code_of said; value = value_of said }

pub record LevelsCode : Type 0 where
  pub code : ℕ
  pub sums : List ℕ

-- the nine sums are stored in the first places, as far as there are places
unfoldable pub levels_code : ℕ → List ℕ → List ℕ → List ℕ → LevelsCode
levels_code side greys serials sums =
    let o = levels_of side greys serials in record { code = code_of o.said; sums = sets sums 0 o.sums }

-- Map Text and the sample
pub record GreysCode : Type 0 where
  pub code : ℕ
  pub value : ℕ
  pub greys : List ℕ

unfoldable pub greys_code : GreysOutcome → GreysCode
greys_code o = record { code = code_of o.said; value = value_of o.said; greys = o.greys }

-- Drill List and Quote Page
pub record TextCode : Type 0 where
  pub code : ℕ
  pub length : ℕ
  pub output : List ℕ

unfoldable pub text_code : TextOutcome → TextCode
text_code o = record { code = code_of o.said; length = value_of o.said; output = o.output }

-- Lower Text: the lowered greys beside it
pub record LowerTextCode : Type 0 where
  pub code : ℕ
  pub length : ℕ
  pub greys : List ℕ
  pub output : List ℕ

unfoldable pub lower_text_code : LowerTextOutcome → LowerTextCode
lower_text_code o =
    record { code = code_of o.said; length = value_of o.said; greys = o.greys; output = o.output }

-- all values returned; none where there are none
unfoldable pub values_in : Said → List ℕ
values_in (returned values) = values
values_in finished = []
values_in more = []
values_in (comparison c) = []
values_in (refused n) = []

-- Sketch Quote: the side, the least total and the greatest, each 0 where it refuses
pub record SketchCode : Type 0 where
  pub code : ℕ
  pub side : ℕ
  pub least : ℕ
  pub greatest : ℕ
  pub lows : List ℕ
  pub highs : List ℕ
  pub caps : List ℕ

unfoldable pub sketch_code : SketchOutcome → SketchCode
sketch_code o =
    let values = values_in o.said in
    record {
      code = code_of o.said;
      side = get_or values 0 0;
      least = get_or values 1 0;
      greatest = get_or values 2 0;
      lows = o.lows;
      highs = o.highs;
      caps = o.caps;
    }

-- Two Heads: the record, the holes and the debt
pub record TwoHeadsCode : Type 0 where
  pub code : ℕ
  pub side : ℕ
  pub dots : ℕ
  pub knit : ℕ
  pub made : ℕ
  pub debt : ℤ
  pub pyramid : List ℤ
  pub serials : List ℕ
  pub order : List ℕ

unfoldable pub two_heads_code : ℕ → ℕ → List ℕ → List ℤ → List ℕ → List ℕ → TwoHeadsCode
two_heads_code side knit greys pyramid serials order =
    let o = two_heads_by_quarters side knit greys pyramid serials order in
    record {
      code = code_of o.said;
      side = o.progress.side;
      dots = o.progress.dots;
      knit = o.progress.knit;
      made = o.made;
      debt = o.debt;
      pyramid = o.pyramid;
      serials = o.serials;
      order = o.order;
    }

-- the row and the column of the cell that a comparison names; 0 and 0 where it names none
unfoldable pub cell_of : Said → ℕ × ℕ
cell_of (returned values) = (0, 0)
cell_of finished = (0, 0)
cell_of more = (0, 0)
cell_of (comparison before) = (0, 0)
cell_of (comparison (before_at row column)) = (row, column)
cell_of (comparison same) = (0, 0)
cell_of (comparison (after_at row column)) = (row, column)
cell_of (comparison after) = (0, 0)
cell_of (refused n) = (0, 0)

pub record CompareCode : Type 0 where
  pub code : ℕ
  pub row : ℕ
  pub column : ℕ

unfoldable pub compare_code : Said → CompareCode
compare_code said = record { code = code_of said; row = (cell_of said).0; column = (cell_of said).1 }

pub record ShelfCode : Type 0 where
  pub code : ℕ
  pub list : List ℕ

unfoldable pub shelf_code : ShelfOutcome → ShelfCode
shelf_code o = record { code = code_of o.said; list = o.list }

-- Relay: the second pyramid
pub record RelayCode : Type 0 where
  pub code : ℕ
  pub second : List ℤ

unfoldable pub relay_code : RelayOutcome → RelayCode
relay_code o = record { code = code_of o.said; second = o.second }

-- the renewal by itself: whether it is made, and the pyramid
pub record RenewCode : Type 0 where
  pub code : ℕ
  pub pyramid : List ℤ

unfoldable pub renew_code : Bool × List ℤ → RenewCode
renew_code outcome = record { code = cond outcome.0 0 101; pyramid = outcome.1 }
