-- What the answer of each call says: a `Said`, and for a refusal its number, `number_of`; and what a call that refuses
-- answers beside it. All other modules speak in these terms.
use Rattle.std.specs.Prelude.{List, [], ◌∷◌, ℕ, replicate, pos, Result, Ok, Err}
use Rattle.std.specs.Result.{result_unwrap_or}
use Rattle.definition.specs.declared.Refusal.{Refusal}
use Rattle.definition.specs.declared.Refusal.TheVariants.{
  SideUnknown,
  GreysShort,
  PyramidShort,
  SheetShort,
  SheetUnsound,
  BlockUnknown,
  TextMalformed,
  OutputShort,
  InputLong,
  NameUnknown,
  KnitUnknown,
  GreyHigh,
  PairFalls,
  SideSmall,
}
use Rattle.definition.specs.declared.Progress.{Progress}
use Rattle.definition.specs.declared.Checkpoints.{Checkpoints}
use Rattle.definition.specs.declared.AdvanceStatus.{AdvanceStatus}
use Rattle.definition.specs.declared.AdvanceStatus.TheVariants.{Finished, More}
use Rattle.definition.specs.declared.CompareAnswer.{CompareAnswer}
use Rattle.definition.specs.declared.CompareAnswer.TheVariants as Compare
use Rattle.definition.specs.declared.SketchAnswer.{SketchAnswer}
use Rattle.definition.specs.declared.TwoHeadsAnswer.{TwoHeadsAnswer}

-- How the left of two plates stands to the right one: before it, the same, or after it; where a cell decides, with its
-- row and column (S 11.1).
pub data Compared : Type 0 where
  before : Compared
  before_at : ℕ → ℕ → Compared
  same : Compared
  after_at : ℕ → ℕ → Compared
  after : Compared

-- What a call says: the values that it returns; or "finished", or "more"; or how two plates compare; or the number of a
-- refusal (S 5.1).
pub data Said : Type 0 where
  returned : List ℕ → Said
  finished : Said
  more : Said
  comparison : Compared → Said
  refused : ℕ → Said

-- what a call that fills greys says, and the greys afterwards
pub record GreysOutcome : Type 0 where
  pub said : Said
  pub greys : List ℕ

-- the number of each refusal (S 5.1)
unfoldable pub number_of : Refusal → ℕ
number_of SideUnknown = 1
number_of GreysShort = 2
number_of PyramidShort = 3
number_of SheetShort = 4
number_of SheetUnsound = 5
number_of BlockUnknown = 6
number_of TextMalformed = 7
number_of OutputShort = 8
number_of InputLong = 9
number_of NameUnknown = 10
number_of KnitUnknown = 11
number_of GreyHigh = 12
number_of PairFalls = 13
number_of SideSmall = 14

-- A call that does its work says nothing more, or the number of its refusal: Load, Levels, Shelf, Keep, Restore, Relay
-- and Two Heads. What else they answer stands beside it (S 7.1, S 8.2, S 10.1, S 10.2, S 11.2, S 12.2, S 13.5).
unfoldable pub done_says : {A : Type 0} → Result A Refusal → Said
done_says (Ok _) = returned []
done_says (Err why) = refused (number_of why)

-- A call that answers one number says it, or the number of its refusal: Tally the dots of a square, Map Text the side,
-- Drill List, Quote Page and Lower Text the length of their text, Sample the state (S 6.6, S 8.1, S 9.1, S 12.1).
unfoldable pub value_says : Result ℕ Refusal → Said
value_says (Ok n) = returned (n ∷ [])
value_says (Err why) = refused (number_of why)

-- an Advance that is not refused says "finished" or "more" (S 7.3)
unfoldable pub status_says : AdvanceStatus → Said
status_says Finished = finished
status_says More = more

-- how two plates stand (S 11.1)
unfoldable pub stands : CompareAnswer → Compared
stands Compare.Before = before
stands (Compare.BeforeAt row column) = before_at row column
stands Compare.Same = same
stands (Compare.AfterAt row column) = after_at row column
stands Compare.After = after

-- Compare answers how two plates stand, or a number
unfoldable pub compare_says : Result CompareAnswer Refusal → Said
compare_says (Ok answer) = comparison (stands answer)
compare_says (Err why) = refused (number_of why)

-- Sketch Quote answers the side, and the least and the greatest total (S 9.4)
unfoldable pub sketch_says : Result SketchAnswer Refusal → Said
sketch_says (Ok answer) = returned (answer.side ∷ answer.least ∷ answer.greatest ∷ [])
sketch_says (Err why) = refused (number_of why)

-- a record that says nothing: the answer of a call that has none to give
abbrev pub no_record : Progress
no_record = record { side = 0; dots = 0; knit = 0 }

-- the record that Load answers: side 0, without dots, where it refuses (S 7.2)
abbrev pub load_record : Result Progress Refusal → Progress
load_record answer = result_unwrap_or answer no_record

-- the record after a Restore: as it was given where it refuses (S 10.3)
abbrev pub record_after : Progress → Result Progress Refusal → Progress
record_after given answer = result_unwrap_or answer given

-- the nine sums of Levels, all 0 where it refuses (S 8.2)
abbrev pub levels_sums : Result (List ℕ) Refusal → List ℕ
levels_sums answer = result_unwrap_or answer (replicate 9 0)

-- the value after Keep: as it was given where it refuses (S 10.1)
abbrev pub kept_after : Checkpoints → Result Checkpoints Refusal → Checkpoints
kept_after given answer = result_unwrap_or answer given

-- the record, the holes and the debt of Two Heads, all 0 where it refuses (S 13.5)
abbrev pub two_heads_answer : Result TwoHeadsAnswer Refusal → TwoHeadsAnswer
two_heads_answer answer = result_unwrap_or answer (record { progress = no_record; made = 0; debt = pos 0 })
