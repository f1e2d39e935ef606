-- Lists of Advance, Keep and Restore calls after one Load, each with the record and value that the calls before it left
-- (`caller_after_all`, `answers_of`); and the model fed with them (`memory_after_all`, `model_answers`), in which a
-- name holds the whole sheet, and a return puts that sheet back.
use Rattle.std.specs.Prelude.{Bool, true, false, ◌&&◌, List, [], ◌∷◌, ◌++◌, map, ℕ, zero, suc, ◌-◌, ◌^◌, get_or, set}
use Rattle.std.specs.Prelude.{take, drop, replicate, ℤ}
use Rattle.std.proofs.Math.Option.{Option, some, none}
use Rattle.definition.specs.Answers.{Said, returned, refused}
use Rattle.definition.specs.Model.{Halftone, model_start}
use Rattle.definition.specs.Refusals.{greys_short, pyramid_short, sheet_short, lowest}
use Rattle.definition.specs.Advance.{Reply}
use Rattle.definition.specs.AdvanceList.{Call, Held, held_after_load, call_of, held_after, model_call, model_reply}
use Rattle.definition.specs.Checkpoints.{is_name, name_unknown, keep_of, RestoreOutcome}
use Rattle.definition.specs.ByQuarters.{restore_by_quarters}
use Rattle.definition.specs.declared.Progress.{Progress}
use Rattle.definition.specs.declared.Checkpoints.{Checkpoints}

-- a return to a name, and how many places of the greys that were loaded and of the buffers it is lent (S 15.9)
pub record Return : Type 0 where
  pub name : ℕ
  pub greys_lent : ℕ
  pub pyramid_lent : ℕ
  pub serials_lent : ℕ
  pub order_lent : ℕ

-- a call of the list (S 15.9)
pub data Action : Type 0 where
  advancing : Call → Action
  keeping : ℕ → Action
  returning : Return → Action

-- what a call of the list answers; the value that a Keep answers is in what the caller then holds
pub data Answer : Type 0 where
  replied : Reply → Answer
  noted : Said → Answer
  back : Progress → Said → Answer

-- ---- the calls
-- what the caller holds between two calls: the record and the buffers, and the value
pub record Caller : Type 0 where
  pub held : Held
  pub checkpoints : Checkpoints

-- after Load, with all names empty (S 2.11)
unfoldable pub caller_at_first : ℕ → ℕ → List ℕ → List ℤ → List ℕ → List ℕ → Caller
caller_at_first side knit greys pyramid serials order =
    record {
      held = held_after_load side knit greys pyramid serials order;
      checkpoints = record { kept = replicate 8 0 };
    }

-- a return: what was lent comes back in front of what wasn't (S 15.9)
unfoldable pub return_of : List ℕ → Caller → Return → RestoreOutcome
return_of greys caller b =
    let held = caller.held in
    let out = restore_by_quarters held.progress caller.checkpoints b.name
    (take b.greys_lent greys) (take b.pyramid_lent held.pyramid)
    (take b.serials_lent held.serials) (take b.order_lent held.order) in
    record {
      progress = out.progress;
      checkpoints = out.checkpoints;
      said = out.said;
      pyramid = out.pyramid ++ drop b.pyramid_lent held.pyramid;
      serials = out.serials ++ drop b.serials_lent held.serials;
      order = out.order ++ drop b.order_lent held.order;
    }

unfoldable pub caller_after : RestoreOutcome → Caller
caller_after out =
    record {
      held = record { progress = out.progress; pyramid = out.pyramid; serials = out.serials; order = out.order };
      checkpoints = out.checkpoints;
    }

-- what is held after a call
unfoldable pub act : List ℕ → Caller → Action → Caller
act greys caller (advancing call) =
    record { held = held_after (call_of caller.held call); checkpoints = caller.checkpoints }
act greys caller (keeping name) =
    let held = caller.held in
    let out = keep_of held.progress caller.checkpoints name in
    record {
      held =
          record { progress = out.progress; pyramid = held.pyramid; serials = held.serials; order = held.order };
      checkpoints = out.checkpoints;
    }
act greys caller (returning b) = caller_after (return_of greys caller b)

-- and what it answers
unfoldable pub answer_of : List ℕ → Caller → Action → Answer
answer_of greys caller (advancing call) = replied (call_of caller.held call).reply
answer_of greys caller (keeping name) = noted (keep_of caller.held.progress caller.checkpoints name).said
answer_of greys caller (returning b) =
    let out = return_of greys caller b in
    back out.progress out.said

-- a list of calls: what the caller holds after all of them, and what they answered (S 15.9)
unfoldable pub caller_after_all : List ℕ → Caller → List Action → Caller
caller_after_all greys caller [] = caller
caller_after_all greys caller (a ∷ rest) = caller_after_all greys (act greys caller a) rest

unfoldable pub answers_of : List ℕ → Caller → List Action → List Answer
answers_of greys caller [] = []
answers_of greys caller (a ∷ rest) =
    answer_of greys caller a ∷ answers_of greys (act greys caller a) rest

-- ---- the model
-- the sheet there is, and for each name the whole sheet at the time of its last keep (S 15.9)
pub record Memory : Type 0 where
  pub sheet : Halftone
  pub names : List (Option Halftone)

unfoldable pub memory_at_first : ℕ → List ℕ → Memory
memory_at_first r greys = record { sheet = model_start r greys; names = replicate 8 none }

unfoldable pub sheet_at : Memory → ℕ → Option Halftone
sheet_at memory name = get_or memory.names (name - 1) none

unfoldable pub is_kept : Option Halftone → Bool
is_kept none = false
is_kept (some sheet) = true

-- A part lent too short answers 2, 3 or 4; a name that isn't one of the eight, or was never kept, 10 (S 15.9).
unfoldable pub model_return_refusal : ℕ → Memory → Return → ℕ
model_return_refusal r memory b =
    lowest
    (greys_short r b.greys_lent ∷ pyramid_short r b.pyramid_lent
    ∷ sheet_short r b.serials_lent ∷ sheet_short r b.order_lent
    ∷ name_unknown (is_name b.name && is_kept (sheet_at memory b.name)) ∷ [])

-- the sheet kept, or the one that there is
unfoldable pub or_else : Option Halftone → Halftone → Halftone
or_else none sheet = sheet
or_else (some kept) sheet = kept

-- a return: the sheet that was kept under the name, put back (S 15.9)
unfoldable pub model_return : ℕ → Memory → Return → Halftone
model_return r memory b =
    elim (model_return_refusal r memory b) [
      | zero ↦ or_else (sheet_at memory b.name) memory.sheet
      | suc n ↦ memory.sheet
    ]

unfoldable pub said_of : ℕ → Said
said_of zero = returned []
said_of (suc n) = refused (suc n)

unfoldable pub model_act : ℕ → ℕ → Memory → Action → Memory
model_act knit r memory (advancing call) =
    record { sheet = model_call knit r memory.sheet call; names = memory.names }
model_act knit r memory (keeping name) =
    elim (is_name name) [
      | true ↦ record { sheet = memory.sheet; names = set memory.names (name - 1) (some memory.sheet) }
      | false ↦ memory
    ]
model_act knit r memory (returning b) = record { sheet = model_return r memory b; names = memory.names }

unfoldable pub model_answer : ℕ → ℕ → Memory → Action → Answer
model_answer knit r memory (advancing call) = replied (model_reply knit r memory.sheet call)
model_answer knit r memory (keeping name) = noted (said_of (lowest (name_unknown (is_name name) ∷ [])))
model_answer knit r memory (returning b) =
    let progress : Progress = record { side = 2 ^ r; dots = (model_return r memory b).dots; knit = knit } in
    back progress (said_of (model_return_refusal r memory b))

-- a list of calls: the model after all of them, and what it answered (S 15.9)
unfoldable pub memory_after_all : ℕ → ℕ → Memory → List Action → Memory
memory_after_all knit r memory [] = memory
memory_after_all knit r memory (a ∷ rest) = memory_after_all knit r (model_act knit r memory a) rest

unfoldable pub model_answers : ℕ → ℕ → Memory → List Action → List Answer
model_answers knit r memory [] = []
model_answers knit r memory (a ∷ rest) =
    model_answer knit r memory a ∷ model_answers knit r (model_act knit r memory a) rest

-- the value that goes with the names: 0 for an empty one, else 1 more than the dots of its sheet (S 2.11)
unfoldable pub count_of : Option Halftone → ℕ
count_of none = 0
count_of (some sheet) = suc sheet.dots

unfoldable pub counts_of : Memory → Checkpoints
counts_of memory = record { kept = map count_of memory.names }
