-- The list of calls that the code makes (`action_in`, `actions_in`), and what the caller holds between two of them
-- (`caller_of`).
use Rattle.std.specs.Prelude.{List, ℕ, map, ℤ}
use Rattle.definition.specs.Stages.{Return, Action, advancing, keeping, returning, Caller}
use Rattle.call_list.specs.PriceListOfCode.{call_in}
use Rattle.stage_list.specs.declared.RestoreCall.{RestoreCall}
use Rattle.stage_list.specs.declared.StageCall.{StageCall}
use Rattle.stage_list.specs.declared.StageCall.TheVariants.{Advance, Keep, Restore}
use Rattle.stage_list.specs.declared.Latest.{Latest}

abbrev pub return_in : RestoreCall → Return
return_in call =
    record {
      name = call.name;
      greys_lent = call.greys;
      pyramid_lent = call.lent.pyramid;
      serials_lent = call.lent.serials;
      order_lent = call.lent.order;
    }

abbrev pub action_in : StageCall → Action
action_in (Advance call) = advancing (call_in call)
action_in (Keep name) = keeping name
action_in (Restore call) = returning (return_in call)

abbrev pub actions_in : List StageCall → List Action
actions_in calls = map action_in calls

-- what the caller holds with these buffers
abbrev pub caller_of : Latest → List ℤ → List ℕ → List ℕ → Caller
caller_of latest p s o =
    record {
      held = record { progress = latest.progress; pyramid = p; serials = s; order = o };
      checkpoints = latest.checkpoints;
    }
