-- One call of the list in code: a Restore on parts (`return_made`), and what each call leaves (`went_back`,
-- `wrote_down`, `went_on`).
use Rattle.std.specs.Prelude.{◌≡◌, List, ◌++◌, ℕ, min, length, take, drop, ℤ}
use Rattle.definition.specs.Answers.{Said}
use Rattle.definition.specs.AdvanceList.{call_of, held_after}
use Rattle.definition.specs.Checkpoints.{keep_of}
use Rattle.definition.specs.ByQuarters.{restore_by_quarters}
use Rattle.definition.specs.Stages.{return_of, caller_after, act}
use Rattle.definition.specs.declared.Progress.{Progress}
use Rattle.definition.specs.declared.Checkpoints.{Checkpoints}
use Rattle.call_list.specs.PriceListOfCode.{lent_take, lent_drop, call_in}
use Rattle.call_list.specs.declared.AdvanceCall.{AdvanceCall}
use Rattle.stage_list.specs.declared.RestoreCall.{RestoreCall}
use Rattle.stage_list.specs.declared.StageCall.TheVariants.{Advance, Keep, Restore}
use Rattle.stage_list.specs.declared.Latest.{Latest}
use Rattle.stage_list.specs.Items.{return_in, action_in, caller_of}

-- ---- a Restore on parts: what was lent comes back in front of what was not
module _ (call : RestoreCall) (latest : Latest) (g : List ℕ) (p : List ℤ) (s o : List ℕ) {ng np ns no : ℕ}
    (eg : ng ≡ min call.greys (length g)) (ep : np ≡ min call.lent.pyramid (length p))
    (es : ns ≡ min call.lent.serials (length s)) (eo : no ≡ min call.lent.order (length o)) where
  pub return_made : {progress : Progress} {kept : Checkpoints} {said : Said} {p' : List ℤ} {s' o' : List ℕ}
      → record {
        progress = progress;
        checkpoints = kept;
        said = said;
        pyramid = p';
        serials = s';
        order = o';
      }
      ≡ restore_by_quarters latest.progress latest.checkpoints call.name
      (take ng g) (take np p) (take ns s) (take no o)
      → record {
        progress = progress;
        checkpoints = kept;
        said = said;
        pyramid = p' ++ drop np p;
        serials = s' ++ drop ns s;
        order = o' ++ drop no o;
      }
      ≡ return_of g (caller_of latest p s o) (return_in call)
  unfolding return_of
  return_made q =
      rw (
        lent_drop call.lent.pyramid p ep,
        lent_drop call.lent.serials s es,
        lent_drop call.lent.order o eo,
        ← lent_take call.greys g eg,
        ← lent_take call.lent.pyramid p ep,
        ← lent_take call.lent.serials s es,
        ← lent_take call.lent.order o eo,
        ← q,
      )

-- ---- what each call leaves
module _ (latest : Latest) (g : List ℕ) (p : List ℤ) (s o : List ℕ) where
  pub went_back : (call : RestoreCall) {progress : Progress} {kept : Checkpoints} (said : Said)
      {p' : List ℤ} {s' o' : List ℕ}
      → record {
        progress = progress;
        checkpoints = kept;
        said = said;
        pyramid = p';
        serials = s';
        order = o';
      }
      ≡ return_of g (caller_of latest p s o) (return_in call)
      → caller_of (record { progress = progress; checkpoints = kept }) p' s' o'
      ≡ act g (caller_of latest p s o) (action_in (Restore call))
  unfolding act caller_after
  went_back call said e = rw (← e)

  pub wrote_down : (name : ℕ) {progress : Progress} {kept : Checkpoints} (said : Said)
      → record { progress = progress; checkpoints = kept; said = said }
      ≡ keep_of latest.progress latest.checkpoints name
      → caller_of (record { progress = progress; checkpoints = kept }) p s o
      ≡ act g (caller_of latest p s o) (action_in (Keep name))
  unfolding act
  wrote_down name said e = rw (← e)

  pub went_on : (call : AdvanceCall) {progress : Progress} {p' : List ℤ} {s' o' : List ℕ}
      → record { progress = progress; pyramid = p'; serials = s'; order = o' }
      ≡ held_after (call_of (caller_of latest p s o).held (call_in call))
      → caller_of (record { progress = progress; checkpoints = latest.checkpoints }) p' s' o'
      ≡ act g (caller_of latest p s o) (action_in (Advance call))
  unfolding act
  went_on call e = rw (← e)
