-- The loop over the list: a call more is a call made on what the calls before it left (`goes_on`, `all_acted`). Then
-- Load in front of it (`loaded_first`).
use Rattle.std.specs.Prelude.{◌≡◌, List, [], ◌∷◌, ◌++◌, ℕ, ◌+◌, ◌≤◌, ◌<◌, length, get_or, take, replicate, ℤ}
use Rattle.std.proofs.Math.Path.{refl}
use Rattle.std.proofs.Math.Seq.{take-suc}
use Rattle.std.proofs.lemmas.List.{map-append}
use Rattle.std.proofs.Common.{sym, ap, ◌∙◌, add-one, take_all}
use Rattle.definition.specs.Answers.{Said}
use Rattle.definition.specs.ByQuarters.{load_by_quarters}
use Rattle.definition.specs.Stages.{Action, Caller, caller_at_first, act, caller_after_all}
use Rattle.definition.specs.declared.Progress.{Progress}
use Rattle.definition.specs.declared.Checkpoints.{Checkpoints}
use Rattle.call_list.specs.PriceListOfCode.{loaded_held}
use Rattle.stage_list.specs.declared.StageCall.{StageCall}
use Rattle.stage_list.specs.declared.Latest.{Latest}
use Rattle.stage_list.specs.Items.{action_in, actions_in, caller_of}
use Rattle.stage_list.specs.PromiseOfCode.{Promised, promised}

-- ---- one call more
caller_more : (g : List ℕ) (caller : Caller) (actions : List Action) (a : Action)
    → caller_after_all g caller (actions ++ (a ∷ [])) ≡ act g (caller_after_all g caller actions) a
unfolding caller_after_all
caller_more g caller [] a = refl
caller_more g caller (b ∷ rest) a = caller_more g (act g caller b) rest a

-- ---- the loop: after i calls the caller is `caller`, who was `first`
pub record Acted (g : List ℕ) (first : Caller) (calls : List StageCall) (caller : Caller) (i : ℕ) : Type 0 where
  pub is : caller ≡ caller_after_all g first (actions_in (take i calls))

module _ (g : List ℕ) (first : Caller) (calls : List StageCall) where
  pub begins : Acted g first calls first 0
  unfolding caller_after_all
  begins = record { is = refl }

  pub goes_on : {caller : Caller} {i : ℕ} → Acted g first calls caller i → i < length calls → (d : StageCall)
      → {caller' : Caller} → caller' ≡ act g caller (action_in (get_or calls i d))
      → Acted g first calls caller' (i + 1)
  goes_on {i = i} h lt d q =
      record {
        is =
            q
            ∙ rw (h.is, add-one i, take-suc calls i d lt, map-append action_in (take i calls) (get_or calls i d ∷ []))
            (sym (caller_more g first (actions_in (take i calls)) (action_in (get_or calls i d))));
      }

  pub all_acted : {caller : Caller} {i : ℕ} → Acted g first calls caller i → length calls ≤ i
      → caller ≡ caller_after_all g first (actions_in calls)
  all_acted {i = i} h le = h.is ∙ ap (λ l. caller_after_all g first (actions_in l)) (take_all i calls le)

-- ---- Load, then the calls
pub loaded_first : (side knit : ℕ) (g : List ℕ) (p : List ℤ) (s o : List ℕ)
    {progress loaded : Progress} → progress ≡ loaded
    → {said : Said} {p' : List ℤ} {s' o' : List ℕ} {none : Checkpoints}
    → record { progress = loaded; said = said; pyramid = p'; serials = s'; order = o' }
    ≡ load_by_quarters side knit g p s o
    → none ≡ record { kept = replicate 8 0 }
    → caller_of (record { progress = progress; checkpoints = none }) p' s' o' ≡ caller_at_first side knit g p s o
unfolding caller_at_first
loaded_first side knit g p s o is e en = rw (is, ← loaded_held side knit g p s o e, en)

pub acted_on : (side knit : ℕ) (g : List ℕ) (p : List ℤ) (s o : List ℕ)
    {progress loaded : Progress} (is : progress ≡ loaded) (said : Said) {p' : List ℤ} {s' o' : List ℕ}
    {none : Checkpoints} (actions : List Action) (caller : Caller)
    → record { progress = loaded; said = said; pyramid = p'; serials = s'; order = o' }
    ≡ load_by_quarters side knit g p s o
    → none ≡ record { kept = replicate 8 0 }
    → caller
    ≡ caller_after_all g (caller_of (record { progress = progress; checkpoints = none }) p' s' o') actions
    → Promised side knit g p s o actions caller
acted_on side knit g p s o is said actions caller e en q =
    promised side knit g p s o actions caller
    (q ∙ ap (λ (c : Caller). caller_after_all g c actions) (loaded_first side knit g p s o is e en))
