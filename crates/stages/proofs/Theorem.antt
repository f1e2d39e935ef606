-- `names_hold`: the promise of names, for either knit and every list of Advance, Keep and Restore calls after an
-- accepted Load.
use Rattle.std.specs.Prelude.{◌≡◌, refl, ◌≢◌, true, List, [], ◌∷◌, ◌++◌, ℕ, zero, suc, ◌^◌, ◌≤◌, drop, ℤ}
use Rattle.std.proofs.Common.{sym, ◌∙◌, arith, pow_mono, take_at, drop_at}
use Rattle.std.proofs.Math.Path.{ap}
use Rattle.std.proofs.Math.Option.{some, none}
use Rattle.std.proofs.Math.ListN.{replicate}
use borrow.Author.Tests.{le-ltb}
use Rattle.definition.specs.Answers.{returned}
use Rattle.definition.specs.Pyramid.{needed, cell_count}
use Rattle.definition.specs.Blocks.{grey_total}
use Rattle.definition.specs.Model.{Halftone, model_start}
use Rattle.definition.specs.Refusals.{power_of, lowest}
use Rattle.definition.specs.AdvanceList.{Call, Held, held_after_load, held_after_calls, model_refusal}
use Rattle.definition.specs.AdvanceList.{model_after_calls}
use Rattle.definition.specs.Checkpoints.{is_name, RestoreOutcome}
use Rattle.definition.specs.Quarters.{quarters_from}
use Rattle.definition.specs.Stages.{
  Return,
  Action,
  keeping,
  returning,
  Caller,
  caller_at_first,
  return_of,
  caller_after_all,
  Memory,
  memory_at_first,
  sheet_at,
  is_kept,
  or_else,
  model_return_refusal,
  said_of,
  model_act,
  memory_after_all,
  model_answers,
  count_of,
  counts_of,
}
use Rattle.refusals.specs.Names.{both, one_to_eight}
use Rattle.layouts.specs.Relaid.{length_quarters}
use Rattle.dots.proofs.Steps.{Sheet}
use Rattle.guarantee.specs.PriceList.{Each, Accepted, PriceList}
use Rattle.guarantee.proofs.Start.{Loaded, start_sheet, accepted_loaded, loaded_held}
use Rattle.guarantee.proofs.Lent.{held_of}
use Rattle.guarantee.proofs.OneCall.{model_taken}
use Rattle.guarantee.proofs.ManyCalls.{calls_held}
use Rattle.guarantee.proofs.Promised.{price_list}
use Rattle.stages.specs.Promise.{StagesHold, NamesHold}
use Rattle.stages.proofs.Stage.{stage_first, stage_sheet, stage_most, stage_again}
use Rattle.stages.proofs.OneAction.{
  GreysLent,
  IsStage,
  StageOr,
  Good,
  caller_of,
  taken,
  return_taken,
  return_same,
  all_held,
  all_answered,
  all_good,
}
use Rattle.stages.proofs.LastKept.{memory_more, just_kept, all_still_kept}

-- one Advance call with this budget that is lent enough
abbrev whole : ℕ → ℕ → Call
whole r budget =
    record { budget = budget; pyramid_lent = needed r; serials_lent = cell_count r; order_lent = cell_count r }

whole_taken : (r budget : ℕ) → model_refusal r (whole r budget) ≡ 0
unfolding model_refusal lowest
whole_taken r budget =
    rw (le-ltb (needed r) (needed r) (omega arith), le-ltb (cell_count r) (cell_count r) (omega arith))

-- what isn't refused has no number
said_done : (n : ℕ) → said_of n ≡ returned [] → n ≡ 0
unfolding said_of
said_done zero e = refl
said_done (suc n) e = let z : ◌≡◌ {A = ℕ} 0 1 = cc in absurd (omega arith)

module _ (side knit : ℕ) (greys : List ℕ) (pyramid : List ℤ) (serials order : List ℕ)
    (accepted : Accepted side knit greys pyramid serials order) where
  abbrev r : ℕ
  r = power_of side

  loaded : Loaded side knit greys pyramid serials order
  loaded = accepted_loaded side knit greys pyramid serials order accepted

  abbrev known : knit ≤ 1
  known = loaded.lent.known

  big : 2 ≤ 2 ^ power_of side
  big = pow_mono {i = 1} {j = power_of side} loaded.lent.power

  power : power_of (2 ^ power_of side) ≡ power_of side
  power = ap power_of (sym loaded.side_is)

  abbrev p : List ℤ
  p = drop (needed r) pyramid

  abbrev s : List ℕ
  s = drop (cell_count r) serials

  abbrev o : List ℕ
  o = drop (cell_count r) order

  abbrev lent : GreysLent r greys
  lent = record { long = loaded.lent.greys_long; low = loaded.low }

  -- ---- the start
  abbrev memory : Memory
  memory = memory_at_first r greys

  abbrev caller : Memory → Caller
  caller = caller_of knit known r big power greys accepted.bytes lent p s o

  empty : (n : ℕ) → Each (StageOr knit known r big power greys accepted.bytes lent) (replicate n none)
  empty zero = tt
  empty (suc n) = (tt, empty n)

  good : Good knit known r big power greys accepted.bytes lent (memory_at_first r greys)
  unfolding memory_at_first
  good =
      record {
        at_stage = stage_first knit known r big power greys accepted.bytes;
        at_names = empty 8;
        eight = refl;
      }

  first_is : caller_at_first side knit greys pyramid serials order ≡ caller (memory_at_first r greys)
  unfolding caller_at_first memory_at_first counts_of count_of
  first_is =
      λ i. record {
        held = loaded_held side knit greys pyramid serials order loaded i;
        checkpoints = record { kept = replicate 8 0 };
      }

  -- ---- a stage is what one Advance call leaves, so the price list speaks of it
  module _ (t : Halftone) (h : IsStage knit known r big power greys accepted.bytes lent t) where
    one_call : held_after_calls (held_after_load side knit greys pyramid serials order) (whole r t.dots ∷ [])
        ≡ held_of knit r t p s o
    one_call =
        let fresh = model_start r greys in
        let sheet = start_sheet r greys accepted.bytes in
        let call = whole r t.dots in
        let one : model_after_calls knit r fresh (call ∷ []) ≡ t
        = unfold model_after_calls in
        model_taken knit known r big power fresh sheet p s o call (whole_taken r t.dots)
        ∙ stage_again knit known r big power greys accepted.bytes t h in
        ap (λ (held : Held). held_after_calls held (call ∷ []))
        (loaded_held side knit greys pyramid serials order loaded)
        ∙ calls_held knit known r big power p s o (call ∷ []) fresh sheet
        ∙ ap (λ (u : Halftone). held_of knit r u p s o) one

    promised : PriceList side knit greys pyramid serials order (whole r t.dots ∷ [])
    promised = price_list side knit greys pyramid serials order accepted (whole r t.dots ∷ [])

  module _ (actions : List Action) where
    abbrev last : Memory
    last = memory_after_all knit r memory actions

    last_good : Good knit known r big power greys accepted.bytes lent last
    last_good = all_good knit known r big power greys accepted.bytes lent p s o actions memory good

    abbrev t : Halftone
    t = last.sheet

    sheet : Sheet r t
    sheet = stage_sheet knit known r big power greys accepted.bytes t last_good.at_stage

    -- ---- a return that isn't refused, after a last keep of its name
    module _ (before between : List Action) (b : Return) where
      abbrev until_keep : Memory
      until_keep = memory_after_all knit r memory before

      abbrev until_return : Memory
      until_return = memory_after_all knit r memory (before ++ (keeping b.name ∷ between))

      return_good : Good knit known r big power greys accepted.bytes lent until_return
      return_good =
          all_good knit known r big power greys accepted.bytes lent p s o
          (before ++ (keeping b.name ∷ between)) memory good

      keep_good : Good knit known r big power greys accepted.bytes lent until_keep
      keep_good = all_good knit known r big power greys accepted.bytes lent p s o before memory good

      abbrev outcome : RestoreOutcome
      outcome =
          return_of greys
          (caller_after_all greys (caller memory) (before ++ (keeping b.name ∷ between))) b

      outcome_said : outcome.said ≡ said_of (model_return_refusal r until_return b)
      outcome_said =
          ap (λ (c : Caller). (return_of greys c b).said)
          (all_held knit known r big power greys accepted.bytes lent p s o
          (before ++ (keeping b.name ∷ between)) memory good)
          ∙ ap (λ (out : RestoreOutcome). out.said)
          (return_same knit known r big power greys accepted.bytes lent p s o until_return return_good b)

      -- with the name kept last before `between`
      still : Each (λ a. a ≢ keeping b.name) between → is_name b.name ≡ true
          → sheet_at until_return b.name ≡ some until_keep.sheet
      still differ is_name_lem =
          ap (λ (m : Memory). sheet_at m b.name) (memory_more knit r memory before (keeping b.name ∷ between))
          ∙ unfold memory_after_all in
          all_still_kept knit r b.name is_name_lem (model_act knit r until_keep (keeping b.name)) between differ
          ∙ just_kept knit r b.name is_name_lem until_keep keep_good.eight

      module _ (split : actions ≡ (before ++ (keeping b.name ∷ between)) ++ (returning b ∷ []))
          (differ : Each (λ a. a ≢ keeping b.name) between) (done : outcome.said ≡ returned []) where
        none_refused : model_return_refusal r until_return b ≡ 0
        none_refused = said_done _ (sym outcome_said ∙ done)

        is_name_lem : is_name b.name ≡ true
        is_name_lem =
            (both (is_name b.name) (is_kept (sheet_at until_return b.name))
            (taken knit known r big power greys accepted.bytes lent p s o until_return return_good b none_refused
            ).is_known
            ).0

        back_there : last.sheet ≡ until_keep.sheet
        back_there =
            ap (λ (l : List Action). (memory_after_all knit r memory l).sheet) split
            ∙ ap (λ (m : Memory). m.sheet)
            (memory_more knit r memory (before ++ (keeping b.name ∷ between)) (returning b ∷ []))
            ∙ unfold memory_after_all model_act in
            return_taken knit known r big power greys accepted.bytes lent p s o until_return return_good b
            none_refused
            ∙ unfold or_else in rw (still differ is_name_lem, or_else)

        as_then : held_of knit r t p s o ≡ (caller_after_all greys (caller memory) before).held
        as_then =
            ap (λ (u : Halftone). held_of knit r u p s o) back_there
            ∙ ap (λ (c : Caller). c.held)
            (sym (all_held knit known r big power greys accepted.bytes lent p s o before memory good))

    -- ---- after a keep, a return to its name that is lent enough
    module _ (before between : List Action) (b : Return) (split : actions ≡ before ++ (keeping b.name ∷ between))
        (differ : Each (λ a. a ≢ keeping b.name) between) (is_name_lem : is_name b.name ≡ true)
        (g : cell_count r ≤ b.greys_lent) (lp : needed r ≤ b.pyramid_lent)
        (ls : cell_count r ≤ b.serials_lent) (lo : cell_count r ≤ b.order_lent) where
      still_there : sheet_at last b.name ≡ some (until_keep before between b).sheet
      still_there =
          ap (λ (l : List Action). sheet_at (memory_after_all knit r memory l) b.name) split
          ∙ still before between b differ is_name_lem

      none_applies : model_return_refusal r last b ≡ 0
      unfolding model_return_refusal lowest is_kept
      none_applies =
          rw (
            le-ltb b.greys_lent (cell_count r) g,
            le-ltb b.pyramid_lent (needed r) lp,
            le-ltb b.serials_lent (cell_count r) ls,
            le-ltb b.order_lent (cell_count r) lo,
            is_name_lem,
            still_there,
          )

      is_done : (return_of greys (caller last) b).said ≡ returned []
      unfolding said_of
      is_done =
          ap (λ (out : RestoreOutcome). out.said)
          (return_same knit known r big power greys accepted.bytes lent p s o last last_good b)
          ∙ ap said_of none_applies

    holds : StagesHold knit r (grey_total r greys) greys pyramid serials order actions (caller memory) (caller last)
        (model_answers knit r memory actions) last (model_answers knit r memory actions)
    holds =
        let one = one_call t last_good.at_stage in
        let d = promised t last_good.at_stage in
        record {
          pyramid = take_at (quarters_from r t.pyramid) p (needed r) (length_quarters r t.pyramid);
          serials = take_at t.serials s (cell_count r) sheet.sized.serials;
          order = take_at t.order o (cell_count r) sheet.sized.order;
          progress = refl;
          checkpoints = refl;
          answered = refl;
          pyramid_rest = drop_at (quarters_from r t.pyramid) p (needed r) (length_quarters r t.pyramid);
          serials_rest = drop_at t.serials s (cell_count r) sheet.sized.serials;
          order_rest = drop_at t.order o (cell_count r) sheet.sized.order;
          so_many = sym (stage_again knit known r big power greys accepted.bytes t last_good.at_stage);
          most = stage_most knit known r big power greys accepted.bytes t last_good.at_stage;
          all_dots_lem = rw one at d.all_dots_lem;
          last_kept = λ before between b split differ done. as_then before between b split differ done;
          returns = λ before between b split differ low high g lp ls lo.
              is_done before between b split differ (one_to_eight b.name low high) g lp ls lo;
          once = rw one at d.once;
          cap = rw one at d.cap;
          floor = rw one at d.floor;
          quotes = rw one at d.quotes;
          debt = rw one at d.debt;
        }

    -- the promise of names (S 15.9)
    pub names_hold : NamesHold side knit greys pyramid serials order actions
    names_hold =
        rw (
          first_is,
          all_held knit known r big power greys accepted.bytes lent p s o actions memory good,
          all_answered knit known r big power greys accepted.bytes lent p s o actions memory good,
        )
        holds
