-- One call of the list (`act_same`), and so every list (`all_held`, `all_answered`): on buffers that begin with the
-- model's sheet it does as the model does, in which a name holds the whole sheet.
use Rattle.std.proofs.Math.Path.{◌≡◌, refl, ap, ap₂}
use Rattle.std.proofs.Common.{sym, ◌∙◌, true≢false, length-take, take-take}
use Rattle.std.specs.Prelude.{Bool, cond, not, ◌&&◌, ℕ, zero, suc, ◌-◌, ◌^◌, ◌≤◌, length, set, take, drop, ℤ}
use Rattle.std.proofs.Math.Bool.{true, false}
use mathlib.Core.List.{List, [], ◌∷◌, ◌++◌, map}
use Rattle.std.proofs.Math.Option.{Option, some, none}
use native.Mathlib.Omega.{arith}
use Rattle.std.proofs.Math.Dec.{ltb}
use Rattle.std.proofs.Math.ListN.{length-set, length-append, take-append-drop, get_or-map}
use borrow.Author.Tests.{ltb-false, le-ltb, le-leb, ne_eqb, not-false}
use Rattle.definition.specs.Answers.{returned, refused}
use Rattle.definition.specs.Pyramid.{needed, cell_count}
use Rattle.definition.specs.Blocks.{grey_total, total_of}
use Rattle.definition.specs.Diffusion.{kernel_of}
use Rattle.definition.specs.Model.{Halftone, model_start, steps}
use Rattle.definition.specs.Sound.{is_sound}
use Rattle.definition.specs.Refusals.{power_of, lowest}
use Rattle.definition.specs.Lowering.{none_high}
use Rattle.definition.specs.Load.{low_map}
use Rattle.definition.specs.Advance.{AdvanceOutcome, sheet_in}
use Rattle.definition.specs.Checkpoints.{is_name, kept_at, name_unknown, keep_refusal, keep_of}
use Rattle.definition.specs.Checkpoints.{can_restore, restore_refusal, RestoreOutcome, restored, restore_of}
use Rattle.definition.specs.Quarters.{quarters_from, as_rows}
use Rattle.definition.specs.ByQuarters.{restore_by_quarters}
use Rattle.definition.specs.Stages.{
  Return,
  Action,
  advancing,
  keeping,
  returning,
  replied,
  back,
  Caller,
  return_of,
  caller_after,
  act,
  answer_of,
  caller_after_all,
  answers_of,
  Memory,
  sheet_at,
  is_kept,
  model_return_refusal,
  or_else,
  model_return,
  said_of,
  model_act,
  model_answer,
  memory_after_all,
  model_answers,
  count_of,
  counts_of,
}
use Rattle.definition.specs.declared.Progress.{Progress}
use Rattle.integers.specs.Tests.{true_T}
use Rattle.refusals.specs.Lowest.{lowest_none}
use Rattle.refusals.specs.Names.{both}
use Rattle.layouts.specs.Relaid.{length_quarters}
use Rattle.layouts.specs.Lent.{rows_length}
use Rattle.dots.proofs.Steps.{Sheet}
use Rattle.dots.specs.SoundTest.{sound_test}
use Rattle.guarantee.specs.PriceList.{Each}
use Rattle.guarantee.proofs.Start.{each_get_or, start_front, total_front}
use Rattle.guarantee.proofs.Lent.{held_of, lent_test, lent_part, lent_back, rows_part, rows_over, rows_stay}
use Rattle.guarantee.proofs.OneCall.{call_same, held_same}
use Rattle.stages.proofs.Stage.{Stage, stage_sheet, stage_most, stage_again, stage_call}

-- ---- lists of names
each_set : {A : Type 0} (P : A → Type 0) (l : List A) (i : ℕ) (a : A) → P a → Each P l → Each P (set l i a)
each_set P [] i a p h = tt
each_set P (x ∷ xs) zero a p h = (p, h.1)
each_set P (x ∷ xs) (suc i) a p h = (h.0, each_set P xs i a p h.1)

-- their counts
counts_set : (l : List (Option Halftone)) (i : ℕ) (a : Option Halftone)
    → set (map count_of l) i (count_of a) ≡ map count_of (set l i a)
counts_set [] i a = refl
counts_set (x ∷ xs) zero a = refl
counts_set (x ∷ xs) (suc i) a = ap (λ (l : List ℕ). count_of x ∷ l) (counts_set xs i a)

kept_count : (m : Memory) (name : ℕ) → kept_at (counts_of m) name ≡ count_of (sheet_at m name)
unfolding kept_at counts_of sheet_at count_of
kept_count m name = get_or-map count_of m.names (name - 1) none

-- what Load was lent as greys: enough of them, and those of the map low
pub record GreysLent (r : ℕ) (greys : List ℕ) : Type 0 where
  pub long : cell_count r ≤ length greys
  pub low : low_map r greys ≡ true

module _ (knit : ℕ) (known : knit ≤ 1) (r : ℕ) (big : 2 ≤ 2 ^ r) (power : power_of (2 ^ r) ≡ r)
    (greys : List ℕ) (bytes : Each (λ grey. grey ≤ 255) greys) (lent : GreysLent r greys) where
  abbrev pub IsStage : Halftone → Type 0
  IsStage = Stage knit known r big power greys bytes

  abbrev total : ℕ
  total = total_of (grey_total r greys)

  -- the sheet of an empty name is none
  abbrev pub StageOr : Option Halftone → Type 0
  StageOr none = Unit {0}
  StageOr (some t) = IsStage t

  -- all sheets of a memory are stages
  pub record Good (m : Memory) : Type 0 where
    pub at_stage : IsStage m.sheet
    pub at_names : Each StageOr m.names
    pub eight : length m.names ≡ 8

  sheet_of_lem : (t : Halftone) → IsStage t → Sheet r t
  sheet_of_lem = stage_sheet knit known r big power greys bytes

  good_name : (m : Memory) → Good m → (name : ℕ) → StageOr (sheet_at m name)
  unfolding sheet_at
  good_name m g name = each_get_or StageOr m.names none tt g.at_names (name - 1)

  module _ (p : List ℤ) (s o : List ℕ) where
    -- what the caller holds
    abbrev pub caller_of : Memory → Caller
    caller_of m = record { held = held_of knit r m.sheet p s o; checkpoints = counts_of m }

    -- ---- a return
    module _ (m : Memory) (g : Good m) (b : Return) where
      sheet : Sheet r m.sheet
      sheet = sheet_of_lem m.sheet g.at_stage

      abbrev lent_greys : List ℕ
      lent_greys = take b.greys_lent greys

      abbrev lent_pyramid : List ℤ
      lent_pyramid = take b.pyramid_lent (quarters_from r m.sheet.pyramid ++ p)

      -- the part of the pyramid, written row after row
      abbrev lent_rows : List ℤ
      lent_rows = as_rows r lent_pyramid

      abbrev lent_serials : List ℕ
      lent_serials = take b.serials_lent (m.sheet.serials ++ s)

      abbrev lent_order : List ℕ
      lent_order = take b.order_lent (m.sheet.order ++ o)

      abbrev lent_sheet : Halftone
      lent_sheet = sheet_in r m.sheet.dots lent_rows lent_serials lent_order

      -- parts that are long enough hold the map and the sheet
      module _ (enough : cell_count r ≤ b.greys_lent) where
        lent_enough : cell_count r ≤ length lent_greys
        lent_enough = omega (arith, length-take b.greys_lent greys, lent.long)

        low_lent : low_map r lent_greys ≡ true
        unfolding low_map
        low_lent = ap none_high (take-take (cell_count r) b.greys_lent greys enough) ∙ lent.low

        start_lent : model_start r lent_greys ≡ model_start r greys
        start_lent =
            sym (start_front r lent_greys (drop b.greys_lent greys) lent_enough)
            ∙ ap (model_start r) (take-append-drop b.greys_lent greys)

        total_lent : grey_total r lent_greys ≡ grey_total r greys
        total_lent =
            sym (total_front r lent_greys (drop b.greys_lent greys) lent_enough)
            ∙ ap (grey_total r) (take-append-drop b.greys_lent greys)

      sheet_lent : needed r ≤ b.pyramid_lent → cell_count r ≤ b.serials_lent → cell_count r ≤ b.order_lent
          → lent_sheet ≡ m.sheet
      unfolding sheet_in
      sheet_lent hp hs ho =
          λ i.
          record {
            pyramid = rows_part r m.sheet.pyramid p b.pyramid_lent sheet.sized.pyramid hp i;
            serials = lent_part m.sheet.serials s (cell_count r) b.serials_lent sheet.sized.serials hs i;
            order = lent_part m.sheet.order o (cell_count r) b.order_lent sheet.sized.order ho i;
            dots = m.sheet.dots;
          }

      -- a name that was kept can be returned to
      abbrev kept : Option Halftone
      kept = sheet_at m b.name

      abbrev named : Bool
      named = is_name b.name && is_kept kept

      kept_named : can_restore (counts_of m) b.name total ≡ named
      unfolding can_restore count_of is_kept
      kept_named = go (sheet_at m b.name) (good_name m g b.name) (kept_count m b.name)
        where
          go : (x : Option Halftone) → StageOr x → kept_at (counts_of m) b.name ≡ count_of x
              → can_restore (counts_of m) b.name total ≡ (is_name b.name && is_kept x)
          go none h e = rw (e, can_restore)
          go (some u) h e =
              rw (e, can_restore)
              (ap (λ (z : Bool). is_name b.name && z)
              (le-leb u.dots total (stage_most knit known r big power greys bytes u h)))

      -- it is refused exactly as the model refuses it
      abbrev can : Bool
      can = can_restore (counts_of m) b.name (total_of (grey_total r lent_greys))

      abbrev refusal : ℕ
      refusal =
          restore_refusal r knit (length lent_greys) (length lent_rows) (length lent_serials) (length lent_order)
          (is_sound r lent_sheet) (low_map r lent_greys) can

      refusal_same : refusal ≡ model_return_refusal r m b
      unfolding restore_refusal model_return_refusal lowest
      refusal_same =
          rw (
            ne_eqb r 0 (λ z. omega (arith, ap (λ (n : ℕ). 2 ^ n) z)),
            le-ltb 1 knit known,
            lent_test greys b.greys_lent (cell_count r) lent.long,
            rows_length r lent_pyramid,
            lent_test (quarters_from r m.sheet.pyramid ++ p) b.pyramid_lent (needed r)
                (omega (
                  arith,
                  length-append (quarters_from r m.sheet.pyramid) p,
                  length_quarters r m.sheet.pyramid,
                )),
            lent_test (m.sheet.serials ++ s) b.serials_lent (cell_count r)
                (omega (arith, length-append m.sheet.serials s, sheet.sized.serials)),
            lent_test (m.sheet.order ++ o) b.order_lent (cell_count r)
                (omega (arith, length-append m.sheet.order o, sheet.sized.order)),
          )
          (go (ltb b.greys_lent (cell_count r)) refl (ltb b.pyramid_lent (needed r)) refl
          (ltb b.serials_lent (cell_count r)) refl (ltb b.order_lent (cell_count r)) refl)
        where
          go : (w : Bool) → ltb b.greys_lent (cell_count r) ≡ w
              → (x : Bool) → ltb b.pyramid_lent (needed r) ≡ x
              → (y : Bool) → ltb b.serials_lent (cell_count r) ≡ y
              → (z : Bool) → ltb b.order_lent (cell_count r) ≡ z
              → ◌≡◌ {A = ℕ}
              (cond w 2 (cond x 3 (cond y 4 (cond z 4 (cond (not (is_sound r lent_sheet)) 5
              (cond (not (low_map r lent_greys)) 12 (cond (not can) 10 0)))))))
              (cond w 2 (cond x 3 (cond y 4 (cond z 4 (cond (not named) 10 0)))))
          go true d x e y f z h = refl
          go false d true e y f z h = refl
          go false d false e true f z h = refl
          go false d false e false f true h = refl
          go false d false e false f false h =
              let sound : is_sound r lent_sheet ≡ true
              = ap (is_sound r) (sheet_lent (ltb-false _ _ e) (ltb-false _ _ f) (ltb-false _ _ h))
              ∙ true_T (is_sound r m.sheet) (sound_test r m.sheet sheet.sound) in
              let same : can ≡ named
              = ap (λ (n : ℕ). can_restore (counts_of m) b.name (total_of n)) (total_lent (ltb-false _ _ d))
              ∙ kept_named in
              rw (sound, low_lent (ltb-false _ _ d), same)

      -- what the model does not refuse
      pub record Taken : Type 0 where
        pub greys_long : cell_count r ≤ b.greys_lent
        pub pyramid_long : needed r ≤ b.pyramid_lent
        pub serials_long : cell_count r ≤ b.serials_lent
        pub order_long : cell_count r ≤ b.order_lent
        pub is_known : (is_name b.name && is_kept (sheet_at m b.name)) ≡ true

      pub taken : model_return_refusal r m b ≡ 0 → Taken
      unfolding model_return_refusal
      taken e =
          let r₂ = lowest_none 2 (ltb b.greys_lent (cell_count r)) _ (omega arith) e in
          let r₃ = lowest_none 3 (ltb b.pyramid_lent (needed r)) _ (omega arith) r₂.1 in
          let r₄ = lowest_none 4 (ltb b.serials_lent (cell_count r)) _ (omega arith) r₃.1 in
          let r₅ = lowest_none 4 (ltb b.order_lent (cell_count r)) _ (omega arith) r₄.1 in
          let r₆ = lowest_none 10 (not named) _ (omega arith) r₅.1 in
          record {
            greys_long = ltb-false _ _ r₂.0;
            pyramid_long = ltb-false _ _ r₃.0;
            serials_long = ltb-false _ _ r₄.0;
            order_long = ltb-false _ _ r₅.0;
            is_known = not-false named r₆.0;
          }

      -- the kept count is that of the kept sheet, and makes it again
      abbrev there : Halftone
      there = or_else (sheet_at m b.name) m.sheet

      there_stage : IsStage there
      there_stage = or (sheet_at m b.name) (good_name m g b.name)
        where
          or : (x : Option Halftone) → StageOr x → IsStage (or_else x m.sheet)
          or none h = unfold or_else in g.at_stage
          or (some u) h = unfold or_else in h

      abbrev count : ℕ
      count = kept_at (counts_of m) b.name - 1

      again : named ≡ true
          → (count ≡ there.dots) × (steps (kernel_of knit) r count (model_start r greys) ≡ there)
      unfolding count_of is_kept or_else
      again = go (sheet_at m b.name) (good_name m g b.name) (kept_count m b.name)
        where
          go : (x : Option Halftone) → StageOr x → kept_at (counts_of m) b.name ≡ count_of x
              → (is_name b.name && is_kept x) ≡ true
              → (kept_at (counts_of m) b.name - 1 ≡ (or_else x m.sheet).dots)
              × (steps (kernel_of knit) r (kept_at (counts_of m) b.name - 1) (model_start r greys)
              ≡ or_else x m.sheet)
          go none h e k = absurd (true≢false (sym (both (is_name b.name) false k).1))
          go (some u) h e k =
              let n : kept_at (counts_of m) b.name - 1 ≡ u.dots = omega (arith, e) in
              (n, rw n (stage_again knit known r big power greys bytes u h))

      abbrev given : Progress
      given = record { side = 2 ^ r; dots = m.sheet.dots; knit = knit }

      -- what the call by rows leaves
      abbrev outcome : RestoreOutcome
      outcome = restore_of given (counts_of m) b.name lent_greys lent_rows lent_serials lent_order

      outcome_taken : model_return_refusal r m b ≡ 0 → outcome
          ≡ record {
            progress = record { side = 2 ^ r; dots = there.dots; knit = knit };
            checkpoints = counts_of m;
            said = returned [];
            pyramid = there.pyramid ++ drop (needed r) lent_rows;
            serials = there.serials ++ drop (cell_count r) lent_serials;
            order = there.order ++ drop (cell_count r) lent_order;
          }
      outcome_taken e =
          let h = taken e in
          let a = again h.is_known in
          unfold restore_of restored in
          rw (power, refusal_same ∙ e, restore_of) (rw (power, start_lent h.greys_long, a.1, a.0))

      outcome_refused : (n : ℕ) → model_return_refusal r m b ≡ suc n → outcome
          ≡ record {
            progress = given;
            checkpoints = counts_of m;
            said = refused (suc n);
            pyramid = lent_rows;
            serials = lent_serials;
            order = lent_order;
          }
      outcome_refused n e = unfold restore_of in rw (power, refusal_same ∙ e, restore_of)

      pub return_taken : model_return_refusal r m b ≡ 0 → model_return r m b ≡ there
      return_taken e = unfold model_return in rw (e, model_return)

      return_refused : (n : ℕ) → model_return_refusal r m b ≡ suc n → model_return r m b ≡ m.sheet
      return_refused n e = unfold model_return in rw (e, model_return)

      abbrev expected : RestoreOutcome
      expected =
          record {
            progress = record { side = 2 ^ r; dots = (model_return r m b).dots; knit = knit };
            checkpoints = counts_of m;
            said = said_of (model_return_refusal r m b);
            pyramid = quarters_from r (model_return r m b).pyramid ++ p;
            serials = (model_return r m b).serials ++ s;
            order = (model_return r m b).order ++ o;
          }

      -- a return does as the model's (S 10.2, S 10.3)
      pub return_same : return_of greys (caller_of m) b ≡ expected
      return_same = go (model_return_refusal r m b) refl
        where
          go : (k : ℕ) → model_return_refusal r m b ≡ k → return_of greys (caller_of m) b ≡ expected
          go zero e =
              let h = taken e in
              unfold return_of restore_by_quarters said_of in
              rw (power, outcome_taken e, return_taken e, e)
              (λ i.
              record {
                progress = record { side = 2 ^ r; dots = there.dots; knit = knit };
                checkpoints = counts_of m;
                said = returned [];
                pyramid =
                    rows_over r m.sheet.pyramid p b.pyramid_lent sheet.sized.pyramid there.pyramid
                    (sheet_of_lem there there_stage).sized.pyramid h.pyramid_long i;
                serials =
                    lent_back m.sheet.serials there.serials s (cell_count r) b.serials_lent
                    sheet.sized.serials h.serials_long i;
                order =
                    lent_back m.sheet.order there.order o (cell_count r) b.order_lent
                    sheet.sized.order h.order_long i;
              })
          go (suc n) e =
              unfold return_of restore_by_quarters said_of in
              rw (power, outcome_refused n e, return_refused n e, e)
              (λ i.
              record {
                progress = given;
                checkpoints = counts_of m;
                said = refused (suc n);
                pyramid = rows_stay r m.sheet.pyramid p b.pyramid_lent sheet.sized.pyramid i;
                serials = take-append-drop b.serials_lent (m.sheet.serials ++ s) i;
                order = take-append-drop b.order_lent (m.sheet.order ++ o) i;
              })

      return_stage : IsStage (model_return r m b)
      return_stage = go (model_return_refusal r m b) refl
        where
          go : (k : ℕ) → model_return_refusal r m b ≡ k → IsStage (model_return r m b)
          go zero e = rw (return_taken e) there_stage
          go (suc n) e = rw (return_refused n e) g.at_stage

    -- ---- a keep
    module _ (m : Memory) (name : ℕ) where
      abbrev record_now : Progress
      record_now = record { side = 2 ^ r; dots = m.sheet.dots; knit = knit }

      keep_row : keep_refusal r name ≡ lowest (name_unknown (is_name name) ∷ [])
      unfolding keep_refusal lowest
      keep_row = rw (ne_eqb r 0 (λ z. omega (arith, ap (λ (n : ℕ). 2 ^ n) z)))

      keep_taken : is_name name ≡ true → keep_of record_now (counts_of m) name
          ≡ record {
            progress = record_now;
            checkpoints = record { kept = map count_of (set m.names (name - 1) (some m.sheet)) };
            said = returned [];
          }
      unfolding keep_of count_of counts_of lowest
      keep_taken e =
          let z : keep_refusal r name ≡ 0 = keep_row ∙ rw e in
          rw (power, z, keep_of)
          (λ i.
          record {
            progress = record_now;
            checkpoints = record { kept = counts_set m.names (name - 1) (some m.sheet) i };
            said = returned [];
          })

      keep_refused : is_name name ≡ false → keep_of record_now (counts_of m) name
          ≡ record { progress = record_now; checkpoints = counts_of m; said = refused 10 }
      unfolding keep_of lowest
      keep_refused e =
          let z : keep_refusal r name ≡ 10 = keep_row ∙ rw e in
          rw (power, z, keep_of)

    -- ---- one call of the list
    abbrev same_act : Memory → Action → Type 0
    same_act m a =
        (act greys (caller_of m) a ≡ caller_of (model_act knit r m a))
        × (answer_of greys (caller_of m) a ≡ model_answer knit r m a) × Good (model_act knit r m a)

    pub act_same : (m : Memory) → Good m → (a : Action) → same_act m a
    unfolding act answer_of model_act model_answer caller_after counts_of said_of lowest
    act_same m g (advancing call) =
        let h = sheet_of_lem m.sheet g.at_stage in
        let held = held_same knit known r big power m.sheet h p s o call in
        let same = call_same knit known r big power m.sheet h p s o call in (
          (λ i. record { held = held i; checkpoints = counts_of m }),
          ap (λ (out : AdvanceOutcome). replied out.reply) same,
          record {
            at_stage = stage_call knit known r big power greys bytes m.sheet g.at_stage call;
            at_names = g.at_names;
            eight = g.eight;
          },
        )
    act_same m g (keeping name) = go (is_name name) refl
      where
        go : (b : Bool) → is_name name ≡ b → same_act m (keeping name)
        go true e =
            rw (e, keep_taken m name e, act, answer_of, model_act, model_answer, said_of, lowest) (
              refl,
              refl,
              record {
                at_stage = g.at_stage;
                at_names = each_set StageOr m.names (name - 1) (some m.sheet) g.at_stage g.at_names;
                eight = rw length-set g.eight;
              },
            )
        go false e = rw (e, keep_refused m name e, act, answer_of, model_act, model_answer, said_of, lowest)
            (refl, refl, g)
    act_same m g (returning b) = (
      ap caller_after (return_same m g b),
      ap (λ (out : RestoreOutcome). back out.progress out.said) (return_same m g b),
      record { at_stage = return_stage m g b; at_names = g.at_names; eight = g.eight },
    )

    -- ---- a list of them
    pub all_held : (actions : List Action) (m : Memory) → Good m
        → caller_after_all greys (caller_of m) actions ≡ caller_of (memory_after_all knit r m actions)
    unfolding caller_after_all memory_after_all
    all_held [] m g = refl
    all_held (a ∷ rest) m g =
        let h = act_same m g a in
        ap (λ (c : Caller). caller_after_all greys c rest) h.0 ∙ all_held rest (model_act knit r m a) h.2

    pub all_answered : (actions : List Action) (m : Memory) → Good m
        → answers_of greys (caller_of m) actions ≡ model_answers knit r m actions
    unfolding answers_of model_answers
    all_answered [] m g = refl
    all_answered (a ∷ rest) m g =
        let h = act_same m g a in
        ap₂ ◌∷◌ h.1
        (ap (λ (c : Caller). answers_of greys c rest) h.0
        ∙ all_answered rest (model_act knit r m a) h.2)

    pub all_good : (actions : List Action) (m : Memory) → Good m → Good (memory_after_all knit r m actions)
    unfolding memory_after_all
    all_good [] m g = g
    all_good (a ∷ rest) m g = all_good rest (model_act knit r m a) (act_same m g a).2
