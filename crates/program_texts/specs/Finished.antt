-- A map of at most 1,024 cells (`MapAsked`), loaded and run with a budget of 1,024 holes or more: the buffers then
-- begin with its finished sheet (`finished_sheet`, `map_finished`).
use Rattle.std.specs.Prelude.{◌≡◌, Bool, cond, true, false, List, ◌++◌, length, drop, ℤ, pos, Ok, Err}
use Rattle.std.proofs.Math.Path.{sym, ap}
use Rattle.std.proofs.Common.{◌∙◌, append-nil, arith, pow_pos, pow_mono, drop_of_length-le, take_all, suc-ne-zero}
use Prim.Native.Nat.{ℕ, ◌^◌, ◌≤◌, ◌<◌, min}
use Rattle.std.proofs.Math.ListN.{length-append}
use borrow.Author.Tests.{le-ltb}
use Rattle.std.specs.Int.Signed.{lt_z}
use Rattle.definition.specs.Answers.{Said, finished, more, refused, number_of, done_says, load_record}
use Rattle.definition.specs.Pyramid.{needed, cell_count, half_dot}
use Rattle.definition.specs.Diffusion.{plain, kernel_of}
use Rattle.definition.specs.Model.{Halftone, top_of, model_start, steps}
use Rattle.definition.specs.Refusals.{power_of, lowest}
use Rattle.definition.specs.Load.{low_map}
use Rattle.definition.specs.Quarters.{quarters_from}
use Rattle.definition.specs.ByQuarters.{load_by_quarters, advance_by_quarters}
use Rattle.definition.specs.Advance.{Reply, AdvanceOutcome, dots_due, said_at, reply_of}
use Rattle.definition.specs.AdvanceList.{Call, Held, held_after_load, call_of, held_after, model_refusal}
use Rattle.definition.specs.Plate.{finished_of}
use Rattle.definition.specs.declared.Progress.{Progress}
use Rattle.definition.specs.declared.AdvanceAnswer.{AdvanceAnswer}
use Rattle.definition.specs.declared.Refusal.{Refusal}
use Rattle.refusals.specs.Powers.{side_pow}
use Rattle.refusals.specs.Lowest.{LoadLent, load_none}
use Rattle.layouts.specs.Relaid.{length_quarters}
use Rattle.shares.specs.Kernels.{knit_fit}
use Rattle.dots.proofs.Steps.{Sheet, steps_sheet, steps_made}
use Rattle.dots.proofs.StepsMin.{steps_min}
use Rattle.guarantee.proofs.Lent.{held_of}
use Rattle.guarantee.proofs.OneCall.{model_taken, reply_taken, call_same, held_same}
use Rattle.guarantee.proofs.Start.{Loaded, loaded_held}

-- the finished sheet of a map, in buffers that went on behind the needed lengths as p, s and o do
abbrev pub finished_in : ℕ → List ℕ → List ℤ → List ℕ → List ℕ → Held
finished_in r greys p s o =
    held_of plain r (finished_of plain r greys) (drop (needed r) p) (drop (cell_count r) s) (drop (cell_count r) o)

-- a side of at most 32, low greys from which the model starts with a sound sheet, and the lengths of the three buffers
pub record MapAsked (side : ℕ) (greys : List ℕ) (pyramid serials order : ℕ) : Type 0 where
  pub few : cell_count (power_of side) ≤ 1024
  pub lent : LoadLent (power_of side) plain (length greys) pyramid serials order
  pub low : low_map (power_of side) greys ≡ true
  pub start : Sheet (power_of side) (model_start (power_of side) greys)

pub power_again : (side : ℕ) → 0 < power_of side → power_of (2 ^ power_of side) ≡ power_of side
power_again side h = ap power_of (sym (side_pow side h))

-- ---- the holes due are no more than there are cells, so a budget of that many makes them all
module _ (r : ℕ) (big : 2 ≤ 2 ^ r) (greys : List ℕ) (start : Sheet r (model_start r greys)) where
  abbrev due : ℕ
  due = dots_due (top_of (model_start r greys).pyramid)

  due_few : due ≤ cell_count r
  due_few =
      let fresh = model_start r greys in
      let made = steps_made (kernel_of plain) (knit_fit plain) r big due fresh start in
      omega (arith, made, (steps_sheet (kernel_of plain) (knit_fit plain) r big due fresh start).sound.few_dots_lem)

  finished_steps : (budget : ℕ) → cell_count r ≤ budget
      → steps (kernel_of plain) r budget (model_start r greys) ≡ finished_of plain r greys
  unfolding finished_of
  finished_steps budget h =
      let z : min budget due ≡ due = omega (arith, due_few) in
      sym (steps_min (kernel_of plain) (knit_fit plain) r big budget (model_start r greys) start)
      ∙ ap (λ (n : ℕ). steps (kernel_of plain) r n (model_start r greys)) z

  pub finished_sheet : Sheet r (finished_of plain r greys)
  unfolding finished_of
  finished_sheet = steps_sheet (kernel_of plain) (knit_fit plain) r big due (model_start r greys) start

-- ---- a call that is lent the whole buffers
abbrev whole_call : Held → ℕ → Call
whole_call held budget =
    record {
      budget = budget;
      pyramid_lent = length held.pyramid;
      serials_lent = length held.serials;
      order_lent = length held.order;
    }

-- Advance, as a call on what the caller holds
abbrev advanced_from : Held → ℕ → AdvanceOutcome
advanced_from held budget = advance_by_quarters held.progress budget held.pyramid held.serials held.order

call_whole : (held : Held) (budget : ℕ) → call_of held (whole_call held budget) ≡ advanced_from held budget
unfolding call_of
call_whole held budget =
    let p = held.pyramid in
    let s = held.serials in
    let o = held.order in
    rw (
      take_all (length p) p (omega arith),
      take_all (length s) s (omega arith),
      take_all (length o) o (omega arith),
      drop_of_length-le p {i = length p} (omega arith),
      drop_of_length-le s {i = length s} (omega arith),
      drop_of_length-le o {i = length o} (omega arith),
      append-nil (advanced_from held budget).pyramid,
      append-nil (advanced_from held budget).serials,
      append-nil (advanced_from held budget).order,
    )

module _ (r : ℕ) (some : 0 < r) (power : power_of (2 ^ r) ≡ r) (greys : List ℕ) (start : Sheet r (model_start r greys))
    (p : List ℤ) (s o : List ℕ)
    (budget : ℕ) (enough : cell_count r ≤ budget) where
  abbrev fresh : Halftone
  fresh = model_start r greys

  abbrev call : Call
  call = whole_call (held_of plain r fresh p s o) budget

  big : 2 ≤ 2 ^ r
  big = pow_mono {i = 1} {j = r} some

  known : plain ≤ 1
  known = omega arith

  not_refused : model_refusal r call ≡ 0
  unfolding model_refusal lowest
  not_refused =
      rw (
        le-ltb (length (quarters_from r fresh.pyramid ++ p)) (needed r)
            (omega (arith, length-append (quarters_from r fresh.pyramid) p, length_quarters r fresh.pyramid)),
        le-ltb (length (fresh.serials ++ s)) (cell_count r)
            (omega (arith, length-append fresh.serials s, start.sized.serials)),
        le-ltb (length (fresh.order ++ o)) (cell_count r)
            (omega (arith, length-append fresh.order o, start.sized.order)),
      )

  run_held : held_after (advanced_from (held_of plain r fresh p s o) budget)
      ≡ held_of plain r (finished_of plain r greys) p s o
  run_held =
      ap held_after (sym (call_whole (held_of plain r fresh p s o) budget))
      ∙ held_same plain known r big power fresh start p s o call
      ∙ ap (λ (t : Halftone). held_of plain r t p s o)
      (model_taken plain known r big power fresh start p s o call not_refused
      ∙ finished_steps r big greys start budget enough)

  run_said : (advanced_from (held_of plain r fresh p s o) budget).reply.said
      ≡ said_at (top_of (steps (kernel_of plain) r budget fresh).pyramid)
  run_said =
      ap (λ (o : AdvanceOutcome). o.reply.said)
      (sym (call_whole (held_of plain r fresh p s o) budget)
      ∙ call_same plain known r big power fresh start p s o call)
      ∙ ap (λ (reply : Reply). reply.said)
      (reply_taken plain known r big power fresh start p s o call not_refused)

-- what an Advance says that is not refused is no number
not_said : (top : ℤ) (n : ℕ) → said_at top ≡ refused n → ⊥
unfolding said_at
not_said top n e = go (lt_z top (pos half_dot)) e
  where
    go : (b : Bool) → cond b finished more ≡ refused n → ⊥
    go true q = suc-ne-zero 0 (cc)
    go false q = suc-ne-zero 0 (cc)

-- ---- Load, then Advance
module _ (side : ℕ) (greys : List ℕ) (p : List ℤ) (s o : List ℕ)
    (asked : MapAsked side greys (length p) (length s) (length o)) where
  abbrev r : ℕ
  r = power_of side

  one_of_eight : 0 < r
  one_of_eight = asked.lent.power

  loaded : Loaded side plain greys p s o
  loaded =
      record {
        none =
            (load_none r plain (length greys) (length p) (length s) (length o) (low_map r greys)).1
            (asked.lent, asked.low);
        lent = asked.lent;
        low = asked.low;
        side_is = side_pow side one_of_eight;
      }

  -- the record that Load answers, and what it leaves
  abbrev fresh_held : Held
  fresh_held = held_of plain r (model_start r greys) (drop (needed r) p) (drop (cell_count r) s) (drop (cell_count r) o)

  load_held : {progress : Progress} {said : Said} {p₁ : List ℤ} {s₁ o₁ : List ℕ}
      → record { progress = progress; said = said; pyramid = p₁; serials = s₁; order = o₁ }
      ≡ load_by_quarters side plain greys p s o
      → record { progress = progress; pyramid = p₁; serials = s₁; order = o₁ } ≡ fresh_held
  load_held {progress} {said} {p₁} {s₁} {o₁} e = held_after ∙ loaded_held side plain greys p s o loaded
    where
      held_after : record { progress = progress; pyramid = p₁; serials = s₁; order = o₁ }
          ≡ held_after_load side plain greys p s o
      held_after = unfold held_after_load in rw (← e)

  -- it refuses no such map
  pub load_taken : (why : Refusal) {p₁ : List ℤ} {s₁ o₁ : List ℕ}
      → record {
        progress = load_record (Err why);
        said = done_says {A = Progress} (Err why);
        pyramid = p₁;
        serials = s₁;
        order = o₁;
      }
      ≡ load_by_quarters side plain greys p s o → ⊥
  load_taken why e =
      let zero_side : 0 ≡ 2 ^ r = ap (λ (held : Held). held.progress.side) (load_held e) in
      omega (arith, pow_pos r)

  module _ (start : Progress) {p₁ : List ℤ} {s₁ o₁ : List ℕ}
      (e : record {
        progress = load_record (Ok start);
        said = done_says {A = Progress} (Ok start);
        pyramid = p₁;
        serials = s₁;
        order = o₁;
      }
      ≡ load_by_quarters side plain greys p s o) (budget : ℕ) (enough : 1024 ≤ budget) where
    start_held : record { progress = start; pyramid = p₁; serials = s₁; order = o₁ } ≡ fresh_held
    start_held = load_held e

    -- Advance refuses no such sheet either
    pub advance_taken : (why : Refusal) {p₂ : List ℤ} {s₂ o₂ : List ℕ}
        → record { reply = reply_of start (Err why); pyramid = p₂; serials = s₂; order = o₂ }
        ≡ advance_by_quarters start budget p₁ s₁ o₁ → ⊥
    unfolding reply_of
    advance_taken why q =
        not_said _ (number_of why)
        (sym (ap (λ (o : AdvanceOutcome). o.reply.said) q
        ∙ ap (λ (held : Held). (advanced_from held budget).reply.said) start_held
        ∙ run_said r one_of_eight (power_again side one_of_eight) greys asked.start (drop (needed r) p)
        (drop (cell_count r) s) (drop (cell_count r) o)
        budget (omega (arith, asked.few))))

    pub map_finished : (answer : AdvanceAnswer) {p₂ : List ℤ} {s₂ o₂ : List ℕ}
        → record { reply = reply_of start (Ok answer); pyramid = p₂; serials = s₂; order = o₂ }
        ≡ advance_by_quarters start budget p₁ s₁ o₁
        → record { progress = answer.progress; pyramid = p₂; serials = s₂; order = o₂ } ≡ finished_in r greys p s o
    unfolding held_after reply_of
    map_finished answer q =
        ap held_after q
        ∙ ap (λ (held : Held). held_after (advanced_from held budget)) start_held
        ∙ run_held r one_of_eight (power_again side one_of_eight) greys asked.start (drop (needed r) p)
        (drop (cell_count r) s) (drop (cell_count r) o)
        budget (omega (arith, asked.few))
