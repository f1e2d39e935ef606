-- Advance's two ways out: refused, with nothing changed (`refused_is`), and the sheet run and advanced (`advanced_is`,
-- `passed_is`).
use Rattle.std.specs.Prelude.{◌≡◌, List, ◌++◌, length, get_or, drop, ℤ, pos, Result, Ok, Err}
use Rattle.std.proofs.Math.Path.{sym, ap}
use Rattle.std.proofs.Common.{◌∙◌, arith, mul-le-mul, pow_mono, length-append, length-take-le, Fits}
use Prim.Native.Nat.{ℕ, suc, ◌+◌, ◌-◌, ◌^◌, ◌≤◌, ◌<◌, min}
use Rattle.std.proofs.Math.ListN.{take, get_or-append}
use Rattle.std.specs.Int.{w32}
use Rattle.definition.specs.Answers.{status_says, number_of}
use Rattle.definition.specs.Pyramid.{needed, cell_count}
use Rattle.definition.specs.Diffusion.{kernel_of}
use Rattle.definition.specs.Refusals.{power_of}
use Rattle.definition.specs.Model.{Halftone, top_of, steps}
use Rattle.definition.specs.Sound.{is_sound}
use Rattle.definition.specs.Quarters.{rows_from, as_rows}
use Rattle.definition.specs.ByQuarters.{advance_by_quarters}
use Rattle.definition.specs.Advance.{Reply, reply_of, dots_due, said_at, sheet_in, advance_refusal, advanced}
use Rattle.definition.specs.Advance.{advance_of}
use Rattle.definition.specs.declared.Progress.{Progress}
use Rattle.definition.specs.declared.Refusal.{Refusal}
use Rattle.definition.specs.declared.AdvanceAnswer.{AdvanceAnswer}
use Rattle.definition.specs.declared.AdvanceStatus.{AdvanceStatus}
use Rattle.integers.specs.Tests.{T_true}
use Rattle.quadtree.specs.Levels.{start_suc, cells_few}
use Rattle.layouts.specs.Relaid.{length_rows}
use Rattle.layouts.specs.Lent.{rows_length, rows_taken, rows_take, rows_drop, rows_part, quarters_rows}
use Rattle.shares.specs.Kernels.{knit_fit}
use Rattle.refusals.specs.Powers.{power_small}
use Rattle.refusals.specs.Numbers.{number_positive}
use Rattle.dots.proofs.Steps.{Sheet, steps_sheet}
use Rattle.dots.specs.SoundTest.{test_sound}
use Rattle.checks.specs.Checks.{checked, passed_none, failed_number}
use Rattle.sheet.specs.Sheets.{SheetAsked, sheet_asked}
use Rattle.dot_run.specs.Running.{RunAsked, Ran, top_rows}

-- ---- the sheet's parts lent, its pyramid p by quarters; n and c are what the code has worked out for the needed
-- length and the number of cells
module _ {r dots : ℕ} (p : List ℤ) (s o : List ℕ) (h : SheetAsked r dots p s o) {n c : ℕ} (en : n ≡ needed r)
    (ec : c ≡ cell_count r) where
  pyramid_in : n ≤ length p
  pyramid_in = omega (arith, h.lent.pyramid_long)

  pub pyramid_part : n ≡ length (take n p)
  pyramid_part = sym (length-take-le n p pyramid_in)

  pub serials_part : c ≡ length (take c s)
  serials_part = sym (length-take-le c s (omega (arith, h.lent.serials_long)))

  pub order_part : c ≡ length (take c o)
  order_part = sym (length-take-le c o (omega (arith, h.lent.order_long)))

  pub whole : length (take n p) ≡ needed r
  whole = sym pyramid_part ∙ en

  abbrev rows : List ℤ
  rows = as_rows r p

  abbrev lent : Halftone
  lent = record { pyramid = rows_from r (take n p); serials = take c s; order = take c o; dots = dots }

  lent_is : lent ≡ sheet_in r dots rows s o
  unfolding sheet_in
  lent_is =
      let front : rows_from r (take n p) ≡ take (needed r) rows =
      ap (λ (m : ℕ). rows_from r (take m p)) en ∙ rows_taken r p ∙ sym (rows_take r p h.lent.pyramid_long) in
      rw (front, ec)

  pub run_asked : RunAsked r lent
  run_asked =
      record {
        power = h.lent.power;
        small = h.small;
        sheet =
            record {
              sized =
                  record {
                    pyramid = length_rows r (take n p);
                    serials = sym serials_part ∙ ec;
                    order = sym order_part ∙ ec;
                  };
              sound = rw lent_is (test_sound r (sheet_in r dots rows s o) (T_true _ h.sound));
            };
      }

  module _ (knit budget : ℕ) {made : ℕ} (p' : List ℤ) {s' o' : List ℕ}
      (long : length p' ≡ length (take n p))
      (ran : Ran knit r lent budget made
      (record { pyramid = rows_from r p'; serials = s'; order = o'; dots = dots + made })) where
    big : 2 ≤ 2 ^ r
    big = pow_mono {i = 1} {j = r} h.lent.power

    sheet' : Sheet r (record { pyramid = rows_from r p'; serials = s'; order = o'; dots = dots + made })
    sheet' = rw ran.after_is (steps_sheet (kernel_of knit) (knit_fit knit) r big made lent run_asked.sheet)

    top_in : 0 < length p'
    top_in = omega (arith, long, whole, start_suc r, mul-le-mul big big)

    pub top_there : 0 < length (p' ++ drop n p)
    top_there = omega (arith, top_in, length-append p' (drop n p))

    pub dots_fit : Fits w32 (dots + made)
    dots_fit = record { fits = omega (arith, sheet'.sound.few_dots_lem, cells_few r h.small) }

    made_in : min budget (dots_due (top_of (sheet_in r dots rows s o).pyramid)) ≡ made
    made_in = rw (← lent_is) (sym ran.made_is)

    after_in : steps (kernel_of knit) r made (sheet_in r dots rows s o)
        ≡ record { pyramid = rows_from r p'; serials = s'; order = o'; dots = dots + made }
    after_in = rw (← lent_is) (sym ran.after_is)

    -- the whole pyramid afterwards, row after row
    rows_after : as_rows r (p' ++ drop n p) ≡ rows_from r p' ++ drop (needed r) rows
    rows_after =
        rows_part r p' (drop n p) (long ∙ whole)
        ∙ ap (λ (l : List ℤ). rows_from r p' ++ l) (ap (λ (m : ℕ). drop m p) en ∙ sym (rows_drop r p))

    top_is : top_of (rows_from r p') ≡ get_or (p' ++ drop n p) 0 (pos 0)
    top_is = top_rows r p' ∙ sym (get_or-append p' (drop n p) (pos 0) 0 top_in)

    pub advanced_is : (progress : Progress) (status : AdvanceStatus) (top : ℤ)
        → dots ≡ progress.dots → knit ≡ progress.knit
        → top ≡ get_or (p' ++ drop n p) 0 (pos 0) → status_says status ≡ said_at top
        → record {
          reply =
              record {
                progress = record { side = progress.side; dots = dots + made; knit = knit };
                made = made;
                said = status_says status;
              };
          pyramid = as_rows r (p' ++ drop n p);
          serials = s' ++ drop c s;
          order = o' ++ drop c o;
        }
        ≡ advanced r progress budget rows s o
    unfolding advanced
    advanced_is progress status top ed ek et says =
        rw (← ed, ← ek, says, et, ← top_is, made_in, after_in, rows_after, ec)

-- ---- the call
module _ (progress : Progress) (p : List ℤ) (s o : List ℕ) {r : ℕ} (er : r ≡ power_of progress.side) where
  abbrev lent_refusal : ℕ
  lent_refusal =
      advance_refusal r progress.knit (length p) (length s) (length o)
      (is_sound r (sheet_in r progress.dots (as_rows r p) s o))

  abbrev side_power : ℕ
  side_power = power_of progress.side

  abbrev rows_lent : List ℤ
  rows_lent = as_rows side_power p

  abbrev refusal_of : ℕ
  refusal_of =
      advance_refusal side_power progress.knit (length rows_lent) (length s) (length o)
      (is_sound side_power (sheet_in side_power progress.dots rows_lent s o))

  refusal_rows : lent_refusal ≡ refusal_of
  refusal_rows = rw (rows_length side_power p, ← er)

  pub refused_is : (budget : ℕ) (why : Refusal) {a : Result AdvanceAnswer Refusal}
      → checked (Err why) ≡ lent_refusal → a ≡ Err why
      → record { reply = reply_of progress a; pyramid = p; serials = s; order = o }
      ≡ advance_by_quarters progress budget p s o
  unfolding advance_by_quarters advance_of reply_of
  refused_is budget why e ea =
      let n : refusal_of ≡ suc (number_of why - 1) = failed_number why (e ∙ refusal_rows) in
      rw (ea, advance_by_quarters, n, advance_of, quarters_rows side_power p, ← number_positive why)

  module _ (e : checked (Ok tt) ≡ lent_refusal) where
    pub advance_asked : SheetAsked r progress.dots p s o
    advance_asked = sheet_asked progress.knit (power_small progress.side er) progress.dots p s o e

    -- what is left, row after row, is what the call by rows leaves; so what lies there is that by quarters
    pub passed_is : (budget : ℕ) (answer : AdvanceAnswer) {p' : List ℤ} {s' o' : List ℕ}
        → record {
          reply = record { progress = answer.progress; made = answer.made; said = status_says answer.status };
          pyramid = as_rows r p';
          serials = s';
          order = o';
        }
        ≡ advanced r progress budget (as_rows r p) s o
        → record { reply = reply_of progress (Ok answer); pyramid = p'; serials = s'; order = o' }
        ≡ advance_by_quarters progress budget p s o
    unfolding advance_by_quarters advance_of reply_of
    passed_is budget answer {p'} {s'} {o'} q =
        let reply : Reply = reply_of progress (Ok answer) in
        let z : refusal_of ≡ 0 = passed_none (e ∙ refusal_rows) in
        let back : record { reply = reply; pyramid = as_rows side_power p'; serials = s'; order = o' }
        ≡ advanced side_power progress budget rows_lent s o
        = rw er at q in
        rw (advance_by_quarters, z, advance_of, ← back, quarters_rows side_power p')
