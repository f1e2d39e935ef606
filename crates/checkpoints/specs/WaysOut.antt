-- The two calls' ways out: refused, with nothing changed (`keep_refused`, `restore_refused`), and done (`keep_done`,
-- `restore_done`).
use Rattle.std.specs.Prelude.{◌≡◌, Bool, true, false, not, eqb, length, get_or, set, ℤ, Result, Ok, Err}
use Rattle.std.proofs.Math.Path.{sym}
use Rattle.std.proofs.Common.{◌∙◌, arith}
use mathlib.Core.List.{List, [], ◌∷◌, ◌++◌}
use Prim.Native.Nat.{ℕ, suc, ◌-◌, ◌^◌, ◌≤◌, ◌<◌}
use borrow.Author.Tests.{not-false}
use Rattle.std.proofs.Math.ListN.{drop}
use Rattle.definition.specs.Answers.{done_says, kept_after, record_after, number_of}
use Rattle.definition.specs.Pyramid.{needed}
use Rattle.definition.specs.Blocks.{grey_total, total_of}
use Rattle.definition.specs.Diffusion.{kernel_of}
use Rattle.definition.specs.Model.{model_start, steps}
use Rattle.definition.specs.Quarters.{quarters_from, as_rows, as_quarters}
use Rattle.definition.specs.ByQuarters.{restore_by_quarters}
use Rattle.definition.specs.QuotePage.{figures}
use Rattle.definition.specs.Sound.{is_sound}
use Rattle.definition.specs.Refusals.{power_of, sheet_unsound, grey_high, lowest}
use Rattle.definition.specs.Load.{low_map, load_refusal}
use Rattle.definition.specs.Advance.{sheet_in}
use Rattle.definition.specs.Checkpoints.{is_name, kept_at, name_unknown, keep_refusal, keep_of}
use Rattle.definition.specs.Checkpoints.{can_restore, restore_refusal, restored, restore_of}
use Rattle.definition.specs.declared.Progress.{Progress}
use Rattle.definition.specs.declared.Refusal.{Refusal}
use Rattle.definition.specs.declared.Checkpoints.{Checkpoints}
use Rattle.refusals.specs.Lowest.{LoadLent, load_none, lowest_none}
use Rattle.refusals.specs.Numbers.{number_positive}
use Rattle.layouts.specs.Lent.{rows_length, rows_drop, as_quarters_part, quarters_rows}
use Rattle.checks.specs.Checks.{checked, passed_none, failed_number}
use Rattle.guarantee.proofs.Quote.{figures_fit}
use Rattle.sheet.specs.Sheets.{SheetLent, shown_rows}
use Rattle.fresh_sheet.specs.Filling.{fill_lent}
use Rattle.quote_figures.specs.MapLent.{MapLent}
use Rattle.checkpoints.specs.Restoring.{CountAsked, AnewAsked, Restored}
use Rattle.names.specs.Names.{kept_within}
use Rattle.checkpoints.specs.Rows.{lent_first, then_last, restore_none}

-- ---- Keep
module _ (progress : Progress) (checkpoints : Checkpoints) (name : ℕ) {r : ℕ} (er : r ≡ power_of progress.side) where
  pub keep_refused : (why : Refusal) {a : Result Checkpoints Refusal} → checked (Err why) ≡ keep_refusal r name
      → a ≡ Err why
      → record { progress = progress; checkpoints = kept_after checkpoints a; said = done_says a }
      ≡ keep_of progress checkpoints name
  unfolding keep_of done_says
  keep_refused why e ea =
      let n : keep_refusal (power_of progress.side) name ≡ suc (number_of why - 1) =
      rw (← er) (failed_number why e) in
      rw (ea, n, keep_of, ← number_positive why)

  module _ (e : checked (Ok tt) ≡ keep_refusal r name) where
    pub keep_named : is_name name ≡ true
    unfolding keep_refusal
    keep_named =
        let r₁ = lowest_none 1 (eqb r 0) _ (omega arith) (passed_none e) in
        not-false (is_name name) (lowest_none 10 (not (is_name name)) _ (omega arith) r₁.1).0

    pub keep_done : {with' : Checkpoints}
        → with' ≡ record { kept = set checkpoints.kept (name - 1) (suc progress.dots) }
        → record {
          progress = progress;
          checkpoints = kept_after checkpoints (Ok with');
          said = done_says {A = Checkpoints} (Ok with');
        }
        ≡ keep_of progress checkpoints name
    unfolding keep_of done_says
    keep_done ew =
        let z : keep_refusal (power_of progress.side) name ≡ 0 = rw (← er) (passed_none e) in
        rw (ew, z, keep_of)

-- ---- Restore's check: Load's rows by what is lent, then the last three
module _ {r : ℕ} (small : r ≤ 8) (dots knit : ℕ) (checkpoints : Checkpoints) (name : ℕ)
    (g : List ℕ) (p : List ℤ) (s o : List ℕ) where
  abbrev first_refusal : ℕ
  first_refusal = load_refusal r knit (length g) (length p) (length s) (length o) true

  abbrev refusal : ℕ
  refusal =
      restore_refusal r knit (length g) (length p) (length s) (length o)
      (is_sound r (sheet_in r dots (as_rows r p) s o))
      (low_map r g) (can_restore checkpoints name (total_of (grey_total r g)))

  pub first_failed : (why : Refusal) → checked (Err why) ≡ first_refusal → checked (Err why) ≡ refusal
  unfolding checked
  first_failed why e =
      number_positive why
      ∙ sym
      (lent_first r knit (length g) (length p) (length s) (length o) _ _ _ (number_of why - 1)
      (failed_number why e))

  module _ (e : checked (Ok tt) ≡ first_refusal) where
    none_lent : LoadLent r knit (length g) (length p) (length s) (length o)
    none_lent = ((load_none r knit (length g) (length p) (length s) (length o) true).0 (passed_none e)).0

    pub map_lent : MapLent r (length g)
    map_lent = record { power = none_lent.power; powers = small; room = none_lent.greys_long }

    pub sheet_lent : SheetLent r (length p) (length s) (length o)
    sheet_lent =
        record {
          power = none_lent.power;
          pyramid_long = none_lent.pyramid_long;
          serials_long = none_lent.serials_long;
          order_long = none_lent.order_long;
        }

    pub last_checked : {sound : Bool} → sound ≡ is_sound r (sheet_in r dots (shown_rows false r p) s o)
        → {low : Bool} → low ≡ low_map r g
        → {total : ℕ} → total ≡ total_of (grey_total r g)
        → {known : Bool} → known ≡ can_restore checkpoints name total
        → {last : ℕ} → last ≡ lowest (sheet_unsound sound ∷ grey_high low ∷ name_unknown known ∷ [])
        → last ≡ refusal
    unfolding shown_rows
    last_checked es el et ek q =
        rw (es, el, ek, et) at q
        ∙ sym (then_last r knit (length g) (length p) (length s) (length o) _ _ _ (passed_none e))

-- ---- what a Restore that isn't refused was given
module _ (knit : ℕ) (checkpoints : Checkpoints) (name : ℕ) (g : List ℕ) (p : List ℤ) (s o : List ℕ)
    {r : ℕ} (small : r ≤ 8) (sound : Bool)
    (e : checked (Ok tt)
    ≡ restore_refusal r knit (length g) (length p) (length s) (length o) sound (low_map r g)
    (can_restore checkpoints name (total_of (grey_total r g))))
    (bytes : (i : ℕ) → get_or g i 0 ≤ 255) where
  none : (load_refusal r knit (length g) (length p) (length s) (length o) true ≡ 0)
      × (can_restore checkpoints name (total_of (grey_total r g)) ≡ true)
  none = restore_none r knit (length g) (length p) (length s) (length o) _ _ _ (passed_none e)

  pub anew_asked : AnewAsked r g (length p) (length s) (length o)
  anew_asked =
      let lent = ((load_none r knit (length g) (length p) (length s) (length o) true).0 none.0).0 in
      record { lent = fill_lent small lent; bytes = bytes }

  -- the sum of all greys has at most the eight digits of its column on the quote page, so the total is small
  greys_few : grey_total r g < 10 ^ 8
  unfolding grey_total figures
  greys_few = (figures_fit r g [] 0 0 0 small (omega arith) (omega arith) (omega arith) bytes).1.1.0

  pub count_asked : CountAsked checkpoints name
  count_asked =
      let k = kept_within checkpoints name (total_of (grey_total r g)) none.1 in
      record { is_name = k.0; some = k.1; few = omega (arith, k.2, greys_few) }

-- ---- Restore
module _ (progress : Progress) (checkpoints : Checkpoints) (name : ℕ) (g : List ℕ) (p : List ℤ) (s o : List ℕ)
    {r : ℕ} (er : r ≡ power_of progress.side) where
  abbrev lent_refusal : ℕ
  lent_refusal =
      restore_refusal r progress.knit (length g) (length p) (length s) (length o)
      (is_sound r (sheet_in r progress.dots (as_rows r p) s o)) (low_map r g)
      (can_restore checkpoints name (total_of (grey_total r g)))

  abbrev side_power : ℕ
  side_power = power_of progress.side

  abbrev rows : List ℤ
  rows = as_rows side_power p

  abbrev refusal_of : ℕ
  refusal_of =
      restore_refusal side_power progress.knit (length g) (length rows) (length s) (length o)
      (is_sound side_power (sheet_in side_power progress.dots rows s o)) (low_map side_power g)
      (can_restore checkpoints name (total_of (grey_total side_power g)))

  refusal_rows : lent_refusal ≡ refusal_of
  refusal_rows = rw (rows_length side_power p, ← er)

  pub restore_refused : (why : Refusal) {a : Result Progress Refusal} → checked (Err why) ≡ lent_refusal
      → a ≡ Err why
      → record {
        progress = record_after progress a;
        checkpoints = checkpoints;
        said = done_says a;
        pyramid = p;
        serials = s;
        order = o;
      }
      ≡ restore_by_quarters progress checkpoints name g p s o
  unfolding restore_by_quarters restore_of done_says
  restore_refused why e ea =
      let n : refusal_of ≡ suc (number_of why - 1) = failed_number why (e ∙ refusal_rows) in
      rw (ea, restore_by_quarters, n, restore_of, quarters_rows side_power p, ← number_positive why)

  pub restore_done : checked (Ok tt) ≡ lent_refusal → {dots : ℕ} → dots ≡ kept_at checkpoints name - 1
      → {p' : List ℤ} {s' o' : List ℕ} → Restored progress.knit r dots g p s o p' s' o'
      → record {
        progress = record_after progress (Ok (record { side = progress.side; dots = dots; knit = progress.knit }));
        checkpoints = checkpoints;
        said = done_says {A = Progress} (Ok (record { side = progress.side; dots = dots; knit = progress.knit }));
        pyramid = p';
        serials = s';
        order = o';
      }
      ≡ restore_by_quarters progress checkpoints name g p s o
  unfolding restore_by_quarters restore_of restored done_says
  restore_done e ed f =
      let z : refusal_of ≡ 0 = passed_none (e ∙ refusal_rows) in
      let count = kept_at checkpoints name - 1 in
      let sheet = steps (kernel_of progress.knit) side_power count (model_start side_power g) in
      let back : as_quarters side_power (sheet.pyramid ++ drop (needed side_power) rows)
      ≡ quarters_from side_power sheet.pyramid ++ drop (needed side_power) p
      = as_quarters_part side_power sheet.pyramid _ (rw (er, ed) at f.long) ∙ rw (rows_drop side_power p) in
      rw (f.pyramid, f.serials, f.order, ed, er, restore_by_quarters, z, restore_of, back)
