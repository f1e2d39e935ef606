-- From what a call ensures: what its function for C returns and writes (`load_coded`, `advance_coded`, `text_coded` and
-- so on). `n` is what `code` has worked out for the answer, by `code_with`.
use Rattle.std.specs.Prelude.{◌≡◌, refl, Bool, cond, List, ℕ, ℤ, pos, replicate, get_or, Result, Ok, Err}
use Rattle.std.specs.Result.{result_unwrap_or}
use Rattle.std.proofs.Common.{◌∙◌, sym}
use Rattle.std.proofs.lemmas.List.Edits.{sets}
use Rattle.definition.specs.Answers.{
  Said,
  GreysOutcome,
  number_of,
  done_says,
  value_says,
  status_says,
  compare_says,
  sketch_says,
  no_record,
  load_record,
  record_after,
  levels_sums,
  kept_after,
  two_heads_answer,
}
use Rattle.definition.specs.Checkpoints.{keep_of}
use Rattle.definition.specs.ByQuarters.{load_by_quarters, advance_by_quarters, restore_by_quarters, RelayOutcome}
use Rattle.definition.specs.Advance.{reply_of}
use Rattle.definition.specs.Survey.{tally_of, levels_of}
use Rattle.definition.specs.Text.{TextOutcome}
use Rattle.definition.specs.LowerText.{LowerTextOutcome}
use Rattle.definition.specs.SketchQuote.{SketchOutcome}
use Rattle.definition.specs.Shelf.{ShelfOutcome}
use Rattle.heads.specs.TwoHeads.{two_heads_by_quarters}
use Rattle.definition.specs.declared.Refusal.{Refusal}
use Rattle.definition.specs.declared.Progress.{Progress}
use Rattle.definition.specs.declared.Checkpoints.{Checkpoints}
use Rattle.definition.specs.declared.AdvanceAnswer.{AdvanceAnswer}
use Rattle.definition.specs.declared.AdvanceStatus.{AdvanceStatus}
use Rattle.definition.specs.declared.SketchAnswer.{SketchAnswer}
use Rattle.definition.specs.declared.CompareAnswer.{CompareAnswer}
use Rattle.definition.specs.declared.TwoHeadsAnswer.{TwoHeadsAnswer}
use Rattle.rulmedei.specs.Codes.{
  code_of,
  value_of,
  values_in,
  cell_of,
  load_code,
  advance_code,
  keep_code,
  restore_code,
  tally_code,
  levels_code,
  greys_code,
  text_code,
  lower_text_code,
  sketch_code,
  compare_code,
  shelf_code,
  relay_code,
  renew_code,
  two_heads_code,
}

-- ---- the code of an answer: `done` where the call did its work, or the number of the refusal
unfoldable pub code_with : {A : Type 0} → ℕ → Result A Refusal → ℕ
code_with done (Ok _) = done
code_with done (Err why) = number_of why

done_is : {A : Type 0} (a : Result A Refusal) → code_with 0 a ≡ code_of (done_says a)
unfolding code_with code_of done_says
done_is (Ok _) = refl
done_is (Err why) = refl

-- ---- what an answer says beside its code
code_is : (a : Result ℕ Refusal) → code_with 0 a ≡ code_of (value_says a)
unfolding code_with code_of value_says
code_is (Ok v) = refl
code_is (Err why) = refl

value_is : (a : Result ℕ Refusal) → result_unwrap_or a 0 ≡ value_of (value_says a)
unfolding value_of value_says
value_is (Ok v) = refl
value_is (Err why) = refl

-- ---- the calls that answer a record
pub load_coded : (side knit : ℕ) (g : List ℕ) (p : List ℤ) (s o : List ℕ) (a : Result Progress Refusal)
    {p' : List ℤ} {s' o' : List ℕ}
    → record { progress = load_record a; said = done_says a; pyramid = p'; serials = s'; order = o' }
    ≡ load_by_quarters side knit g p s o
    → {b : Progress} → b ≡ result_unwrap_or a no_record → {n : ℕ} → n ≡ code_with 0 a
    → record { code = n; side = b.side; dots = b.dots; knit = b.knit; pyramid = p'; serials = s'; order = o' }
    ≡ load_code side knit g p s o
unfolding load_code
load_coded side knit g p s o a h e n = rw (← h, e, n ∙ done_is a)

module _ (side dots knit budget : ℕ) (p : List ℤ) (s o : List ℕ) {p' : List ℤ} {s' o' : List ℕ} where
  pub advance_coded : (a : AdvanceAnswer)
      → record {
        reply = reply_of (record { side = side; dots = dots; knit = knit }) (Ok a);
        pyramid = p';
        serials = s';
        order = o';
      }
      ≡ advance_by_quarters (record { side = side; dots = dots; knit = knit }) budget p s o
      → {t : AdvanceStatus} → a.status ≡ t → {n : ℕ} → n ≡ code_of (status_says t)
      → record { code = n; dots = a.progress.dots; made = a.made; pyramid = p'; serials = s'; order = o' }
      ≡ advance_code side dots knit budget p s o
  unfolding advance_code reply_of
  advance_coded a h is n = rw (← h, is, n)

  pub advance_refused : (why : Refusal)
      → record {
        reply = reply_of (record { side = side; dots = dots; knit = knit }) (Err why);
        pyramid = p';
        serials = s';
        order = o';
      }
      ≡ advance_by_quarters (record { side = side; dots = dots; knit = knit }) budget p s o
      → {n : ℕ} → n ≡ number_of why
      → record { code = n; dots = dots; made = 0; pyramid = p'; serials = s'; order = o' }
      ≡ advance_code side dots knit budget p s o
  unfolding advance_code reply_of code_of
  advance_refused why h n = rw (← h, n)

pub keep_coded : (side dots knit : ℕ) (kept : List ℕ) (name : ℕ) (a : Result Checkpoints Refusal)
    → record {
      progress = record { side = side; dots = dots; knit = knit };
      checkpoints = kept_after (record { kept = kept }) a;
      said = done_says a;
    }
    ≡ keep_of (record { side = side; dots = dots; knit = knit }) (record { kept = kept }) name
    → {b : Checkpoints} → b ≡ result_unwrap_or a (record { kept = kept }) → {n : ℕ} → n ≡ code_with 0 a
    → record { code = n; kept = b.kept } ≡ keep_code side dots knit kept name
unfolding keep_code
keep_coded side dots knit kept name a h e n = rw (← h, e, n ∙ done_is a)

pub restore_coded : (side dots knit : ℕ) (kept : List ℕ) (name : ℕ) (g : List ℕ) (p : List ℤ) (s o : List ℕ)
    (a : Result Progress Refusal) {p' : List ℤ} {s' o' : List ℕ}
    → record {
      progress = record_after (record { side = side; dots = dots; knit = knit }) a;
      checkpoints = record { kept = kept };
      said = done_says a;
      pyramid = p';
      serials = s';
      order = o';
    }
    ≡ restore_by_quarters (record { side = side; dots = dots; knit = knit }) (record { kept = kept }) name g p s o
    → {b : Progress} → b ≡ result_unwrap_or a (record { side = side; dots = dots; knit = knit })
    → {n : ℕ} → n ≡ code_with 0 a
    → record { code = n; dots = b.dots; pyramid = p'; serials = s'; order = o' }
    ≡ restore_code side dots knit kept name g p s o
unfolding restore_code
restore_coded side dots knit kept name g p s o a h e n = rw (← h, e, n ∙ done_is a)

pub levels_coded : (side : ℕ) (g s sums : List ℕ) (a : Result (List ℕ) Refusal)
    → record { sums = levels_sums a; said = done_says a } ≡ levels_of side g s
    → {nine : List ℕ} → nine ≡ result_unwrap_or a (replicate 9 0)
    → {stored : List ℕ} → stored ≡ sets sums 0 nine → {n : ℕ} → n ≡ code_with 0 a
    → record { code = n; sums = stored } ≡ levels_code side g s sums
unfolding levels_code
levels_coded side g s sums a h nine e n = rw (← h, e, nine, n ∙ done_is a)

-- ---- the calls that answer a number
pub tally_coded : (side : ℕ) (s : List ℕ) (k row column : ℕ) (a : Result ℕ Refusal)
    → value_says a ≡ tally_of side s k row column
    → {n v : ℕ} → n ≡ code_with 0 a → v ≡ result_unwrap_or a 0
    → record { code = n; value = v } ≡ tally_code side s k row column
unfolding tally_code
tally_coded side s k row column a h n v = rw (← h, n ∙ code_is a, v ∙ value_is a)

-- Map Text and the sample
pub greys_coded : {o : GreysOutcome} {after : List ℕ} (a : Result ℕ Refusal)
    → record { said = value_says a; greys = after } ≡ o
    → {n v : ℕ} → n ≡ code_with 0 a → v ≡ result_unwrap_or a 0
    → record { code = n; value = v; greys = after } ≡ greys_code o
unfolding greys_code
greys_coded a h n v = rw (← h, n ∙ code_is a, v ∙ value_is a)

-- what `text_code` returns and writes
pub case_coded : (a : Result ℕ Refusal) {n v : ℕ} → n ≡ code_with 0 a → v ≡ result_unwrap_or a 0
    → (n ≡ code_of (value_says a)) × (v ≡ value_of (value_says a))
case_coded a n v = (n ∙ code_is a, v ∙ value_is a)

pub text_coded : {o : TextOutcome} {after : List ℕ} (a : Result ℕ Refusal)
    → record { said = value_says a; output = after } ≡ o
    → {n v : ℕ} → n ≡ code_of (value_says a) → v ≡ value_of (value_says a)
    → record { code = n; length = v; output = after } ≡ text_code o
unfolding text_code
text_coded a h n v = rw (← h, n, v)

pub lower_text_coded : {o : LowerTextOutcome} {low after : List ℕ} (a : Result ℕ Refusal)
    → record { said = value_says a; greys = low; output = after } ≡ o
    → {n v : ℕ} → n ≡ code_of (value_says a) → v ≡ value_of (value_says a)
    → record { code = n; length = v; greys = low; output = after } ≡ lower_text_code o
unfolding lower_text_code
lower_text_coded a h n v = rw (← h, n, v)

-- ---- Sketch Quote, whose three values are 0 where it refuses
figures_are : (a : Result SketchAnswer Refusal) {b : SketchAnswer}
    → b ≡ result_unwrap_or a (record { side = 0; least = 0; greatest = 0 })
    → (code_with 0 a ≡ code_of (sketch_says a)) × (b.side ≡ get_or (values_in (sketch_says a)) 0 0)
    × (b.least ≡ get_or (values_in (sketch_says a)) 1 0) × (b.greatest ≡ get_or (values_in (sketch_says a)) 2 0)
unfolding code_with code_of values_in sketch_says
figures_are (Ok answer) e = rw e (refl, refl, refl, refl)
figures_are (Err why) e = rw e (refl, refl, refl, refl)

pub sketch_coded : {o : SketchOutcome} {low high cap : List ℕ} (a : Result SketchAnswer Refusal)
    → record { said = sketch_says a; lows = low; highs = high; caps = cap } ≡ o
    → {b : SketchAnswer} → b ≡ result_unwrap_or a (record { side = 0; least = 0; greatest = 0 })
    → {n : ℕ} → n ≡ code_with 0 a
    → record {
      code = n;
      side = b.side;
      least = b.least;
      greatest = b.greatest;
      lows = low;
      highs = high;
      caps = cap;
    } ≡ sketch_code o
unfolding sketch_code
sketch_coded a h e n = let f = figures_are a e in rw (← h, n ∙ f.0, f.1, f.2, f.3)

pub two_heads_coded : (side knit : ℕ) (g : List ℕ) (p : List ℤ) (s o : List ℕ) (a : Result TwoHeadsAnswer Refusal)
    {p' : List ℤ} {s' o' : List ℕ}
    → record {
      progress = (two_heads_answer a).progress;
      made = (two_heads_answer a).made;
      debt = (two_heads_answer a).debt;
      said = done_says a;
      pyramid = p';
      serials = s';
      order = o';
    }
    ≡ two_heads_by_quarters side knit g p s o
    → {b : TwoHeadsAnswer} → b ≡ result_unwrap_or a (record { progress = no_record; made = 0; debt = pos 0 })
    → {n : ℕ} → n ≡ code_with 0 a
    → record {
      code = n;
      side = b.progress.side;
      dots = b.progress.dots;
      knit = b.progress.knit;
      made = b.made;
      debt = b.debt;
      pyramid = p';
      serials = s';
      order = o';
    }
    ≡ two_heads_code side knit g p s o
unfolding two_heads_code
two_heads_coded side knit g p s o a h e n = rw (← h, e, n ∙ done_is a)

-- ---- the comparison and the shelf
pub compare_coded : {o : Said} (a : CompareAnswer) → compare_says (Ok a) ≡ o → {t : CompareAnswer} → a ≡ t
    → {n x y : ℕ} → n ≡ code_of (compare_says (Ok t)) → x ≡ (cell_of (compare_says (Ok t))).0
    → y ≡ (cell_of (compare_says (Ok t))).1
    → record { code = n; row = x; column = y } ≡ compare_code o
unfolding compare_code
compare_coded a h is n x y = rw (← h, is, n, x, y)

pub compare_refused : {o : Said} (why : Refusal) → compare_says (Err why) ≡ o → {n : ℕ} → n ≡ number_of why
    → record { code = n; row = 0; column = 0 } ≡ compare_code o
unfolding compare_code compare_says code_of cell_of
compare_refused why h n = rw (← h, n)

pub shelf_coded : {o : ShelfOutcome} {after : List ℕ} (a : Result (Unit {0}) Refusal)
    → record { said = done_says a; list = after } ≡ o → {n : ℕ} → n ≡ code_with 0 a
    → record { code = n; list = after } ≡ shelf_code o
unfolding shelf_code
shelf_coded a h n = rw (← h, n ∙ done_is a)

-- ---- Relay
pub relay_coded : {o : RelayOutcome} {after : List ℤ} (a : Result (Unit {0}) Refusal)
    → record { said = done_says a; second = after } ≡ o → {n : ℕ} → n ≡ code_with 0 a
    → record { code = n; second = after } ≡ relay_code o
unfolding relay_code
relay_coded a h n = rw (← h, n ∙ done_is a)

-- ---- the renewal, which answers whether it is made
pub renew_coded : (outcome : Bool × List ℤ) {b : Bool} {p' : List ℤ} → (b, p') ≡ outcome → {t : Bool} → b ≡ t → {n : ℕ}
    → n ≡ cond t 0 101 → record { code = n; pyramid = p' } ≡ renew_code outcome
unfolding renew_code
renew_coded outcome h is n = rw (← h, is, n)
