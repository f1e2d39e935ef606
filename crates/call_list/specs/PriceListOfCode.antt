-- A list of calls in code (`calls_in`), the caller's state after so many of them (`Called`), one call more
-- (`call_made`), and the price list of the state after all (`price_list_of_code`).
use Rattle.std.specs.Prelude.{◌≡◌, List, [], ◌∷◌, ◌++◌, ℕ, zero, suc, ◌+◌, ◌≤◌, ◌<◌, min, length, get_or, take, drop, ℤ}
use Rattle.std.specs.Prelude.{map, Ok, Err}
use Rattle.std.proofs.Math.Path.{refl}
use Rattle.std.proofs.Math.Seq.{take-suc}
use Rattle.std.proofs.lemmas.List.{map-append}
use Rattle.std.proofs.Common.{sym, ap, ◌∙◌, arith, add-one, add-zero, zero-add, drop_of_length-le, take_all}
use Rattle.std.proofs.Common.{length-take-le}
use Rattle.std.proofs.Math.Decide.{dec_lt}
use Rattle.definition.specs.Answers.{Said}
use Rattle.definition.specs.Blocks.{grey_total}
use Rattle.definition.specs.Model.{model_start}
use Rattle.definition.specs.Refusals.{power_of}
use Rattle.definition.specs.Advance.{Reply, reply_of}
use Rattle.definition.specs.ByQuarters.{load_by_quarters, advance_by_quarters}
use Rattle.definition.specs.AdvanceList.{
  Call,
  Held,
  held_after_load,
  call_of,
  held_after,
  outcomes_of,
  held_after_calls,
  replies_of,
  model_after_calls,
  model_replies,
}
use Rattle.definition.specs.declared.Progress.{Progress}
use Rattle.definition.specs.declared.Refusal.{Refusal}
use Rattle.definition.specs.declared.AdvanceAnswer.{AdvanceAnswer}
use Rattle.call_list.specs.declared.AdvanceCall.{AdvanceCall}
use Rattle.guarantee.specs.PriceList.{Accepted, Holds, PriceList}
use Rattle.guarantee.proofs.Promised.{price_list}

-- the call that the code makes
abbrev pub call_in : AdvanceCall → Call
call_in call =
    record {
      budget = call.budget;
      pyramid_lent = call.lent.pyramid;
      serials_lent = call.lent.serials;
      order_lent = call.lent.order;
    }

abbrev pub calls_in : List AdvanceCall → List Call
calls_in calls = map call_in calls

-- What the caller holds after Load and a list of calls; and, if Load accepts, the price list of it.
pub record Kept (side knit : ℕ) (g : List ℕ) (p : List ℤ) (s o : List ℕ) (calls : List Call) (held : Held) :
    Type 0 where
  pub held_is : held ≡ held_after_calls (held_after_load side knit g p s o) calls
  pub holds : Accepted side knit g p s o
      → Holds knit (power_of side) (grey_total (power_of side) g) g p s o calls held
      (outcomes_of (held_after_load side knit g p s o) calls) (replies_of (held_after_load side knit g p s o) calls)
      (model_after_calls knit (power_of side) (model_start (power_of side) g) calls)
      (model_replies knit (power_of side) (model_start (power_of side) g) calls)

pub kept : (side knit : ℕ) (g : List ℕ) (p : List ℤ) (s o : List ℕ) (calls : List Call) (held : Held)
    → held ≡ held_after_calls (held_after_load side knit g p s o) calls → Kept side knit g p s o calls held
kept side knit g p s o calls held e =
    record { held_is = e; holds = λ accepted. rw e (price_list side knit g p s o accepted calls) }

-- ---- one call more
held_more : (held : Held) (calls : List Call) (c : Call)
    → held_after_calls held (calls ++ (c ∷ [])) ≡ held_after (call_of (held_after_calls held calls) c)
unfolding held_after_calls
held_more held [] c = refl
held_more held (call ∷ calls) c = held_more (held_after (call_of held call)) calls c

-- ---- a part lent: all of a buffer, if it is shorter than asked
module _ {A : Type 0} (asked : ℕ) (l : List A) {n : ℕ} (e : n ≡ min asked (length l)) where
  pub lent_in : n ≤ length l
  lent_in = omega arith

  pub lent_length : n ≡ length (take n l)
  lent_length = sym (length-take-le n l lent_in)

  lent_same : (take n l ≡ take asked l) × (drop n l ≡ drop asked l)
  lent_same = go (dec_lt (length l) asked)
    where
      go : Dec (length l < asked) → (take n l ≡ take asked l) × (drop n l ≡ drop asked l)
      go (yes lt) = (
        take_all n l (omega arith) ∙ sym (take_all asked l (omega arith)),
        drop_of_length-le l {i = n} (omega arith)
            ∙ sym (drop_of_length-le l {i = asked} (omega arith)),
      )
      go (no ge) = let z : n ≡ asked = omega arith in (ap (λ (m : ℕ). take m l) z, ap (λ (m : ℕ). drop m l) z)

  pub lent_take : take n l ≡ take asked l
  lent_take = lent_same.0

  pub lent_drop : drop n l ≡ drop asked l
  lent_drop = lent_same.1

module _ (progress : Progress) (call : AdvanceCall) (p : List ℤ) (s o : List ℕ) {np ns no : ℕ}
    (ep : np ≡ min call.lent.pyramid (length p)) (es : ns ≡ min call.lent.serials (length s))
    (eo : no ≡ min call.lent.order (length o)) where
  pub call_made : {progress' : Progress} (reply : Reply) {p' : List ℤ} {s' o' : List ℕ}
      → record { reply = reply; pyramid = p'; serials = s'; order = o' }
      ≡ advance_by_quarters progress call.budget (take np p) (take ns s) (take no o)
      → progress' ≡ reply.progress
      → record { progress = progress'; pyramid = p' ++ drop np p; serials = s' ++ drop ns s; order = o' ++ drop no o }
      ≡ held_after (call_of (record { progress = progress; pyramid = p; serials = s; order = o }) (call_in call))
  unfolding held_after call_of
  call_made reply q e =
      rw (
        e,
        lent_drop call.lent.pyramid p ep,
        lent_drop call.lent.serials s es,
        lent_drop call.lent.order o eo,
        ← lent_take call.lent.pyramid p ep,
        ← lent_take call.lent.serials s es,
        ← lent_take call.lent.order o eo,
        ← q,
      )

-- the record of its reply
pub record_made : (given : Progress) (answer : AdvanceAnswer)
    → answer.progress ≡ (reply_of given (Ok answer)).progress
unfolding reply_of
record_made given answer = refl

pub record_given : (given : Progress) (why : Refusal) → given ≡ (reply_of given (Err why)).progress
unfolding reply_of
record_given given why = refl

pub loaded_held : (side knit : ℕ) (g : List ℕ) (p : List ℤ) (s o : List ℕ) {progress : Progress} {said : Said}
    {p' : List ℤ} {s' o' : List ℕ}
    → record { progress = progress; said = said; pyramid = p'; serials = s'; order = o' }
    ≡ load_by_quarters side knit g p s o
    → record { progress = progress; pyramid = p'; serials = s'; order = o' } ≡ held_after_load side knit g p s o
unfolding held_after_load
loaded_held side knit g p s o e = rw (← e)

-- ---- the loop: after i calls the caller holds `held`, who held `first`
pub record Called (first : Held) (calls : List AdvanceCall) (held : Held) (i : ℕ) : Type 0 where
  pub is : held ≡ held_after_calls first (calls_in (take i calls))

module _ (first : Held) (calls : List AdvanceCall) where
  pub begins : Called first calls first 0
  unfolding held_after_calls
  begins = record { is = refl }

  pub goes_on : {held : Held} {i : ℕ} → Called first calls held i → i < length calls → (d : AdvanceCall) {held' : Held}
      → held' ≡ held_after (call_of held (call_in (get_or calls i d))) → Called first calls held' (i + 1)
  goes_on {i = i} h lt d q =
      record {
        is =
            q
            ∙ rw (h.is, add-one i, take-suc calls i d lt, map-append call_in (take i calls) (get_or calls i d ∷ []))
            (sym (held_more first (calls_in (take i calls)) (call_in (get_or calls i d))));
      }

  pub all_called : {held : Held} {i : ℕ} → Called first calls held i → length calls ≤ i
      → held ≡ held_after_calls first (calls_in calls)
  all_called {i = i} h le = h.is ∙ ap (λ l. held_after_calls first (calls_in l)) (take_all i calls le)

-- ---- Load, then the calls
pub promised : (side knit : ℕ) (g : List ℕ) (p : List ℤ) (s o : List ℕ)
    {progress loaded : Progress} (is : progress ≡ loaded) (said : Said) {p' : List ℤ} {s' o' : List ℕ}
    (calls : List Call) (held : Held)
    → record { progress = loaded; said = said; pyramid = p'; serials = s'; order = o' }
    ≡ load_by_quarters side knit g p s o
    → held ≡ held_after_calls (record { progress = progress; pyramid = p'; serials = s'; order = o' }) calls
    → Kept side knit g p s o calls held
promised side knit g p s o is said calls held e q =
    kept side knit g p s o calls held
    (q ∙ ap (λ (f : Held). held_after_calls f calls) (rw is (loaded_held side knit g p s o e)))

-- ---- what `run_calls` promises, by its fields
-- the price list, of the very list of calls that was made (S 15.3, S 15.4, S 15.5, S 15.6, S 15.7)
pub price_list_of_code : {side knit : ℕ} {g : List ℕ} {p : List ℤ} {s o : List ℕ} {calls : List Call} {held : Held}
    → Kept side knit g p s o calls held → Accepted side knit g p s o → PriceList side knit g p s o calls
price_list_of_code k accepted = rw k.held_is at (k.holds accepted)
