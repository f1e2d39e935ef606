-- Relay's check (`relay_sound`, `relay_unsound`), and its two ways out: refused, with nothing changed (`refused_is`),
-- and the second pyramid written (`relaid_is`).
use Rattle.std.specs.Prelude.{◌≡◌, refl, Bool, true, false, cond, not, ◌||◌, List, ◌++◌, ltb, eqb, length, drop, ℤ}
use Rattle.std.specs.Prelude.{Result, Ok, Err}
use Rattle.std.proofs.Common.{sym, ◌∙◌, arith, lt-ltb, le-ltb}
use Prim.Native.Nat.{ℕ, suc, ◌-◌, ◌<◌, min}
use Rattle.std.proofs.Math.Decide.{dec_lt}
use Rattle.definition.specs.Answers.{done_says, number_of}
use Rattle.definition.specs.Pyramid.{needed, cell_count}
use Rattle.definition.specs.Refusals.{power_of, lowest}
use Rattle.definition.specs.Sound.{is_sound}
use Rattle.definition.specs.Advance.{sheet_in, advance_refusal}
use Rattle.definition.specs.Quarters.{quarters_from}
use Rattle.definition.specs.ByQuarters.{relay_refusal, relay_of}
use Rattle.definition.specs.declared.Progress.{Progress}
use Rattle.definition.specs.declared.Refusal.{Refusal}
use Rattle.definition.specs.declared.Refusal.TheVariants.{SheetUnsound}
use Rattle.refusals.specs.Powers.{power_small}
use Rattle.refusals.specs.Numbers.{number_positive}
use Rattle.checks.specs.Checks.{checked, passed_none, failed_number}
use Rattle.sheet.specs.Sheets.{SheetLent, sheet_lent, shown_rows, lengths_failed, lengths_passed, is_sound_lem}
use Rattle.sheet.specs.Sheets.{is_unsound}
use Rattle.relay.specs.Laying.{LevelsAsked}

-- one of two lengths is too short just if the shorter one is
either_short : (p q n : ℕ) → ltb (min p q) n ≡ (ltb p n || ltb q n)
either_short p q n = go (dec_lt p n) (dec_lt q n)
  where
    go : Dec (p < n) → Dec (q < n) → ltb (min p q) n ≡ (ltb p n || ltb q n)
    go (yes a) b = rw (lt-ltb (min p q) n (omega arith), lt-ltb p n a)
    go (no a) (yes b) =
        rw (lt-ltb (min p q) n (omega arith), lt-ltb q n b, le-ltb p n (omega arith))
    go (no a) (no b) =
        rw (le-ltb (min p q) n (omega arith), le-ltb p n (omega arith), le-ltb q n (omega arith))

-- so the rows of Relay are those of Advance for the shorter pyramid
pub relay_rows : (r knit p q s o : ℕ) (sound : Bool)
    → relay_refusal r knit p q s o sound ≡ advance_refusal r knit (min p q) s o sound
unfolding relay_refusal advance_refusal lowest
relay_rows r knit p q s o sound =
    rw (either_short p q (needed r)) (go (ltb p (needed r)) (ltb q (needed r)))
  where
    rest : ℕ
    rest = cond (ltb s (cell_count r)) 4 (cond (ltb o (cell_count r)) 4 (cond (not sound) 5 0))

    go : (b c : Bool)
        → cond (eqb r 0) 1 (cond (ltb 1 knit) 11 (cond b 3 (cond c 3 rest)))
        ≡ cond (eqb r 0) 1 (cond (ltb 1 knit) 11 (cond (b || c) 3 rest))
    go true c = refl
    go false true = refl
    go false false = refl

-- ---- the check; `lent` is the shorter length
module _ (r knit dots : ℕ) (p : List ℤ) (s o : List ℕ) (second : ℕ) {lent : ℕ}
    (el : lent ≡ min (length p) second) where
  abbrev sound : Bool
  sound = is_sound r (sheet_in r dots p s o)

  abbrev refusal : ℕ
  refusal = relay_refusal r knit (length p) second (length s) (length o) (is_sound r (sheet_in r dots p s o))

  abbrev first : ℕ
  first = advance_refusal r knit lent (length s) (length o) true

  as_shorter : advance_refusal r knit lent (length s) (length o) sound ≡ refusal
  as_shorter = rw el (sym (relay_rows r knit (length p) second (length s) (length o) sound))

  pub relay_failed : (why : Refusal) → checked (Err why) ≡ first → checked (Err why) ≡ refusal
  relay_failed why e = lengths_failed r knit lent (length s) (length o) sound why e ∙ as_shorter

  module _ (e : checked (Ok tt) ≡ first) where
    pub relay_lent : SheetLent r (length p) (length s) (length o)
    relay_lent =
        let h = lengths_passed r knit lent (length s) (length o) e in
        record {
          power = h.power;
          pyramid_long = omega (arith, el, h.pyramid_long);
          serials_long = h.serials_long;
          order_long = h.order_long;
        }

    module _ {b : Bool} (eb : b ≡ is_sound r (sheet_in r dots (shown_rows true r p) s o)) where
      pub relay_sound : b ≡ true → checked (Ok tt) ≡ refusal
      unfolding shown_rows
      relay_sound yes' = is_sound_lem r knit lent (length s) (length o) e sound eb yes' ∙ as_shorter

      pub relay_unsound : b ≡ false → checked (Err SheetUnsound) ≡ refusal
      unfolding shown_rows
      relay_unsound no' = is_unsound r knit lent (length s) (length o) e sound eb no' ∙ as_shorter

-- ---- the call
module _ (progress : Progress) (p : List ℤ) (s o : List ℕ) (second : List ℤ)
    {r : ℕ} (er : r ≡ power_of progress.side) where
  abbrev lent_refusal : ℕ
  lent_refusal =
      relay_refusal r progress.knit (length p) (length second) (length s) (length o)
      (is_sound r (sheet_in r progress.dots p s o))

  abbrev refusal_of : ℕ
  refusal_of =
      let k = power_of progress.side in
      relay_refusal k progress.knit (length p) (length second) (length s) (length o)
      (is_sound k (sheet_in k progress.dots p s o))

  pub refused_is : (why : Refusal) {a : Result (Unit {0}) Refusal} → checked (Err why) ≡ lent_refusal → a ≡ Err why
      → record { said = done_says a; second = second } ≡ relay_of progress p s o second
  unfolding relay_of done_says
  refused_is why e ea =
      let n : refusal_of ≡ suc (number_of why - 1) = rw (← er) (failed_number why e) in
      rw (ea, n, relay_of, ← number_positive why)

  module _ (e : checked (Ok tt) ≡ lent_refusal) where
    pub relay_asked : LevelsAsked (length second) (length p) r
    relay_asked =
        let none = passed_none e in
        let rows = relay_rows r progress.knit (length p) (length second) (length s) (length o) _ in
        let lent = (sheet_lent r progress.knit (min (length p) (length second)) (length s) (length o) _
        (sym rows ∙ none)).0 in
        record {
          small = power_small progress.side er;
          second_long = omega (arith, lent.pyramid_long);
          pyramid_long = omega (arith, lent.pyramid_long);
        }

    pub relaid_is : {second' : List ℤ} → second' ≡ quarters_from r p ++ drop (needed r) second
        → record { said = done_says {A = Unit {0}} (Ok tt); second = second' } ≡ relay_of progress p s o second
    unfolding relay_of done_says
    relaid_is q =
        let z : refusal_of ≡ 0 = rw (← er) (passed_none e) in
        rw (q, er, z, relay_of)
