-- The checks of a sheet: its lengths (`lengths_first`), then whether it is sound (`then_sound`, `quarters_sound`).
use Rattle.std.proofs.Math.Path.{◌≡◌, refl, sym, ap}
use Rattle.std.proofs.Common.{◌∙◌, arith, length-take-le}
use Rattle.std.specs.Prelude.{Bool, not, List, ltb, eqb, length, ℤ, Result, Ok, Err}
use Rattle.std.proofs.Math.Bool.{true, false, cond}
use Prim.Native.Nat.{ℕ, suc, ◌-◌, ◌≤◌, ◌<◌}
use Rattle.std.proofs.Math.ListN.{take}
use borrow.Author.Tests.{ltb-false, le-ltb, eqb-false, ne_eqb, not-false}
use Rattle.definition.specs.Answers.{number_of}
use Rattle.definition.specs.Pyramid.{needed, cell_count}
use Rattle.definition.specs.Refusals.{lowest}
use Rattle.definition.specs.Sound.{is_sound}
use Rattle.definition.specs.Advance.{sheet_in, advance_refusal}
use Rattle.definition.specs.Quarters.{rows_from, as_rows}
use Rattle.definition.specs.declared.Refusal.{Refusal}
use Rattle.definition.specs.declared.Refusal.TheVariants.{SheetUnsound}
use Rattle.refusals.specs.Lowest.{lowest_none}
use Rattle.refusals.specs.Numbers.{number_positive}
use Rattle.checks.specs.Checks.{checked, passed_none, failed_number}
use Rattle.layouts.specs.Lent.{rows_taken, rows_take}
use Rattle.sound.specs.OnePlace.{SoundAsked, in_rows}

-- a sheet that is long enough
pub record SheetLent (r pyramid serials order : ℕ) : Type 0 where
  pub power : 0 < r
  pub pyramid_long : needed r ≤ pyramid
  pub serials_long : cell_count r ≤ serials
  pub order_long : cell_count r ≤ order

module _ (r knit p s o : ℕ) where
  pub sheet_lent : (sound : Bool) → advance_refusal r knit p s o sound ≡ 0
      → SheetLent r p s o × (knit ≤ 1) × (sound ≡ true)
  unfolding advance_refusal
  sheet_lent sound e =
      let r₁ = lowest_none 1 (eqb r 0) _ (omega arith) e in
      let r₀ = lowest_none 11 (ltb 1 knit) _ (omega arith) r₁.1 in
      let r₂ = lowest_none 3 (ltb p (needed r)) _ (omega arith) r₀.1 in
      let r₃ = lowest_none 4 (ltb s (cell_count r)) _ (omega arith) r₂.1 in
      let r₄ = lowest_none 4 (ltb o (cell_count r)) _ (omega arith) r₃.1 in
      let r₅ = lowest_none 5 (not sound) _ (omega arith) r₄.1 in (
        record {
          power = omega (arith, eqb-false r 0 r₁.0);
          pyramid_long = ltb-false _ _ r₂.0;
          serials_long = ltb-false _ _ r₃.0;
          order_long = ltb-false _ _ r₄.0;
        },
        ltb-false _ _ r₀.0,
        not-false sound r₅.0,
      )

  -- where the lengths are refused, soundness does not matter; where they are not, it alone does
  pub lengths_first : (n : ℕ) → advance_refusal r knit p s o true ≡ suc n → (sound : Bool)
      → advance_refusal r knit p s o sound ≡ suc n
  unfolding advance_refusal lowest
  lengths_first n e sound =
      go (eqb r 0) (ltb 1 knit) (ltb p (needed r)) (ltb s (cell_count r)) (ltb o (cell_count r)) e
    where
      go : (a z b c d : Bool) → cond a 1 (cond z 11 (cond b 3 (cond c 4 (cond d 4 0)))) ≡ suc n
          → cond a 1 (cond z 11 (cond b 3 (cond c 4 (cond d 4 (cond (not sound) 5 0))))) ≡ suc n
      go true z b c d e = e
      go false true b c d e = e
      go false false true c d e = e
      go false false false true d e = e
      go false false false false true e = e
      go false false false false false e = absurd (omega arith)

  pub then_sound : SheetLent r p s o → knit ≤ 1 → (sound : Bool)
      → advance_refusal r knit p s o sound ≡ cond sound 0 5
  unfolding advance_refusal lowest
  then_sound h known sound =
      rw (
        ne_eqb r 0 (λ e. omega arith),
        le-ltb 1 knit known,
        le-ltb p (needed r) h.pyramid_long,
        le-ltb s (cell_count r) h.serials_long,
        le-ltb o (cell_count r) h.order_long,
      )
      (go sound)
    where
      go : (b : Bool) → ◌≡◌ {A = ℕ} (cond (not b) 5 0) (cond b 0 5)
      go true = refl
      go false = refl

-- a sheet that is not refused, its pyramid p by quarters
pub record SheetAsked (r dots : ℕ) (p : List ℤ) (s o : List ℕ) : Type 0 where
  pub small : r ≤ 8
  pub lent : SheetLent r (length p) (length s) (length o)
  pub sound : is_sound r (sheet_in r dots (as_rows r p) s o) ≡ true

pub sheet_asked : {r : ℕ} (knit : ℕ) → r ≤ 8 → (dots : ℕ) (p : List ℤ) (s o : List ℕ)
    → checked (Ok tt)
    ≡ advance_refusal r knit (length p) (length s) (length o) (is_sound r (sheet_in r dots (as_rows r p) s o))
    → SheetAsked r dots p s o
sheet_asked {r} knit small dots p s o e =
    let sound = is_sound r (sheet_in r dots (as_rows r p) s o) in
    let q = sheet_lent r knit (length p) (length s) (length o) sound (passed_none e) in
    record { small = small; lent = q.0; sound = q.2 }

-- ---- the test of a sheet; n and c are what the code has worked out for the needed length and the number of cells
-- a pyramid in either layout, written row after row
unfoldable pub shown_rows : Bool → ℕ → List ℤ → List ℤ
shown_rows true r pyramid = pyramid
shown_rows false r pyramid = as_rows r pyramid

module _ {r : ℕ} (small : r ≤ 8) (p : List ℤ) (s o : List ℕ)
    (lent : SheetLent r (length p) (length s) (length o))
    {n c : ℕ} (en : n ≡ needed r) (ec : c ≡ cell_count r) where
  pub pyramid_part : n ≡ length (take n p)
  pyramid_part = sym (length-take-le n p (omega (arith, lent.pyramid_long)))

  pub serials_part : c ≡ length (take c s)
  serials_part = sym (length-take-le c s (omega (arith, lent.serials_long)))

  pub order_part : c ≡ length (take c o)
  order_part = sym (length-take-le c o (omega (arith, lent.order_long)))

  pub sound_asked : SoundAsked r (length (take n p)) (length (take c s)) (length (take c o))
  sound_asked =
      record {
        some = lent.power;
        most = small;
        whole = sym pyramid_part ∙ en;
        cells = sym serials_part ∙ ec;
        places = sym order_part ∙ ec;
      }

  -- the part tested is the needed part of the pyramid, row after row
  part_rows : (rows : Bool) → in_rows rows r (take n p) ≡ take (needed r) (shown_rows rows r p)
  unfolding in_rows shown_rows
  part_rows true = ap (λ (m : ℕ). take m p) en
  part_rows false =
      ap (λ (m : ℕ). rows_from r (take m p)) en ∙ rows_taken r p ∙ sym (rows_take r p lent.pyramid_long)

  pub sound_is : (rows : Bool) (dots : ℕ) {b : Bool}
      → b
      ≡ is_sound r (record { pyramid = in_rows rows r (take n p); serials = take c s; order = take c o; dots = dots })
      → b ≡ is_sound r (sheet_in r dots (shown_rows rows r p) s o)
  unfolding sheet_in
  sound_is rows dots eb = eb ∙ rw (part_rows rows, ec)

-- ---- the code's way: side, knit and lengths are checked first, then whether the sheet is sound
module _ (r knit p s o : ℕ) where
  pub lengths_failed : (sound : Bool) (why : Refusal) → checked (Err why) ≡ advance_refusal r knit p s o true
      → checked (Err why) ≡ advance_refusal r knit p s o sound
  unfolding checked
  lengths_failed sound why e =
      let number = failed_number why e in
      number_positive why ∙ sym (lengths_first r knit p s o (number_of why - 1) number sound)

  module _ (e : checked (Ok tt) ≡ advance_refusal r knit p s o true) where
    lent_and_known : SheetLent r p s o × (knit ≤ 1)
    lent_and_known =
        let q = sheet_lent r knit p s o true (passed_none e) in
        (q.0, q.1)

    pub lengths_passed : SheetLent r p s o
    lengths_passed = lent_and_known.0

    then : (b : Bool) → advance_refusal r knit p s o b ≡ cond b 0 5
    then = then_sound r knit p s o lengths_passed lent_and_known.1

    module _ {b : Bool} (sound : Bool) (eb : b ≡ sound) where
      pub is_sound_lem : b ≡ true → checked (Ok tt) ≡ advance_refusal r knit p s o sound
      unfolding checked
      is_sound_lem yes' = sym (rw (← eb, yes') (then true))

      pub is_unsound : b ≡ false → checked (Err SheetUnsound) ≡ advance_refusal r knit p s o sound
      unfolding checked number_of
      is_unsound no' = sym (rw (← eb, no') (then false))

-- the same of a pyramid p by quarters
module _ (r knit dots : ℕ) (p : List ℤ) (s o : List ℕ)
    (e : checked (Ok tt) ≡ advance_refusal r knit (length p) (length s) (length o) true)
    {b : Bool} (eb : b ≡ is_sound r (sheet_in r dots (shown_rows false r p) s o)) where
  abbrev refusal : ℕ
  refusal = advance_refusal r knit (length p) (length s) (length o) (is_sound r (sheet_in r dots (as_rows r p) s o))

  pub quarters_sound : b ≡ true → checked (Ok tt) ≡ refusal
  unfolding shown_rows
  quarters_sound yes' = is_sound_lem r knit (length p) (length s) (length o) e _ eb yes'

  pub quarters_unsound : b ≡ false → checked (Err SheetUnsound) ≡ refusal
  unfolding shown_rows
  quarters_unsound no' = is_unsound r knit (length p) (length s) (length o) e _ eb no'
