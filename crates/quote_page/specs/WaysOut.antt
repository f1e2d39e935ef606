-- The ways out of Quote Page: refused with nothing changed (`page_refused`), and the page written (`page_written`).
use Rattle.std.specs.Prelude.{◌≡◌, List, ℕ, ◌≤◌, ◌<◌, ltb, eqb, length, get_or, Result, Ok, Err}
use Rattle.std.proofs.Math.Path.{sym}
use Rattle.std.proofs.Common.{◌∙◌, arith, lt-ltb, ltb-false, Fits}
use Rattle.std.proofs.Math.Decide.{dec_lt}
use Rattle.std.proofs.Math.Nat.{zero-add}
use Rattle.std.proofs.lemmas.Bool.{eqb-false}
use Rattle.std.specs.Int.{w8}
use Rattle.definition.specs.Answers.{value_says}
use Rattle.definition.specs.Pyramid.{cell_count}
use Rattle.definition.specs.Refusals.{power_of, lowest}
use Rattle.definition.specs.Text.{text_into}
use Rattle.definition.specs.QuotePage.{quote_text, quote_page_refusal, quote_page_of}
use Rattle.definition.specs.declared.Refusal.{Refusal}
use Rattle.refusals.specs.Powers.{power_small}
use Rattle.refusals.specs.Lowest.{lowest_none}
use Rattle.refusals.specs.Numbers.{number_positive}
use Rattle.checks.specs.Checks.{checked, passed_none, failed_number}
use Rattle.decimals.specs.Writing.{Wrote, sets_front}
use Rattle.quote_page.specs.Page.{PageAsked, page_length, page_length_lem}

-- the page's length counts only for a level that the map has
same_refusal : (r g s k page length output : ℕ) → (k ≤ r → page ≡ length)
    → quote_page_refusal r g s k page output ≡ quote_page_refusal r g s k length output
unfolding quote_page_refusal lowest
same_refusal r g s k page length output e =
    elim (dec_lt r k) [ yes h ↦ rw (lt-ltb r k h) | no h ↦ rw (e (omega arith)) ]

-- what is known where nothing is refused
record Lent (r g s k page output : ℕ) : Type 0 where
  power : 0 < r
  greys_long : cell_count r ≤ g
  serials_long : cell_count r ≤ s
  level : k ≤ r
  room : page ≤ output

none_refused : (r g s k page output : ℕ) → quote_page_refusal r g s k page output ≡ 0 → Lent r g s k page output
unfolding quote_page_refusal
none_refused r g s k page output e =
    let r₁ = lowest_none 1 (eqb r 0) _ (omega arith) e in
    let r₂ = lowest_none 2 (ltb g (cell_count r)) _ (omega arith) r₁.1 in
    let r₃ = lowest_none 4 (ltb s (cell_count r)) _ (omega arith) r₂.1 in
    let r₄ = lowest_none 6 (ltb r k) _ (omega arith) r₃.1 in
    let r₅ = lowest_none 8 (ltb output page) _ (omega arith) r₄.1 in
    record {
      power = omega (arith, eqb-false r 0 r₁.0);
      greys_long = ltb-false _ _ r₂.0;
      serials_long = ltb-false _ _ r₃.0;
      level = ltb-false _ _ r₄.0;
      room = ltb-false _ _ r₅.0;
    }

module _ (side : ℕ) (g : List ℕ) (bytes : (i : ℕ) → Fits w8 (get_or g i 0)) (s : List ℕ) (k : ℕ) (output : List ℕ)
    {r : ℕ} (er : r ≡ power_of side) where
  abbrev page : List ℕ
  page = quote_text r g s k

  abbrev refusal : ℕ
  refusal = quote_page_refusal r (length g) (length s) k (page_length k) (length output)

  -- what the check finds is what the definition says
  outcome_is : {n : ℕ} → refusal ≡ n → quote_page_of side g s k output ≡ text_into n page output
  unfolding quote_page_of
  outcome_is z =
      let same =
      same_refusal r (length g) (length s) k (page_length k) (length page) (length output)
      (λ level. sym (page_length_lem g s (power_small side er) level (λ i. omega (arith, bytes i)))) in
      rw (← er, sym same ∙ z)

  pub page_refused : (why : Refusal) → checked (Err why) ≡ refusal → {a : Result ℕ Refusal} → a ≡ Err why
      → record { said = value_says a; output = output } ≡ quote_page_of side g s k output
  unfolding text_into value_says
  page_refused why e ea = rw ea (sym (outcome_is (failed_number why e) ∙ rw (← number_positive why)))

  module _ (e : checked (Ok tt) ≡ refusal) where
    lent : Lent r (length g) (length s) k (page_length k) (length output)
    lent = none_refused r (length g) (length s) k (page_length k) (length output) (passed_none e)

    pub page_asked : PageAsked g s r k
    page_asked =
        record {
          power = lent.power;
          powers = power_small side er;
          level = lent.level;
          greys_room = lent.greys_long;
          serials_room = lent.serials_long;
          bytes = λ i. omega (arith, bytes i);
        }

    pub page_written : {n : ℕ} {after : List ℕ} → Wrote output 0 page n after
        → record { said = value_says (Ok n); output = after } ≡ quote_page_of side g s k output
    unfolding text_into value_says
    page_written w =
        let long = page_length_lem g s (power_small side er) lent.level (λ i. omega (arith, bytes i)) in
        sym (outcome_is (passed_none e)
        ∙ rw (w.stored, sets_front page output (omega (arith, lent.room, long)), w.place, zero-add (length page)))
