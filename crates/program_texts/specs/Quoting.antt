-- The quote page of the finished sheet: Quote Page refuses only a level that the map hasn't, and else prints the page
-- (`quote_answered`).
use Rattle.std.specs.Prelude.{◌≡◌, List, ◌++◌, ℕ, ◌^◌, ◌≤◌, ◌<◌, length, get_or, drop, ℤ, Result}
use Rattle.std.proofs.Common.{sym, ap, ◌∙◌, mul-le-mul, arith, Fits, pow_mono, length-append}
use Rattle.std.proofs.Math.Decide.{dec_lt}
use borrow.Author.Tests.{ne_eqb, lt-ltb, le-ltb}
use Rattle.std.specs.Int.{w8}
use Rattle.definition.specs.Answers.{value_says}
use Rattle.definition.specs.Pyramid.{cell_count}
use Rattle.definition.specs.Diffusion.{plain}
use Rattle.definition.specs.Model.{Halftone}
use Rattle.definition.specs.Refusals.{power_of, lowest}
use Rattle.definition.specs.AdvanceList.{Held}
use Rattle.definition.specs.Text.{TextOutcome, text_into}
use Rattle.definition.specs.QuotePage.{quote_text, quote_page_refusal, quote_page_of}
use Rattle.definition.specs.Plate.{refused_text, finished_of}
use Rattle.definition.specs.Quote.{quote_of_map}
use Rattle.definition.specs.declared.Progress.{Progress}
use Rattle.definition.specs.declared.Refusal.{Refusal}
use Rattle.refusals.specs.Powers.{power_of_small}
use Rattle.dots.proofs.Steps.{Sheet}
use Rattle.quote_page.specs.Page.{page_length_lem}
use Rattle.program_texts.specs.Finished.{finished_in, MapAsked, finished_sheet}
use Rattle.program_texts.specs.Promised.{Answered, answered_as, text_answered, refusal_answered}
use Rattle.program_texts.specs.Fronts.{page_serials}

module _ (side : ℕ) (greys : List ℕ) {a b c : ℕ} (asked : MapAsked side greys a b c)
    (bytes : (i : ℕ) → Fits w8 (get_or greys i 0)) (s : List ℕ) (level : ℕ) (out : List ℕ)
    (room : 29696 ≤ length out) where
  abbrev r : ℕ
  r = power_of side

  abbrev sheet : Halftone
  sheet = finished_of plain r greys

  last : Sheet r sheet
  last = finished_sheet r (pow_mono {i = 1} {j = r} asked.lent.power) greys asked.start

  -- the serials in their buffer, and the page that is made of them
  abbrev serials : List ℕ
  serials = sheet.serials ++ s

  abbrev page : List ℕ
  page = quote_text r greys serials level

  serials_long : cell_count r ≤ length serials
  serials_long = omega (arith, length-append sheet.serials s, last.sized.serials)

  page_room : level ≤ r → length page ≤ length out
  page_room h =
      let few : 2 ^ level ≤ 2 ^ r = pow_mono {i = level} {j = r} h in
      omega (
        arith,
        page_length_lem greys serials (power_of_small side) h (λ i. omega (arith, bytes i)),
        mul-le-mul few few,
        asked.few,
      )

  abbrev refusal : ℕ
  refusal = quote_page_refusal r (length greys) (length serials) level (length page) (length out)

  level_refused : r < level → refusal ≡ 6
  unfolding quote_page_refusal lowest
  level_refused h =
      rw (
        ne_eqb r 0 (λ e. omega (arith, asked.lent.power)),
        le-ltb (length greys) (cell_count r) asked.lent.greys_long,
        le-ltb (length serials) (cell_count r) serials_long,
        lt-ltb r level h,
      )

  not_refused : level ≤ r → refusal ≡ 0
  unfolding quote_page_refusal lowest
  not_refused h =
      rw (
        ne_eqb r 0 (λ e. omega (arith, asked.lent.power)),
        le-ltb (length greys) (cell_count r) asked.lent.greys_long,
        le-ltb (length serials) (cell_count r) serials_long,
        le-ltb r level h,
        le-ltb (length out) (length page) (page_room h),
      )

  abbrev outcome : TextOutcome
  outcome = quote_page_of side greys serials level out

  outcome_is : {n : ℕ} → refusal ≡ n → outcome ≡ text_into n page out
  unfolding quote_page_of
  outcome_is e = rw e

  quoted_refused : r < level → quote_of_map level side greys ≡ refused_text 6
  unfolding quote_of_map
  quoted_refused h = rw (lt-ltb r level h, quote_of_map)

  quoted_page : level ≤ r → quote_of_map level side greys ≡ page
  unfolding quote_of_map
  quoted_page h =
      rw (le-ltb r level h, quote_of_map) (sym (page_serials r sheet.serials s last.sized.serials level h greys))

  -- ---- an answer that keeps the call's promise
  page_answered : (answer : Result ℕ Refusal) {after : List ℕ}
      → record { said = value_says answer; output = after } ≡ outcome
      → Answered (quote_of_map level side greys) out answer after
  page_answered answer {after} promise = go (dec_lt r level)
    where
      go : Dec (r < level) → Answered (quote_of_map level side greys) out answer after
      go (yes h) = refusal_answered page out after 5 answer (promise ∙ outcome_is (level_refused h)) (quoted_refused h)
      go (no h) =
          let within : level ≤ r = omega arith in
          answered_as out after answer (quoted_page within)
          (text_answered page out after answer (promise ∙ outcome_is (not_refused within)) (page_room within))

-- ---- Quote Page on the buffers that hold the finished sheet
module _ (side : ℕ) (greys : List ℕ) {a b c : ℕ} (asked : MapAsked side greys a b c)
    (bytes : (i : ℕ) → Fits w8 (get_or greys i 0)) (p : List ℤ) (s o : List ℕ) (level : ℕ) (out : List ℕ)
    (room : 29696 ≤ length out) {progress : Progress} {p₁ : List ℤ} {s₁ o₁ : List ℕ}
    (e : record { progress = progress; pyramid = p₁; serials = s₁; order = o₁ }
    ≡ finished_in (power_of side) greys p s o)
    (answer : Result ℕ Refusal) {after : List ℕ}
    (promise : record { said = value_says answer; output = after } ≡ quote_page_of side greys s₁ level out) where
  abbrev behind : List ℕ
  behind = drop (cell_count (power_of side)) s

  kept : record { said = value_says answer; output = after }
      ≡ quote_page_of side greys ((finished_of plain (power_of side) greys).serials ++ behind) level out
  kept = promise ∙ ap (λ (held : Held). quote_page_of side greys held.serials level out) e

  pub quote_answered : Answered (quote_of_map level side greys) out answer after
  quote_answered = page_answered side greys asked bytes behind level out room answer kept
