-- What `sketch` prints: the lines of its page, written column by column (`totals_wrote`, `cap_wrote`); and by what
-- Sketch Quote has answered on buffers of 1,024 places, the page (`sketch_page_is`) or the line of the refusal
-- (`sketch_refused`).
use Rattle.std.specs.Prelude.{◌≡◌, List, [], ◌∷◌, ◌++◌, length, get_or, Result, Ok, Err}
use Rattle.std.proofs.Math.Path.{refl, sym, ap}
use Rattle.std.proofs.Common.{◌∙◌, suc-ne-zero, length-take-le, take_at}
use Prim.Native.Nat.{ℕ, zero, suc, ◌+◌, ◌*◌, ◌/◌, ◌%◌, ◌^◌, ◌≤◌, min}
use native.Mathlib.Omega.{arith}
use Rattle.std.proofs.Math.ListN.{take, drop}
use Rattle.definition.specs.Lists.{joined}
use Rattle.definition.specs.Answers.{returned, refused, sketch_says, number_of}
use Rattle.definition.specs.Pyramid.{cell_count}
use Rattle.definition.specs.Blocks.{grey_total, total_of}
use Rattle.definition.specs.Refusals.{power_of}
use Rattle.definition.specs.Text.{newline, space}
use Rattle.definition.specs.MapText.{Reading, accepted, rejected, read_text}
use Rattle.definition.specs.QuotePage.{Figure, aligned_line}
use Rattle.definition.specs.SketchQuote.{
  sketch_ends,
  lows_of,
  highs_of,
  caps_of,
  SketchOutcome,
  sketch_kept,
  sketch_quoted,
  sketch_refusal,
  sketch_quote_of,
}
use Rattle.definition.specs.Plate.{refused_text}
use Rattle.definition.specs.Sketch.{cap_line, sketch_page, sketch_of_text}
use Rattle.definition.specs.declared.Refusal.{Refusal}
use Rattle.definition.specs.declared.SketchAnswer.{SketchAnswer}
use Rattle.refusals.specs.Powers.{power_of_small}
use Rattle.grammar.proofs.Sketch.{sketch_none}
use Rattle.decimals.specs.Writing.{column_text, Wrote, wrote_append, wrote_joined_none, wrote_joined_more}
use Rattle.decimals.specs.Printed.{Printed, wrote_printed}
use Rattle.quote_page.specs.Lines.{then_column, last_column}
use Rattle.sketch_range.proofs.Holds.{length_caps}

-- ---- lines
pub totals_wrote : {l l₁ l₂ : List ℕ} {at b c : ℕ} (least greatest : ℕ)
    → Wrote l at (column_text 5 least space) b l₁ → Wrote l₁ b (column_text 5 greatest newline) c l₂
    → Wrote l at (aligned_line ((5, least) ∷ (5, greatest) ∷ [])) c l₂
totals_wrote least greatest u v = then_column 5 least _ _ u (last_column 5 greatest v)

-- the columns of square i, with `count` squares in a row
abbrev pub cap_columns : ℕ → ℕ → ℕ → List Figure
cap_columns count i cap = (3, i / count) ∷ (3, i % count) ∷ (5, cap) ∷ []

pub cap_wrote : {l l₁ l₂ l₃ : List ℕ} {at b c d : ℕ} (count i cap : ℕ)
    → Wrote l at (column_text 3 (i / count) space) b l₁ → Wrote l₁ b (column_text 3 (i % count) space) c l₂
    → Wrote l₂ c (column_text 5 cap newline) d l₃ → Wrote l at (aligned_line (cap_columns count i cap)) d l₃
cap_wrote count i cap u v w = then_column 3 (i / count) _ _ u (then_column 3 (i % count) _ _ v (last_column 5 cap w))

-- all squares of level k, which are few
pub record SquaresLent (k lent : ℕ) : Type 0 where
  pub level : k ≤ 8
  pub whole : lent ≡ 2 ^ k * 2 ^ k
  pub few : lent ≤ 1024

-- the lines of the first i squares
pub record CapsWritten (before : List ℕ) (from k : ℕ) (caps : List ℕ) (i at : ℕ) (after : List ℕ) : Type 0 where
  pub wrote : Wrote before from (joined i (cap_line k caps)) at after
  pub end : at ≤ from + 74 * i

pub caps_none : (l : List ℕ) (from k : ℕ) (caps : List ℕ) → CapsWritten l from k caps 0 from l
caps_none l from k caps = record { wrote = wrote_joined_none (cap_line k caps); end = omega arith }

pub caps_more : {l l₁ l₂ : List ℕ} {from k : ℕ} (caps : List ℕ) (i : ℕ) {at next count : ℕ}
    → CapsWritten l from k caps i at l₁ → count ≡ 2 ^ k
    → Wrote l₁ at (aligned_line (cap_columns count i (get_or caps i 0))) next l₂ → next ≤ at + 74
    → CapsWritten l from k caps (i + 1) next l₂
unfolding cap_line
caps_more {k = k} caps i w e line most =
    record { wrote = wrote_joined_more (cap_line k caps) i w.wrote (rw e at line); end = omega (arith, w.end) }

pub page_printed : (k least greatest : ℕ) (caps : List ℕ) {out l₁ l₂ : List ℕ} {at n : ℕ} → 75828 ≤ length out
    → SquaresLent k (length caps) → Wrote out 0 (aligned_line ((5, least) ∷ (5, greatest) ∷ [])) at l₁ → at ≤ 52
    → CapsWritten l₁ at k caps (length caps) n l₂ → Printed (sketch_page k least greatest caps) out n l₂
unfolding sketch_page
page_printed k least greatest caps room lent totals short lines =
    let all = wrote_append totals lines.wrote in
    rw (← lent.whole) (wrote_printed (omega (arith, all.place, lines.end, lent.few)) all)

-- ---- the answer of Sketch Quote
module _ (level : ℕ) (text lows highs caps : List ℕ) (l : length lows ≡ 1024) (h : length highs ≡ 1024)
    (c : length caps ≡ 1024) where
  -- the call refuses, and so does the program; or both go on with these pairs
  data Way : Type 0 where
    kept : (n : ℕ) → sketch_quote_of text level lows highs caps ≡ sketch_kept n lows highs caps
        → sketch_of_text level text ≡ refused_text n → Way
    quoted : (side : ℕ) (pairs : List ℕ)
        → sketch_quote_of text level lows highs caps ≡ sketch_quoted side pairs level lows highs caps
        → sketch_of_text level text
        ≡ sketch_page level (total_of (grey_total (power_of side) (lows_of pairs)))
        (total_of (grey_total (power_of side) (highs_of pairs))) (caps_of (power_of side) (highs_of pairs) level)
        → level ≤ power_of side → 2 ^ level * 2 ^ level ≤ 1024 → Way

  way : Way
  unfolding sketch_quote_of sketch_of_text
  way = go (read_text sketch_ends text 1024) refl
    where
      room : min (length lows) (length highs) ≡ 1024
      room = omega arith

      go : (o : Reading) → read_text sketch_ends text 1024 ≡ o → Way
      go (rejected n) q = kept n (rw (room, q, sketch_quote_of)) (rw (q, sketch_of_text))
      go (accepted side pairs) q = then (sketch_refusal (power_of side) pairs level 1024) refl
        where
          then : (n : ℕ) → sketch_refusal (power_of side) pairs level 1024 ≡ n → Way
          then (suc n) e = kept (suc n) (rw (room, q, c, e, sketch_quote_of)) (rw (q, e, sketch_of_text))
          then zero e =
              let p = (sketch_none (power_of side) pairs level 1024).0 e in
              quoted side pairs (rw (room, q, c, e, sketch_quote_of)) (rw (q, e, sketch_of_text)) p.level p.enough

  module _ {low high cap : List ℕ} (a : Result SketchAnswer Refusal)
      (promise : record { said = sketch_says a; lows = low; highs = high; caps = cap }
      ≡ sketch_quote_of text level lows highs caps) where
    said : {o : SketchOutcome} → sketch_quote_of text level lows highs caps ≡ o → sketch_says a ≡ o.said
    said q = ap (λ (o : SketchOutcome). o.said) (promise ∙ q)

  module _ {low high cap : List ℕ} (figures : SketchAnswer)
      (promise : record { said = sketch_says (Ok figures); lows = low; highs = high; caps = cap }
      ≡ sketch_quote_of text level lows highs caps) where
    pub level_small : level ≤ 8
    unfolding sketch_says sketch_kept
    level_small =
        elim way [
          | kept n q p ↦ absurd (suc-ne-zero 0 (cc (said (Ok figures) promise q)))
          | quoted side pairs q p k f ↦ omega (arith, power_of_small side)
        ]

    squares_few : 2 ^ level * 2 ^ level ≤ 1024
    unfolding sketch_says sketch_kept
    squares_few =
        elim way [
          | kept n q p ↦ absurd (suc-ne-zero 0 (cc (said (Ok figures) promise q)))
          | quoted side pairs q p k f ↦ f
        ]

    -- `squares` is what the code has worked out for their number
    pub squares_in : {squares : ℕ} → squares ≡ cell_count level → length cap ≡ 1024 → squares ≤ length cap
    squares_in s long = omega (arith, squares_few)

    pub squares_lent : {squares : ℕ} → squares ≡ cell_count level → length cap ≡ 1024
        → SquaresLent level (length (take squares cap))
    squares_lent {squares} s long =
        let taken = length-take-le squares cap (squares_in s long) in
        record { level = level_small; whole = taken ∙ s; few = omega (arith, taken, squares_few) }

    pub sketch_page_is : {squares : ℕ} → squares ≡ cell_count level
        → sketch_of_text level text ≡ sketch_page level figures.least figures.greatest (take squares cap)
    unfolding sketch_says sketch_kept sketch_quoted
    sketch_page_is {squares} s =
        elim way [
          | kept n q p ↦ absurd (suc-ne-zero 0 (cc (said (Ok figures) promise q)))
          | quoted found pairs q p k f ↦
              let r = power_of found in
              let written = caps_of r (highs_of pairs) level in
              let figures_are : returned (figures.side ∷ figures.least ∷ figures.greatest ∷ [])
              ≡ returned (found ∷ total_of (grey_total r (lows_of pairs)) ∷ total_of (grey_total r (highs_of pairs))
              ∷ [])
              = said (Ok figures) promise q in
              let least_is : figures.least ≡ total_of (grey_total r (lows_of pairs)) = cc in
              let greatest_is : figures.greatest ≡ total_of (grey_total r (highs_of pairs)) = cc in
              let caps_are : cap ≡ written ++ drop (2 ^ level * 2 ^ level) caps
              = ap (λ (o : SketchOutcome). o.caps) (promise ∙ q) in
              let front : take squares cap ≡ written
              = rw caps_are (take_at written (drop (2 ^ level * 2 ^ level) caps) squares
              (length_caps r (highs_of pairs) level ∙ sym s)) in
              rw (least_is, greatest_is, front) p
        ]

  pub sketch_refused : {low high cap : List ℕ} (why : Refusal)
      → record { said = sketch_says (Err why); lows = low; highs = high; caps = cap }
      ≡ sketch_quote_of text level lows highs caps
      → sketch_of_text level text ≡ refused_text (number_of why)
  unfolding sketch_says sketch_kept sketch_quoted
  sketch_refused why promise =
      elim way [
        | kept n q p ↦
            let number : refused (number_of why) ≡ refused n = said (Err why) promise q in
            let n_is : number_of why ≡ n = cc in
            rw n_is p
        | quoted found pairs q p k f ↦ absurd (suc-ne-zero 0 (cc (said (Err why) promise q)))
      ]
