-- The theorem on the call's own answer (`sketch_holds`): where it returns a side and two totals, the text was that of a
-- sketch, its lows, highs and caps are what the buffers begin with, and totals and caps keep their promise.
use Rattle.std.specs.Prelude.{◌≡◌, refl, List, [], ◌∷◌, ◌++◌, ℕ, ◌*◌, ◌/◌, ◌%◌, ◌^◌, ◌<◌, length, get_or, take, drop}
use Rattle.std.proofs.Common.{ap, ◌∙◌, arith, take_at}
use Rattle.std.proofs.Math.ListN.{get_or-append}
use Rattle.definition.specs.Answers.{returned}
use Rattle.definition.specs.Pyramid.{cell_count}
use Rattle.definition.specs.Blocks.{block_side, grey_sum, grey_total, total_of}
use Rattle.definition.specs.Refusals.{power_of}
use Rattle.definition.specs.QuotePage.{quote_cap}
use Rattle.definition.specs.SketchQuote.{caps_of, SketchOutcome, sketch_quote_of}
use Rattle.integers.specs.Lists.{length_tabulate}
use Rattle.refusals.specs.Powers.{cell_count_side}
use Rattle.grammar.specs.Sketch.{Quotable, QuotedSketch}
use Rattle.grammar.proofs.Sketch.{sketch_outcome, sketch_returned_iff}
use Rattle.sketch_range.specs.Promise.{Same, Ranged}
use Rattle.sketch_range.proofs.Range.{ranged, ranged_same}

-- of a call with these buffers that returned these figures, and left `out`
pub record SketchHolds (text : List ℕ) (k : ℕ) (lows₀ highs₀ caps₀ : List ℕ) (side least greatest : ℕ)
    (out : SketchOutcome) : Type 0 where
  pub lows : List ℕ
  pub highs : List ℕ
  pub quotable : Quotable text k (length lows₀) (length highs₀) (length caps₀) side lows highs
  -- the totals
  pub least_is : least ≡ total_of (grey_total (power_of side) lows)
  pub greatest_is : greatest ≡ total_of (grey_total (power_of side) highs)
  -- the buffers: the lows, the highs and the caps, and behind them what there was
  pub lows_are : out.lows ≡ lows ++ drop (side * side) lows₀
  pub highs_are : out.highs ≡ highs ++ drop (side * side) highs₀
  pub caps_are : out.caps ≡ caps_of (power_of side) highs k ++ drop (2 ^ k * 2 ^ k) caps₀
  pub lows_front : take (side * side) out.lows ≡ lows
  pub highs_front : take (side * side) out.highs ≡ highs
  -- the promise
  pub ranges : Ranged side k lows highs least greatest (caps_of (power_of side) highs k)

pub length_caps : (r : ℕ) (highs : List ℕ) (k : ℕ) → length (caps_of r highs k) ≡ 2 ^ k * 2 ^ k
unfolding caps_of
length_caps r highs k =
    length_tabulate 0 (2 ^ k * 2 ^ k) (λ i. quote_cap (block_side r k) (grey_sum r highs k (i / 2 ^ k) (i % 2 ^ k)))

module _ (text : List ℕ) (k : ℕ) (lows₀ highs₀ caps₀ : List ℕ) (side : ℕ) where
  quotable_holds : (lows highs : List ℕ)
      → Quotable text k (length lows₀) (length highs₀) (length caps₀) side lows highs
      → SketchHolds text k lows₀ highs₀ caps₀ side (total_of (grey_total (power_of side) lows))
      (total_of (grey_total (power_of side) highs)) (sketch_quote_of text k lows₀ highs₀ caps₀)
  quotable_holds lows highs q =
      let s = q.sketch in
      let cells = cell_count_side side s.one_of_eight in
      let promise = ranged side k lows highs q.level (λ i h. s.rise i (omega arith)) in
      rw (sketch_outcome text k lows₀ highs₀ caps₀ side lows highs q)
      (record {
        lows = lows;
        highs = highs;
        quotable = q;
        least_is = refl;
        greatest_is = refl;
        lows_are = refl;
        highs_are = refl;
        caps_are = refl;
        lows_front = take_at lows (drop (side * side) lows₀) (side * side) s.low_count;
        highs_front = take_at highs (drop (side * side) highs₀) (side * side) s.high_count;
        ranges = promise;
      })

  -- what the call has answered and left holds of every map between (S 9.4, S 15.11)
  pub sketch_holds : (least greatest : ℕ)
      → (sketch_quote_of text k lows₀ highs₀ caps₀).said ≡ returned (side ∷ least ∷ greatest ∷ [])
      → SketchHolds text k lows₀ highs₀ caps₀ side least greatest (sketch_quote_of text k lows₀ highs₀ caps₀)
  sketch_holds least greatest e = quoted ((sketch_returned_iff text k lows₀ highs₀ caps₀ side least greatest).0 e)
    where
      quoted : QuotedSketch text k (length lows₀) (length highs₀) (length caps₀) side least greatest
          → SketchHolds text k lows₀ highs₀ caps₀ side least greatest (sketch_quote_of text k lows₀ highs₀ caps₀)
      quoted q = rw (q.least_is, q.greatest_is) (quotable_holds q.lows q.highs q.quotable)

-- in the cells, and at the places of the caps, the buffers are the sketch's
module _ {text : List ℕ} {k : ℕ} {lows₀ highs₀ caps₀ : List ℕ} {side least greatest : ℕ} {out : SketchOutcome}
    (h : SketchHolds text k lows₀ highs₀ caps₀ side least greatest out) where
  abbrev cells : cell_count (power_of side) ≡ side * side
  cells = cell_count_side side h.quotable.sketch.one_of_eight

  pub same_lows : Same (power_of side) out.lows h.lows
  same_lows i u =
      ap (λ (l : List ℕ). get_or l i 0) h.lows_are
      ∙ get_or-append h.lows (drop (side * side) lows₀) 0 i (omega (arith, cells, h.quotable.sketch.low_count))

  pub same_highs : Same (power_of side) out.highs h.highs
  same_highs i u =
      ap (λ (l : List ℕ). get_or l i 0) h.highs_are
      ∙ get_or-append h.highs (drop (side * side) highs₀) 0 i
      (omega (arith, cells, h.quotable.sketch.high_count))

  pub same_caps : (i : ℕ) → i < 2 ^ k * 2 ^ k → get_or out.caps i 0 ≡ get_or (caps_of (power_of side) h.highs k) i 0
  same_caps i u =
      ap (λ (l : List ℕ). get_or l i 0) h.caps_are
      ∙ get_or-append (caps_of (power_of side) h.highs k) (drop (2 ^ k * 2 ^ k) caps₀) 0 i
      (omega (arith, length_caps (power_of side) h.highs k))

  -- so the promise holds of the buffers as they are left
  pub ranges_left : Ranged side k out.lows out.highs least greatest out.caps
  ranges_left =
      ranged_same side k h.lows h.highs least greatest (caps_of (power_of side) h.highs k) h.ranges
      out.lows out.highs out.caps same_lows same_highs same_caps
