-- What is promised of a sketch's quote, clause by clause, with its own figures, in what the caller has in hand: the
-- answer and the three buffers that the call left. Each clause is taken from a field of `sketch_holds`, so none of them
-- can go, or say less, unnoticed. The last law, `every_map_accepted`, says who may ask: nobody is left out.
use Rattle.std.specs.Prelude.{◌≡◌, List, [], ◌∷◌, length, get_or, take, ℤ, pos, ◌<ℤ◌}
use Rattle.std.proofs.Common.{sym, subst, ◌∙◌, arith}
use Rattle.std.proofs.Math.Path.{ap}
use Prim.Native.Nat.{ℕ, suc, ◌+◌, ◌*◌, ◌-◌, ◌/◌, ◌^◌, ◌≤◌, ◌<◌, min}
use Rattle.definition.specs.Answers.{returned}
use Rattle.definition.specs.Blocks.{grey_sum, grey_total, dots_in}
use Rattle.definition.specs.Model.{top_of}
use Rattle.definition.specs.Refusals.{power_of}
use Rattle.definition.specs.QuotePage.{quote_cap}
use Rattle.definition.specs.SketchQuote.{sketch_text, sketch_quote_of}
use Rattle.definition.specs.AdvanceList.{Call, Held, held_after_load, held_after_calls}
use Rattle.refusals.specs.Powers.{power_of_small, side_pow, cell_count_side}
use Rattle.quadtree.specs.Levels.{cell_lt}
use Rattle.guarantee.specs.PriceList.{Accepted}
use Rattle.sketch_range.specs.Promise.{Between, Ranged}
use Rattle.sketch_range.proofs.Range.{total_same, sum_same, caps_at, everyone_between}
use Rattle.sketch_range.proofs.Holds.{SketchHolds, sketch_holds, same_lows, same_highs, same_caps, ranges_left}

module _ (text : List ℕ) (k : ℕ) (lows₀ highs₀ caps₀ : List ℕ) (side least greatest : ℕ)
    (said : (sketch_quote_of text k lows₀ highs₀ caps₀).said ≡ returned (side ∷ least ∷ greatest ∷ [])) where
  -- the power, and what the buffers have after the call
  abbrev r : ℕ
  r = power_of side

  abbrev lows : List ℕ
  lows = (sketch_quote_of text k lows₀ highs₀ caps₀).lows

  abbrev highs : List ℕ
  highs = (sketch_quote_of text k lows₀ highs₀ caps₀).highs

  abbrev caps : List ℕ
  caps = (sketch_quote_of text k lows₀ highs₀ caps₀).caps

  -- the cells along a square of level k
  abbrev s : ℕ
  s = 2 ^ r / 2 ^ k

  holds : SketchHolds text k lows₀ highs₀ caps₀ side least greatest (sketch_quote_of text k lows₀ highs₀ caps₀)
  holds = sketch_holds text k lows₀ highs₀ caps₀ side least greatest said

  promise : Ranged side k lows highs least greatest caps
  promise = ranges_left holds

  -- the text was that of the sketch which the buffers begin with
  pub text_of_sketch : text ≡ sketch_text side (take (side * side) lows) (take (side * side) highs)
  text_of_sketch = rw (holds.lows_front, holds.highs_front) holds.quotable.sketch.bytes

  -- ---- the figures (S 9.4)
  pub least_total : least ≡ (2 * grey_total r lows + 255) / 510
  least_total =
      holds.least_is ∙ ap (λ (G : ℕ). (2 * G + 255) / 510) (sym (total_same r lows holds.lows (same_lows holds)))

  pub greatest_total : greatest ≡ (2 * grey_total r highs + 255) / 510
  greatest_total =
      holds.greatest_is
      ∙ ap (λ (G : ℕ). (2 * G + 255) / 510) (sym (total_same r highs holds.highs (same_highs holds)))

  -- the caps are those of the highs (S 8.3, S 9.4)
  pub cap_of_square : (a b : ℕ) → a < 2 ^ k → b < 2 ^ k
      → get_or caps (a * 2 ^ k + b) 0 ≡ min (s * s) ((3 * grey_sum r highs k a b + 764 + 1020 * s) / 765)
  unfolding quote_cap
  cap_of_square a b row column =
      same_caps holds (a * 2 ^ k + b) (cell_lt (2 ^ k) a b row column)
      ∙ caps_at r holds.highs k a b row column
      ∙ ap (λ (g : ℕ). min (s * s) ((3 * g + 764 + 1020 * s) / 765))
      (sym (sum_same r highs holds.highs (same_highs holds) k a b holds.quotable.level row column))

  -- ---- the low map and the high map are maps between low and high
  pub low_map_between : Between r lows lows highs
  low_map_between = promise.low_between

  pub high_map_between : Between r lows highs highs
  high_map_between = promise.high_between

  -- ---- a map that Load has accepted, and any Advance calls on it
  module _ (knit : ℕ) (greys : List ℕ) (pyramid : List ℤ) (serials order : List ℕ)
      (accepted : Accepted side knit greys pyramid serials order) (calls : List Call) where
    abbrev held : Held
    held = held_after_calls (held_after_load side knit greys pyramid serials order) calls

    abbrev dots : ℕ
    dots = held.progress.dots

    -- the low map and the high map come to the two ends, the buffers themselves or others that begin so (S 15.11)
    pub low_map_least : ((i : ℕ) → i < 2 ^ r * 2 ^ r → get_or greys i 0 ≡ get_or lows i 0)
        → top_of held.pyramid <ℤ pos 32640 → dots ≡ least
    low_map_least same finished = promise.low_end knit greys same pyramid serials order accepted calls finished

    pub high_map_greatest : ((i : ℕ) → i < 2 ^ r * 2 ^ r → get_or greys i 0 ≡ get_or highs i 0)
        → top_of held.pyramid <ℤ pos 32640 → dots ≡ greatest
    high_map_greatest same finished = promise.high_end knit greys same pyramid serials order accepted calls finished

    -- a map between low and high
    module _ (above : (i : ℕ) → i < 2 ^ r * 2 ^ r → get_or lows i 0 ≤ get_or greys i 0)
        (below : (i : ℕ) → i < 2 ^ r * 2 ^ r → get_or greys i 0 ≤ get_or highs i 0) where
      between : Between r lows greys highs
      between = record { above = above; below = below }

      -- a finished map between has from the least to the greatest total of holes (S 15.11)
      pub total_in_range : top_of held.pyramid <ℤ pos 32640 → (least ≤ dots) × (dots ≤ greatest)
      total_in_range finished = promise.range knit greys between pyramid serials order accepted calls finished

      -- and no square ever has more than its cap (S 15.11)
      pub square_under_cap : (a b : ℕ) → a < 2 ^ k → b < 2 ^ k
          → dots_in r held.serials k a b ≤ get_or caps (a * 2 ^ k + b) 0
      square_under_cap a b row column =
          omega (arith, promise.capped knit greys between pyramid serials order accepted calls a b row column)

  -- ---- who may ask: Load accepts every map of bytes between low and high, with either knit, in long enough buffers
  pub every_map_accepted : (knit : ℕ) → knit ≤ 1 → (greys : List ℕ) (pyramid : List ℤ) (serials order : List ℕ)
      → 2 ^ r * 2 ^ r ≤ length greys → (4 ^ suc r - 1) / 3 ≤ length pyramid
      → 2 ^ r * 2 ^ r ≤ length serials → 2 ^ r * 2 ^ r ≤ length order
      → ((i : ℕ) → i < length greys → get_or greys i 0 ≤ 255)
      → ((i : ℕ) → i < 2 ^ r * 2 ^ r → get_or lows i 0 ≤ get_or greys i 0)
      → ((i : ℕ) → i < 2 ^ r * 2 ^ r → get_or greys i 0 ≤ get_or highs i 0)
      → Accepted side knit greys pyramid serials order
  every_map_accepted knit known greys pyramid serials order g p u o bytes above below =
      let sketch = holds.quotable.sketch in
      let cells = cell_count_side side sketch.one_of_eight in
      let low : (i : ℕ) → i < 2 ^ r * 2 ^ r → get_or highs i 0 ≤ 240
      = λ i h. omega (arith, same_highs holds i h, sketch.most i (omega arith)) in
      subst (λ (n : ℕ). Accepted n knit greys pyramid serials order) (sym (side_pow side sketch.one_of_eight))
      (everyone_between r knit sketch.one_of_eight (power_of_small side) known lows greys highs
      (record { above = above; below = below }) low bytes pyramid serials order g p u o)
