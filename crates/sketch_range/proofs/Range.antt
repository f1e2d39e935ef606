-- The figures of a sketch keep their promise (`ranged`): totals and caps grow with the greys (`total_le`, `cap_le`),
-- and the rest is the price list of the map that lies between. Load accepts every such map (`everyone_between`).
use Rattle.std.specs.Prelude.{◌≡◌, List, ℕ, suc, ◌+◌, ◌*◌, ◌-◌, ◌/◌, ◌%◌, ◌^◌, ◌≤◌, ◌<◌, length, get_or, ℤ}
use Rattle.std.proofs.Common.{ap₂, ◌∙◌}
use native.Mathlib.Omega.{arith}
use Rattle.std.proofs.Math.Pow.{high, low}
use Rattle.definition.specs.Pyramid.{cell_count, cell_number}
use Rattle.definition.specs.Blocks.{block_side, grey_at, grey_sum, grey_total, total_of, dots_in}
use Rattle.definition.specs.Refusals.{power_of}
use Rattle.definition.specs.QuotePage.{quote_cap, figures}
use Rattle.definition.specs.SketchQuote.{caps_of}
use Rattle.definition.specs.AdvanceList.{Call, Held, held_after_load, held_after_calls}
use Rattle.integers.specs.Lists.{get_d_tabulate}
use Rattle.integers.specs.Linear.{zz, ints}
use Rattle.quadtree.specs.Areas.{area_mono, block_area}
use Rattle.quadtree.specs.Levels.{cell_lt, block_side_lem, block_on_map}
use Rattle.guarantee.specs.PriceList.{Accepted, PriceList}
use Rattle.guarantee.proofs.Start.{total_area}
use Rattle.guarantee.proofs.Promised.{price_list}
use Rattle.guarantee.proofs.Clauses.{everyone}
use Rattle.sketch_range.specs.Promise.{Between, Same, Finished, Ranged}

-- ---- sums and caps grow with the greys
module _ (r : ℕ) (f g : List ℕ) (le : (i : ℕ) → i < cell_count r → get_or f i 0 ≤ get_or g i 0) where
  cell_le : (x y : ℕ) → x < 2 ^ r → y < 2 ^ r → grey_at r f x y ≤ grey_at r g x y
  unfolding grey_at
  cell_le x y p q = le (cell_number r x y) (cell_lt (2 ^ r) x y p q)

  pub total_le : grey_total r f ≤ grey_total r g
  total_le =
      omega (
        arith,
        total_area r f,
        total_area r g,
        area_mono 0 0 (2 ^ r) (grey_at r f) (grey_at r g) (λ x y i j. cell_le x y (omega arith) (omega arith)),
      )

  pub sum_le : (k a b : ℕ) → k ≤ r → a < 2 ^ k → b < 2 ^ k → grey_sum r f k a b ≤ grey_sum r g k a b
  unfolding grey_sum
  sum_le k a b h u v =
      let s = block_side r k in
      let e = block_side_lem r (r - k) k (omega arith) in
      let m = rw (← e) at (block_on_map r (r - k) k a (omega arith) u) in
      let n = rw (← e) at (block_on_map r (r - k) k b (omega arith) v) in
      omega (
        arith,
        block_area r (grey_at r f) k a b,
        block_area r (grey_at r g) k a b,
        area_mono (a * s) (b * s) s (grey_at r f) (grey_at r g)
            (λ x y i j. cell_le x y (omega (arith, m)) (omega (arith, n))),
      )

  pub cap_le : (k a b : ℕ) → k ≤ r → a < 2 ^ k → b < 2 ^ k
      → quote_cap (block_side r k) (grey_sum r f k a b) ≤ quote_cap (block_side r k) (grey_sum r g k a b)
  unfolding quote_cap
  cap_le k a b h u v = omega (arith, sum_le k a b h u v)

-- so greys that are the same in every cell have the same sum
pub total_same : (r : ℕ) (greys map : List ℕ) → Same r greys map → grey_total r greys ≡ grey_total r map
total_same r greys map e =
    omega (
      arith,
      total_le r greys map (λ i h. omega (arith, e i h)),
      total_le r map greys (λ i h. omega (arith, e i h)),
    )

pub sum_same : (r : ℕ) (greys map : List ℕ) → Same r greys map → (k a b : ℕ) → k ≤ r → a < 2 ^ k → b < 2 ^ k
    → grey_sum r greys k a b ≡ grey_sum r map k a b
sum_same r greys map e k a b h u v =
    omega (
      arith,
      sum_le r greys map (λ i h. omega (arith, e i h)) k a b h u v,
      sum_le r map greys (λ i h. omega (arith, e i h)) k a b h u v,
    )

-- ---- one map, by its price list
module _ (side knit : ℕ) (greys : List ℕ) (pyramid : List ℤ) (serials order : List ℕ)
    (accepted : Accepted side knit greys pyramid serials order) (calls : List Call) where
  abbrev r : ℕ
  r = power_of side

  abbrev held : Held
  held = held_after_calls (held_after_load side knit greys pyramid serials order) calls

  demand : PriceList side knit greys pyramid serials order calls
  demand = price_list side knit greys pyramid serials order accepted calls

  finished_total : Finished held → held.progress.dots ≡ total_of (grey_total r greys)
  finished_total h = let d = demand.debt in omega (ints, simp zz at h, simp zz at d, demand.number)

  under_cap : (k a b : ℕ) → k ≤ r → a < 2 ^ k → b < 2 ^ k
      → dots_in r held.serials k a b ≤ quote_cap (block_side r k) (grey_sum r greys k a b)
  under_cap k a b h u v = let w = (demand.quotes k a b h u v).within in unfold figures in w

-- ---- the cap at a place
pub caps_at : (r : ℕ) (highs : List ℕ) (k a b : ℕ) → a < 2 ^ k → b < 2 ^ k
    → get_or (caps_of r highs k) (a * 2 ^ k + b) 0 ≡ quote_cap (block_side r k) (grey_sum r highs k a b)
unfolding caps_of
caps_at r highs k a b u v =
    get_d_tabulate (2 ^ k * 2 ^ k) (λ i. quote_cap (block_side r k) (grey_sum r highs k (i / 2 ^ k) (i % 2 ^ k)))
    (a * 2 ^ k + b) 0 (cell_lt (2 ^ k) a b u v)
    ∙ ap₂ (λ (x y : ℕ). quote_cap (block_side r k) (grey_sum r highs k x y)) (high a k v) (low a k v)

-- ---- the theorem
-- every map between low and high (S 15.11)
pub ranged : (side k : ℕ) (lows highs : List ℕ) → k ≤ power_of side
    → ((i : ℕ) → i < cell_count (power_of side) → get_or lows i 0 ≤ get_or highs i 0)
    → Ranged side k lows highs (total_of (grey_total (power_of side) lows))
    (total_of (grey_total (power_of side) highs))
    (caps_of (power_of side) highs k)
ranged side k lows highs level rise =
    let r = power_of side in
    record {
      range = λ knit greys between pyramid serials order accepted calls end. (
        omega (
          arith,
          finished_total side knit greys pyramid serials order accepted calls end,
          total_le r lows greys between.above,
        ),
        omega (
          arith,
          finished_total side knit greys pyramid serials order accepted calls end,
          total_le r greys highs between.below,
        ),
      );
      low_end = λ knit greys same pyramid serials order accepted calls end.
          omega (
            arith,
            finished_total side knit greys pyramid serials order accepted calls end,
            total_same r greys lows same,
          );
      high_end = λ knit greys same pyramid serials order accepted calls end.
          omega (
            arith,
            finished_total side knit greys pyramid serials order accepted calls end,
            total_same r greys highs same,
          );
      low_between = record { above = λ i h. omega arith; below = rise };
      high_between = record { above = rise; below = λ i h. omega arith };
      capped = λ knit greys between pyramid serials order accepted calls a b u v.
          omega (
            arith,
            under_cap side knit greys pyramid serials order accepted calls k a b level u v,
            cap_le r greys highs between.below k a b level u v,
            caps_at r highs k a b u v,
          );
    }

-- ---- what lies behind the cells, or behind the caps, does not matter
module _ (side k : ℕ) (lows highs : List ℕ) (least greatest : ℕ) (caps : List ℕ)
    (q : Ranged side k lows highs least greatest caps) (lows' highs' caps' : List ℕ)
    (same_lows : Same (power_of side) lows' lows) (same_highs : Same (power_of side) highs' highs)
    (same_caps : (i : ℕ) → i < 2 ^ k * 2 ^ k → get_or caps' i 0 ≡ get_or caps i 0) where
  between_same : (greys : List ℕ) → Between (power_of side) lows' greys highs'
      → Between (power_of side) lows greys highs
  between_same greys between =
      record {
        above = λ i h. omega (arith, same_lows i h, between.above i h);
        below = λ i h. omega (arith, same_highs i h, between.below i h);
      }

  pub ranged_same : Ranged side k lows' highs' least greatest caps'
  ranged_same =
      record {
        range = λ knit greys between. q.range knit greys (between_same greys between);
        low_end = λ knit greys same. q.low_end knit greys (λ i h. same i h ∙ same_lows i h);
        high_end = λ knit greys same. q.high_end knit greys (λ i h. same i h ∙ same_highs i h);
        low_between = record {
          above = λ i h. omega arith;
          below = λ i h. omega (arith, same_lows i h, same_highs i h, q.low_between.below i h);
        };
        high_between = record {
          above = λ i h. omega (arith, same_lows i h, same_highs i h, q.low_between.below i h);
          below = λ i h. omega arith;
        };
        capped = λ knit greys between pyramid serials order accepted calls a b u v.
            omega (
              arith,
              same_caps (a * 2 ^ k + b) (cell_lt (2 ^ k) a b u v),
              q.capped knit greys (between_same greys between) pyramid serials order accepted calls a b u v,
            );
      }

-- ---- nobody is left out: with highs of at most 240, Load accepts every map of bytes that lies between, with either
-- knit and in buffers that are long enough, whatever they hold
pub everyone_between : (r knit : ℕ) → 1 ≤ r → r ≤ 8 → knit ≤ 1
    → (lows greys highs : List ℕ) → Between r lows greys highs
    → ((i : ℕ) → i < cell_count r → get_or highs i 0 ≤ 240)
    → ((i : ℕ) → i < length greys → get_or greys i 0 ≤ 255)
    → (pyramid : List ℤ) (serials order : List ℕ)
    → 2 ^ r * 2 ^ r ≤ length greys → (4 ^ suc r - 1) / 3 ≤ length pyramid
    → 2 ^ r * 2 ^ r ≤ length serials → 2 ^ r * 2 ^ r ≤ length order
    → Accepted (2 ^ r) knit greys pyramid serials order
everyone_between r knit some most known lows greys highs between under bytes pyramid serials order g p s o =
    everyone r knit some most known greys pyramid serials order g p s o bytes
    (λ i h. omega (arith, between.below i h, under i h))
