-- What a sketch's quote promises (`Ranged`), of every map that lies between the lows and the highs (`Between`), for
-- either knit and after every list of Advance calls. `Range` proves it, and `Clauses` says it again with its figures.
use Rattle.std.specs.Prelude.{◌≡◌, List, ℕ, ◌+◌, ◌*◌, ◌^◌, ◌≤◌, ◌<◌, get_or, ℤ, pos, ◌<ℤ◌}
use Rattle.definition.specs.Pyramid.{half_dot, cell_count}
use Rattle.definition.specs.Blocks.{dots_in}
use Rattle.definition.specs.Model.{top_of}
use Rattle.definition.specs.Refusals.{power_of}
use Rattle.definition.specs.AdvanceList.{Call, Held, held_after_load, held_after_calls}
use Rattle.guarantee.specs.PriceList.{Accepted}

-- greys that lie between lows and highs in every cell of a map of side 2^r
pub record Between (r : ℕ) (lows greys highs : List ℕ) : Type 0 where
  pub above : (i : ℕ) → i < cell_count r → get_or lows i 0 ≤ get_or greys i 0
  pub below : (i : ℕ) → i < cell_count r → get_or greys i 0 ≤ get_or highs i 0

-- greys that are a map's in every cell; behind its cells there may be more of them
abbrev pub Same : ℕ → List ℕ → List ℕ → Type 0
Same r greys map = (i : ℕ) → i < cell_count r → get_or greys i 0 ≡ get_or map i 0

-- P of what the caller holds after an accepted Load of such greys, and any Advance calls
abbrev pub Always : ℕ → (List ℕ → Type 0) → (Held → Type 0) → Type 0
Always side Such P =
    (knit : ℕ) (greys : List ℕ) → Such greys
    → (pyramid : List ℤ) (serials order : List ℕ) → Accepted side knit greys pyramid serials order
    → (calls : List Call) → P (held_after_calls (held_after_load side knit greys pyramid serials order) calls)

-- the map is finished: less than half a dot is left at the top
abbrev pub Finished : Held → Type 0
Finished held = top_of held.pyramid <ℤ pos half_dot

pub record Ranged (side k : ℕ) (lows highs : List ℕ) (least greatest : ℕ) (caps : List ℕ) : Type 0 where
  -- every map between: finished, its dots are within the totals (S 15.11)
  pub range : Always side (λ greys. Between (power_of side) lows greys highs)
      (λ held. Finished held → (least ≤ held.progress.dots) × (held.progress.dots ≤ greatest))
  -- the map of the lows comes to the one total, that of the highs to the other (S 15.11)
  pub low_end : Always side (λ greys. Same (power_of side) greys lows)
      (λ held. Finished held → held.progress.dots ≡ least)
  pub high_end : Always side (λ greys. Same (power_of side) greys highs)
      (λ held. Finished held → held.progress.dots ≡ greatest)
  -- and both are maps between
  pub low_between : Between (power_of side) lows lows highs
  pub high_between : Between (power_of side) lows highs highs
  -- every map between, finished or not: no square of level k has more dots than its cap, which stands at its place by
  -- row then column (S 15.11)
  pub capped : Always side (λ greys. Between (power_of side) lows greys highs)
      (λ held. (a b : ℕ) → a < 2 ^ k → b < 2 ^ k
      → dots_in (power_of side) held.serials k a b ≤ get_or caps (a * 2 ^ k + b) 0)
