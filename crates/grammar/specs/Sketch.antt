-- What the laws on sketches speak of: pairs taken apart into lows and highs and put together again (`Apart`); the text
-- of a sketch, told by its lows and highs (`SketchOf`), and what the reader finds in it (`SketchRead`); which of them
-- the call quotes (`Quotable`, `Passed`), and what was quoted (`QuotedSketch`).
use Rattle.std.specs.Prelude.{◌≡◌, true, List, ℕ, ◌*◌, ◌^◌, ◌<◌, ◌≤◌}
use Rattle.std.proofs.Math.ListN.{length, get_or}
use Rattle.definition.specs.Blocks.{grey_total, total_of}
use Rattle.definition.specs.Lowering.{none_high}
use Rattle.definition.specs.Refusals.{power_of}
use Rattle.definition.specs.MapText.{accepted, read_text}
use Rattle.definition.specs.SketchQuote.{paired, sketch_text, sketch_ends, lows_of, highs_of, pairs_rise}

-- taken apart and put together
pub record Apart (n : ℕ) (pairs : List ℕ) : Type 0 where
  pub low_length : length (lows_of pairs) ≡ n
  pub high_length : length (highs_of pairs) ≡ n
  pub together : paired (lows_of pairs) (highs_of pairs) ≡ pairs

-- ---- the text
-- A text is that of a sketch, with these lows and highs, which fits greys buffers of so many places.
pub record SketchOf (text : List ℕ) (room_lows room_highs side : ℕ) (lows highs : List ℕ) : Type 0 where
  pub bytes : text ≡ sketch_text side lows highs
  -- the side is one of the eight
  pub one_of_eight : 0 < power_of side
  pub low_count : length lows ≡ side * side
  pub high_count : length highs ≡ side * side
  -- of each cell the low is at most the high, and this at most 240
  pub rise : (i : ℕ) → i < side * side → get_or lows i 0 ≤ get_or highs i 0
  pub most : (i : ℕ) → i < side * side → get_or highs i 0 ≤ 240
  -- the one buffer and the other
  pub fits_lows : side * side ≤ room_lows
  pub fits_highs : side * side ≤ room_highs

-- what the reader finds in a text whose pairs pass both tests
pub record SketchRead (text : List ℕ) (room side : ℕ) (pairs : List ℕ) : Type 0 where
  pub read : read_text sketch_ends text room ≡ accepted side pairs
  pub low : none_high pairs ≡ true
  pub rise : pairs_rise pairs ≡ true

-- ---- the call
-- A text that the call quotes for level k: that of a sketch, where the level is no finer than the cells and the caps
-- have room.
pub record Quotable (text : List ℕ) (k room_lows room_highs room_caps side : ℕ) (lows highs : List ℕ) : Type 0 where
  pub sketch : SketchOf text room_lows room_highs side lows highs
  pub level : k ≤ power_of side
  pub fits_caps : 2 ^ k * 2 ^ k ≤ room_caps

-- no row applies
pub record Passed (r : ℕ) (pairs : List ℕ) (k room : ℕ) : Type 0 where
  pub low : none_high pairs ≡ true
  pub rise : pairs_rise pairs ≡ true
  pub level : k ≤ r
  pub enough : 2 ^ k * 2 ^ k ≤ room

-- what was quoted, where the answer has these figures
pub record QuotedSketch (text : List ℕ) (k room_lows room_highs room_caps side least greatest : ℕ) : Type 0 where
  pub lows : List ℕ
  pub highs : List ℕ
  pub quotable : Quotable text k room_lows room_highs room_caps side lows highs
  pub least_is : least ≡ total_of (grey_total (power_of side) lows)
  pub greatest_is : greatest ≡ total_of (grey_total (power_of side) highs)
