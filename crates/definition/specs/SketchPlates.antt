-- The rows for sketches, `sketch_plates`: the text of a sketch, its totals and caps, the refusals in their order, and
-- what the program `sketch` prints.
use Rattle.std.specs.Prelude.{Bool, not, ◌&&◌, List, [], ◌∷◌, ◌++◌, ℕ, length, replicate}
use Rattle.definition.specs.Refusals.{Row}
use Rattle.definition.specs.MapText.{map_text}
use Rattle.definition.specs.SketchQuote.{paired, sketch_text, lows_of, highs_of, pairs_rise, sketch_quote_of}
use Rattle.definition.specs.Sketch.{sketch_of}
use Rattle.definition.specs.PlateTools.{same, says, refuses}

-- a text for a level, in buffers of these lengths, is refused with a number, and all of them stay
unfoldable pub sketches_nothing : List ℕ → ℕ → ℕ → ℕ → ℕ → ℕ → Bool
sketches_nothing text level lows highs caps number =
    let outcome = sketch_quote_of text level (replicate lows 6) (replicate highs 7) (replicate caps 8) in
    refuses outcome.said number && same outcome.lows (replicate lows 6)
    && same outcome.highs (replicate highs 7) && same outcome.caps (replicate caps 8)

-- the sketch of a side with these lows and highs is answered with two totals, and leaves them and these caps of a
-- level, in buffers that have so many places to spare
unfoldable pub sketches : ℕ → List ℕ → List ℕ → ℕ → ℕ → ℕ → ℕ → List ℕ → Bool
sketches side lows highs level spare least greatest caps =
    let more : List ℕ = replicate spare 6 in
    let lent : List ℕ = replicate (length lows) 7 ++ more in
    let outcome = sketch_quote_of (sketch_text side lows highs) level lent lent (replicate (length caps) 7 ++ more) in
    says outcome.said (side ∷ least ∷ greatest ∷ []) && same outcome.lows (lows ++ more)
    && same outcome.highs (highs ++ more) && same outcome.caps (caps ++ more)

-- of side 2
abbrev pub low_two : List ℕ
low_two = 10 ∷ 0 ∷ 128 ∷ 5 ∷ []

abbrev pub high_two : List ℕ
high_two = 20 ∷ 240 ∷ 128 ∷ 6 ∷ []

-- "2", "10,20,0,240", "128,128,5,6"
unfoldable pub text_two : List ℕ
text_two =
    50 ∷ 10 ∷ 49 ∷ 48 ∷ 44 ∷ 50 ∷ 48 ∷ 44 ∷ 48 ∷ 44 ∷ 50 ∷ 52 ∷ 48 ∷ 10
    ∷ 49 ∷ 50 ∷ 56 ∷ 44 ∷ 49 ∷ 50 ∷ 56 ∷ 44 ∷ 53 ∷ 44 ∷ 54 ∷ 10 ∷ []

-- of side 4: the squares of level 1 have the high grey sums 40, 240, 85 and 86, and the low ones 10, 20, 65 and 0
abbrev pub low_four : List ℕ
low_four = 0 ∷ 0 ∷ 20 ∷ 0 ∷ 0 ∷ 10 ∷ 0 ∷ 0 ∷ 0 ∷ 0 ∷ 0 ∷ 0 ∷ 0 ∷ 65 ∷ 0 ∷ 0 ∷ []

abbrev pub high_four : List ℕ
high_four = 10 ∷ 10 ∷ 240 ∷ 0 ∷ 10 ∷ 10 ∷ 0 ∷ 0 ∷ 0 ∷ 20 ∷ 0 ∷ 86 ∷ 0 ∷ 65 ∷ 0 ∷ 0 ∷ []

-- of side 2, with this pair in the first cell, or in the last
unfoldable pub first_pair : ℕ → ℕ → List ℕ
first_pair low high = sketch_text 2 (low ∷ 0 ∷ 0 ∷ 0 ∷ []) (high ∷ 9 ∷ 9 ∷ 9 ∷ [])

unfoldable pub last_pair : ℕ → ℕ → List ℕ
last_pair low high = sketch_text 2 (0 ∷ 0 ∷ 0 ∷ low ∷ []) (9 ∷ 9 ∷ 9 ∷ high ∷ [])

-- "    1     2", "  0   0     4"
unfoldable pub page_two : List ℕ
page_two =
    32 ∷ 32 ∷ 32 ∷ 32 ∷ 49 ∷ 32 ∷ 32 ∷ 32 ∷ 32 ∷ 32 ∷ 50 ∷ 10
    ∷ 32 ∷ 32 ∷ 48 ∷ 32 ∷ 32 ∷ 32 ∷ 48 ∷ 32 ∷ 32 ∷ 32 ∷ 32 ∷ 32 ∷ 52 ∷ 10 ∷ []

-- "    0     2", "  0   0     3", "  0   1     4", "  1   0     3", "  1   1     4"
unfoldable pub page_four : List ℕ
page_four =
    32 ∷ 32 ∷ 32 ∷ 32 ∷ 48 ∷ 32 ∷ 32 ∷ 32 ∷ 32 ∷ 32 ∷ 50 ∷ 10
    ∷ 32 ∷ 32 ∷ 48 ∷ 32 ∷ 32 ∷ 32 ∷ 48 ∷ 32 ∷ 32 ∷ 32 ∷ 32 ∷ 32 ∷ 51 ∷ 10
    ∷ 32 ∷ 32 ∷ 48 ∷ 32 ∷ 32 ∷ 32 ∷ 49 ∷ 32 ∷ 32 ∷ 32 ∷ 32 ∷ 32 ∷ 52 ∷ 10
    ∷ 32 ∷ 32 ∷ 49 ∷ 32 ∷ 32 ∷ 32 ∷ 48 ∷ 32 ∷ 32 ∷ 32 ∷ 32 ∷ 32 ∷ 51 ∷ 10
    ∷ 32 ∷ 32 ∷ 49 ∷ 32 ∷ 32 ∷ 32 ∷ 49 ∷ 32 ∷ 32 ∷ 32 ∷ 32 ∷ 32 ∷ 52 ∷ 10 ∷ []

-- "refused,13"
unfoldable pub refused_fall : List ℕ
refused_fall = 114 ∷ 101 ∷ 102 ∷ 117 ∷ 115 ∷ 101 ∷ 100 ∷ 44 ∷ 49 ∷ 51 ∷ 10 ∷ []

-- "refused,n", for one digit
unfoldable pub sketch_refuses : List ℕ → ℕ → Bool
sketch_refuses input digit =
    same (sketch_of input) (114 ∷ 101 ∷ 102 ∷ 117 ∷ 115 ∷ 101 ∷ 100 ∷ 44 ∷ digit ∷ 10 ∷ [])

unfoldable pub sketch_plates : List Row
sketch_plates =
    -- the one text of a sketch; its numbers put together and taken apart; equal ends are no fall (S 6.3)
    (130, same (sketch_text 2 low_two high_two) text_two)
    ∷ (130, same (lows_of (paired low_two high_two)) low_two && same (highs_of (paired low_two high_two)) high_two)
    ∷ (130, pairs_rise (3 ∷ 3 ∷ 0 ∷ 9 ∷ []) && not (pairs_rise (3 ∷ 2 ∷ [])) && not (pairs_rise (0 ∷ 9 ∷ 1 ∷ 0 ∷ [])))
    -- totals and caps: one square, squares of one cell, four squares by row then column; just enough room, and more
    -- (S 9.4, S 8.3)
    ∷ (131, sketches 2 low_two high_two 0 0 1 2 (4 ∷ []) && sketches 2 low_two high_two 1 1 1 2 (1 ∷ 1 ∷ 1 ∷ 1 ∷ []))
    ∷ (131, sketches 4 low_four high_four 1 3 0 2 (3 ∷ 4 ∷ 3 ∷ 4 ∷ []))
    ∷ (131, sketches 4 low_four high_four 0 0 0 2 (8 ∷ []))
    -- the ends of the range may be one map; 240 is no high grey (S 9.4)
    ∷ (132, sketches 2 high_two high_two 0 1 2 2 (4 ∷ []) && sketches 2 low_two (replicate 4 240) 0 0 1 4 (4 ∷ []))
    -- refused, each together with what comes behind it: a first line that is none; side 3; three places for lows, and
    -- for highs (S 5.2, S 6.4)
    ∷ (133, sketches_nothing (48 ∷ text_two) 2 3 3 0 7 && sketches_nothing (51 ∷ 10 ∷ []) 2 3 3 0 1)
    ∷ (133, sketches_nothing (text_two ++ 10 ∷ []) 2 3 4 0 2 && sketches_nothing (text_two ++ 10 ∷ []) 2 4 3 0 2)
    -- a text that goes on; N numbers a line; a pair too few, and one too many; 256 (S 6.3)
    ∷ (134, sketches_nothing (text_two ++ 10 ∷ []) 2 4 4 0 7 && sketches_nothing (map_text 2 low_two) 0 4 4 1 7)
    ∷ (134, sketches_nothing (map_text 2 (1 ∷ 2 ∷ 3 ∷ 4 ∷ 5 ∷ 6 ∷ 7 ∷ 8 ∷ [])) 0 4 4 1 7)
    ∷ (134, sketches_nothing (50 ∷ 10 ∷ 48 ∷ 44 ∷ 49 ∷ 44 ∷ 48 ∷ 44 ∷ 49 ∷ 10 ∷ 48 ∷ 44 ∷ 49 ∷ 10 ∷ []) 0 4 4 1 7)
    ∷ (
      134,
      sketches_nothing (text_two ++ 48 ∷ 44 ∷ 49 ∷ 10 ∷ []) 0 4 4 1 7
          && sketches_nothing (last_pair 0 256) 2 4 4 0 7,
    )
    -- a high grey among highs or lows, before a pair that falls; a pair that falls, before the level; the level before
    -- the caps; too few places for caps (S 5.2, S 9.4)
    ∷ (135, sketches_nothing (first_pair 0 241) 2 4 4 0 12 && sketches_nothing (last_pair 241 9) 2 4 4 0 12)
    ∷ (135, sketches_nothing (sketch_text 2 (9 ∷ 0 ∷ 0 ∷ 0 ∷ []) (8 ∷ 241 ∷ 0 ∷ 0 ∷ [])) 0 4 4 1 12)
    ∷ (135, sketches_nothing (first_pair 10 9) 2 4 4 0 13 && sketches_nothing (last_pair 240 239) 0 4 4 1 13)
    ∷ (
      135,
      sketches_nothing text_two 2 4 4 0 6 && sketches_nothing text_two 1 4 4 3 8
          && sketches_nothing text_two 0 5 5 0 8,
    )
    -- the program: totals and caps (S 14.5, S 6.5)
    ∷ (136, same (sketch_of (48 ∷ 10 ∷ text_two)) page_two)
    ∷ (136, same (sketch_of (49 ∷ 10 ∷ sketch_text 4 low_four high_four)) page_four)
    -- its refusals (S 14.5, S 14.7)
    ∷ (137, same (sketch_of (57 ∷ 10 ∷ first_pair 10 9)) refused_fall && sketch_refuses (57 ∷ 10 ∷ text_two) 54)
    ∷ (137, sketch_refuses text_two 55 && sketch_refuses (48 ∷ 48 ∷ 10 ∷ text_two) 55 && sketch_refuses [] 55)
    ∷ (137, sketch_refuses (48 ∷ 10 ∷ 54 ∷ 52 ∷ 10 ∷ []) 50 && sketch_refuses (48 ∷ 10 ∷ 57 ∷ 10 ∷ []) 49)
    ∷ []
