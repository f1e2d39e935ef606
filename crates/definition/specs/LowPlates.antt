-- The rows for low maps, `low_plates`: no grey above 240 in Load, Map Text, Restore and the programs, and the texts
-- that Lower Text and `convert` make of older ones.
use Rattle.std.specs.Prelude.{Bool, not, ◌&&◌, List, [], ◌∷◌, ◌++◌, ℕ, take, drop, replicate, pos}
use Rattle.definition.specs.Answers.{Said}
use Rattle.definition.specs.Refusals.{Row}
use Rattle.definition.specs.Lowering.{none_high, lowered}
use Rattle.definition.specs.MapText.{map_text, map_text_of}
use Rattle.definition.specs.LowerText.{lower_text_of}
use Rattle.definition.specs.ByQuarters.{load_by_quarters, restore_by_quarters}
use Rattle.definition.specs.Sample.{sample_text}
use Rattle.definition.specs.Plate.{plate_of}
use Rattle.definition.specs.Quote.{quote_of}
use Rattle.definition.specs.Convert.{convert_of}
use Rattle.definition.specs.PlateTools.{same, same_z, says, refuses, top_only}
use Rattle.definition.specs.declared.Progress.{Progress}
use Rattle.definition.specs.declared.Checkpoints.{Checkpoints}

-- a map of side 2 with its first and its last grey
abbrev pub ends : ℕ → ℕ → List ℕ
ends first last = first ∷ 0 ∷ 0 ∷ last ∷ []

-- Load of a side and a knit with these greys and buffers of these lengths
unfoldable pub loads_high : ℕ → ℕ → List ℕ → ℕ → ℕ → ℕ → Said
loads_high side knit greys p s o =
    (load_by_quarters side knit greys (replicate p (pos 9)) (replicate s 9) (replicate o 9)).said

-- a Load that is refused with 12 leaves its buffers
unfoldable pub loads_nothing : List ℕ → Bool
loads_nothing greys =
    let outcome = load_by_quarters 2 0 greys (replicate 5 (pos 9)) (replicate 4 9) (replicate 4 9) in
    refuses outcome.said 12 && same_z outcome.pyramid (replicate 5 (pos 9))
    && same outcome.serials (replicate 4 9) && same outcome.order (replicate 4 9)

-- Restore of the record (side, 0, knit) with these greys, buffers of these lengths, all unburnt, with this top, and
-- with this kept under name 1
unfoldable pub restores_high : ℕ → ℕ → List ℕ → ℕ → ℕ → ℕ → ℕ → ℕ → ℕ → Said
restores_high side knit greys p s o top kept name =
    let record₀ : Progress = record { side = side; dots = 0; knit = knit } in
    let value : Checkpoints = record { kept = kept ∷ replicate 7 0 } in
    (restore_by_quarters record₀ value name greys (top_only p top) (replicate s 0) (replicate o 0)).said

-- Map Text with room for so many greys refuses with a number, and leaves its buffer
unfoldable pub reads_nothing : List ℕ → ℕ → ℕ → Bool
reads_nothing text room number =
    let outcome = map_text_of text (replicate room 6) in
    refuses outcome.said number && same outcome.greys (replicate room 6)

-- Lower Text with so many places for greys and for bytes refuses with a number, and leaves both buffers
unfoldable pub lowers_nothing : List ℕ → ℕ → ℕ → ℕ → Bool
lowers_nothing text room lent number =
    let outcome = lower_text_of text (replicate room 6) (replicate lent 46) in
    refuses outcome.said number && same outcome.greys (replicate room 6)
    && same outcome.output (replicate lent 46)

-- it leaves these greys and this text of 17 bytes, in buffers with a place more
unfoldable pub lowers : List ℕ → List ℕ → List ℕ → Bool
lowers text greys low =
    let outcome = lower_text_of text (replicate 5 6) (replicate 18 46) in
    says outcome.said (17 ∷ []) && same outcome.greys (greys ++ 6 ∷ []) && same outcome.output (low ++ 46 ∷ [])

-- "2", "10,250", "255,241", and the text that it becomes: "2", "10,240", "240,240"
unfoldable pub high_text : List ℕ
high_text = 50 ∷ 10 ∷ 49 ∷ 48 ∷ 44 ∷ 50 ∷ 53 ∷ 48 ∷ 10 ∷ 50 ∷ 53 ∷ 53 ∷ 44 ∷ 50 ∷ 52 ∷ 49 ∷ 10 ∷ []

unfoldable pub low_text : List ℕ
low_text = 50 ∷ 10 ∷ 49 ∷ 48 ∷ 44 ∷ 50 ∷ 52 ∷ 48 ∷ 10 ∷ 50 ∷ 52 ∷ 48 ∷ 44 ∷ 50 ∷ 52 ∷ 48 ∷ 10 ∷ []

-- "2", "0,0", "0,256"
unfoldable pub over_text : List ℕ
over_text = 50 ∷ 10 ∷ 48 ∷ 44 ∷ 48 ∷ 10 ∷ 48 ∷ 44 ∷ 50 ∷ 53 ∷ 54 ∷ 10 ∷ []

-- "refused,12", and "refused,7"
unfoldable pub refused_high : List ℕ
refused_high = 114 ∷ 101 ∷ 102 ∷ 117 ∷ 115 ∷ 101 ∷ 100 ∷ 44 ∷ 49 ∷ 50 ∷ 10 ∷ []

unfoldable pub refused_text7 : List ℕ
refused_text7 = 114 ∷ 101 ∷ 102 ∷ 117 ∷ 115 ∷ 101 ∷ 100 ∷ 44 ∷ 55 ∷ 10 ∷ []

unfoldable pub low_plates : List Row
low_plates =
    -- 240 is low and 241 is not (S 2.2); what greys are lowered to (S 12.4)
    (120, none_high (0 ∷ 240 ∷ []) && not (none_high (0 ∷ 241 ∷ [])) && none_high [])
    ∷ (120, same (lowered (0 ∷ 239 ∷ 240 ∷ 241 ∷ 255 ∷ [])) (0 ∷ 239 ∷ 240 ∷ 240 ∷ 240 ∷ []))
    -- Load: 240 is accepted; 241 in the first cell and in the last is refused, past the map it is not looked at (S 7.2)
    ∷ (121, says (loads_high 2 0 (ends 240 240) 5 4 4) [] && says (loads_high 2 1 (ends 0 240 ++ 241 ∷ []) 5 4 4) [])
    ∷ (121, loads_nothing (ends 241 0) && loads_nothing (ends 0 241) && loads_nothing (replicate 5 255))
    -- and 241 together with each other refusal (S 5.2)
    ∷ (122, refuses (loads_high 3 2 (ends 241 0) 4 3 3) 1 && refuses (loads_high 2 2 (ends 241 0) 4 3 3) 11)
    ∷ (122, refuses (loads_high 2 0 (241 ∷ 0 ∷ 0 ∷ []) 4 3 3) 2 && refuses (loads_high 2 0 (ends 241 0) 4 3 3) 3)
    ∷ (122, refuses (loads_high 2 0 (ends 241 0) 5 3 4) 4 && refuses (loads_high 2 0 (ends 241 0) 5 4 3) 4)
    -- Restore: 12 comes after 5 and before 10 (S 5.2)
    ∷ (123, refuses (restores_high 3 2 (ends 0 241) 4 3 3 1 0 9) 1)
    ∷ (123, refuses (restores_high 2 2 (ends 0 241) 4 3 3 1 0 9) 11)
    ∷ (123, refuses (restores_high 2 0 (241 ∷ 0 ∷ 0 ∷ []) 4 3 3 1 0 9) 2)
    ∷ (123, refuses (restores_high 2 0 (ends 0 241) 4 3 3 1 0 9) 3)
    ∷ (123, refuses (restores_high 2 0 (ends 0 241) 5 3 4 1 0 9) 4)
    ∷ (123, refuses (restores_high 2 0 (ends 0 241) 5 4 3 1 0 9) 4)
    ∷ (123, refuses (restores_high 2 0 (ends 0 241) 5 4 4 1 0 9) 5)
    ∷ (123, refuses (restores_high 2 0 (ends 0 241) 5 4 4 0 0 9) 12)
    ∷ (123, refuses (restores_high 2 0 (ends 0 240 ++ 241 ∷ []) 5 4 4 0 0 9) 10)
    ∷ (123, says (restores_high 2 0 (ends 0 240 ++ 241 ∷ []) 5 4 4 0 1 1) [])
    -- Map Text: the same of texts; above 255 is still 7 (S 9.1, S 6.2)
    ∷ (124, says (map_text_of (map_text 2 (ends 240 240)) (replicate 4 6)).said (2 ∷ []))
    ∷ (124, reads_nothing (map_text 2 (ends 241 0)) 5 12 && reads_nothing (map_text 2 (ends 0 241)) 5 12)
    ∷ (124, reads_nothing (map_text 2 (ends 255 255)) 4 12 && reads_nothing over_text 4 7)
    -- 241 together with each other refusal (S 5.2)
    ∷ (125, reads_nothing (48 ∷ high_text) 4 7 && reads_nothing (map_text 3 (replicate 9 241)) 9 1)
    ∷ (125, reads_nothing high_text 3 2 && reads_nothing (high_text ++ 10 ∷ []) 4 7)
    -- Lower Text: a text with high greys, and one without, which is copied; just enough room (S 9.2, S 15.10)
    ∷ (
      126,
      lowers high_text (10 ∷ 240 ∷ 240 ∷ 240 ∷ []) low_text
          && lowers low_text (10 ∷ 240 ∷ 240 ∷ 240 ∷ []) low_text,
    )
    ∷ (126, says (lower_text_of high_text (replicate 4 6) (replicate 17 46)).said (17 ∷ []))
    -- its refusals in turn: a first line that is none, side 3, three places for greys, a text that goes on or has a
    -- grey of 256, 16 places for bytes (S 5.2)
    ∷ (127, lowers_nothing (48 ∷ high_text) 3 0 7 && lowers_nothing (51 ∷ 10 ∷ []) 3 0 1)
    ∷ (127, lowers_nothing (high_text ++ 10 ∷ []) 3 0 2 && lowers_nothing (high_text ++ 10 ∷ []) 4 0 7)
    ∷ (127, lowers_nothing over_text 4 0 7 && lowers_nothing high_text 4 16 8 && lowers_nothing low_text 5 0 8)
    -- the programs: `plate` and `quote` refuse (S 14.1, S 14.2); what `sample` prints for its first grey above 240,
    -- which is 251 (S 14.3)
    ∷ (128, same (plate_of high_text) refused_high && same (quote_of (48 ∷ 10 ∷ high_text)) refused_high)
    ∷ (128, same (take 4 (drop 55 sample_text)) (50 ∷ 52 ∷ 48 ∷ 44 ∷ []))
    -- `convert` (S 14.4)
    ∷ (129, same (convert_of high_text) low_text && same (convert_of low_text) low_text)
    ∷ (129, same (convert_of (high_text ++ 10 ∷ [])) refused_text7)
    ∷ []
