-- The plates of the laser with two heads, `head_plates`: a row for each sentence of its points, computed on the
-- definitions; docs/TRUST.md says where the figures are from. The maps have side 16 and are 0 but for a few cells.
use Rattle.std.specs.Prelude.{◌≡◌, refl, Bool, ◌&&◌, List, [], ◌∷◌, ◌++◌, map, ℕ, ◌+◌, ◌*◌, length, set, take, drop}
use Rattle.std.specs.Prelude.{replicate, ℤ, pos}
use Rattle.definition.specs.Lists.{sum_to, all_to, tabulate_from, joined, repeated, eq_z}
use Rattle.definition.specs.Pyramid.{
  start,
  place_in,
  row_at,
  column_at,
  level_of,
  in_level,
  entry,
  four,
  coarser,
  pyramid_over,
}
use Rattle.definition.specs.Blocks.{grey_at}
use Rattle.definition.specs.Descent.{candidate, first_of_equals, better, largest, descend}
use Rattle.definition.specs.Diffusion.{
  plain,
  ribbed,
  weights_of,
  places_in_turn,
  kernel_of,
  within,
  on_map,
  weight_at,
  share,
  diffuse,
}
use Rattle.definition.specs.Model.{top_of, model_start, missing, place_dot}
use Rattle.definition.specs.Refusals.{Row, power_up_to, power_of, lowest, greys_refusal}
use Rattle.definition.specs.Lowering.{none_high}
use Rattle.definition.specs.Load.{low_map}
use Rattle.definition.specs.Quarters.{
  interleaved,
  row_of,
  column_of,
  quarter_entry,
  quarter_level,
  rows_from,
  quarters_from,
  relaid,
  as_rows,
  as_quarters,
}
use Rattle.definition.specs.Text.{digits_up_to, decimal, line, line_ends, is_digit, digits_then, field_of}
use Rattle.definition.specs.MapText.{rows_text, map_text, values_of, read_numbers, read_text, read_low}
use Rattle.definition.specs.DrillList.{dot_lines, drill_text}
use Rattle.definition.specs.Plate.{refused_text}
use Rattle.definition.specs.PlateTools.{same, same_z, said_as, refuses, says, minus}
use Rattle.definition.specs.Plates.{first_failing}
use Rattle.heads.specs.TwoHeads.{
  Macroblock,
  block_sums,
  macroblock_sum,
  wanted,
  clear,
  burns,
  work,
  work_all,
  macroblocks,
  rounds,
  most_rounds,
  two_heads_in,
  two_heads,
  TwoHeadsOutcome,
  two_heads_refusal,
  two_heads_of,
  two_heads_by_quarters,
  two_heads_list,
  two_heads_text,
}

-- a cell of a map of side 16, and its grey
pub record Grey : Type 0 where
  pub row : ℕ
  pub column : ℕ
  pub grey : ℕ

abbrev pub at : ℕ → ℕ → ℕ → Grey
at row column grey = record { row = row; column = column; grey = grey }

-- the map with these greys, and 0 elsewhere
unfoldable pub map_of : List Grey → List ℕ
map_of [] = replicate 256 0
map_of (g ∷ gs) = set (map_of gs) (16 * g.row + g.column) g.grey

-- the run of such a map burns these cells in this order, and leaves this debt
unfoldable pub runs : ℕ → List Grey → List ℕ → ℤ → Bool
runs knit greys order debt =
    let run = two_heads (kernel_of knit) 4 (map_of greys) in
    same (take run.dots run.order) order && eq_z (top_of run.pyramid) debt

-- and these cells, by rows and columns, are then below 0 by so much; all others are at 0
unfoldable pub below : List Grey → List ℤ
below [] = replicate 256 (pos 0)
below (g ∷ gs) = set (below gs) (16 * g.row + g.column) (minus g.grey)

unfoldable pub leaves : ℕ → List Grey → List Grey → Bool
leaves knit greys debts = same_z (drop (start 4) (two_heads (kernel_of knit) 4 (map_of greys)).pyramid) (below debts)

-- the macroblocks of a round as a list of rows and columns, in cells
unfoldable pub corners_of : List Macroblock → List ℕ
corners_of [] = []
corners_of (m ∷ ms) = 4 * m.0 ∷ 4 * m.1 ∷ corners_of ms

unfoldable pub corners : ℕ → List ℕ
corners t = corners_of (macroblocks 4 t)

-- the call with zeros for greys, of which one may be another number, and with buffers of these lengths, with 9s
unfoldable pub call_of : ℕ → ℕ → List ℕ → ℕ → ℕ → ℕ → TwoHeadsOutcome
call_of side knit greys p s o =
    two_heads_by_quarters side knit greys (replicate p (pos 9)) (replicate s 9) (replicate o 9)

-- it is refused, with zeros for an answer and nothing changed
unfoldable pub call_refuses : ℕ → ℕ → List ℕ → ℕ → ℕ → ℕ → ℕ → Bool
call_refuses side knit greys p s o n =
    let out = call_of side knit greys p s o in
    refuses out.said n
    && same (out.progress.side ∷ out.progress.dots ∷ out.progress.knit ∷ out.made ∷ []) (replicate 4 0)
    && eq_z out.debt (pos 0) && same_z out.pyramid (replicate p (pos 9)) && same out.serials (replicate s 9)
    && same out.order (replicate o 9)

-- it is not: the answer, and what the run leaves, with a 9 behind it in each buffer
unfoldable pub call_runs : ℕ → List Grey → ℕ → ℤ → Bool
call_runs knit greys made debt =
    let run = two_heads (kernel_of knit) 4 (map_of greys) in
    let out = call_of 16 knit (map_of greys ++ 241 ∷ []) 342 257 257 in
    says out.said []
    && same (out.progress.side ∷ out.progress.dots ∷ out.progress.knit ∷ out.made ∷ [])
    (16 ∷ made ∷ knit ∷ made ∷ [])
    && eq_z out.debt debt && same_z (as_rows 4 out.pyramid) (run.pyramid ++ pos 9 ∷ [])
    && same out.serials (run.serials ++ 9 ∷ []) && same out.order (run.order ++ 9 ∷ [])

-- the map text of such a map, and "refused,n", with the digits of n
unfoldable pub text_of : List Grey → List ℕ
text_of greys = map_text 16 (map_of greys)

unfoldable pub text_refuses : List ℕ → List ℕ → Bool
text_refuses input digits =
    same (two_heads_text input) ((114 ∷ 101 ∷ 102 ∷ 117 ∷ 115 ∷ 101 ∷ 100 ∷ 44 ∷ digits) ++ 10 ∷ [])

-- "1,16", "1,0,3"
unfoldable pub list_one : List ℕ
list_one = 49 ∷ 44 ∷ 49 ∷ 54 ∷ 10 ∷ 49 ∷ 44 ∷ 48 ∷ 44 ∷ 51 ∷ 10 ∷ []

unfoldable pub head_plates : List Row
head_plates =
    -- the macroblocks of the four rounds, by row then column, none partly off the map; then again; side 32, counted
    -- (S 13.1)
    (140, same (corners 0) (0 ∷ 0 ∷ 0 ∷ 8 ∷ 8 ∷ 0 ∷ 8 ∷ 8 ∷ []) && same (corners 1) (0 ∷ 4 ∷ 8 ∷ 4 ∷ []))
    ∷ (140, same (corners 2) (4 ∷ 0 ∷ 4 ∷ 8 ∷ []) && same (corners 3) (4 ∷ 4 ∷ []) && same (corners 4) (corners 0))
    ∷ (140, same (map (λ t. length (macroblocks 5 t)) (4 ∷ 5 ∷ 6 ∷ 7 ∷ [])) (16 ∷ 12 ∷ 12 ∷ 9 ∷ []))
    -- the offsets in turn, each with a hole; a cell that waits for its offset while three rounds make nothing, and
    -- others after four such rounds that are not in a row (S 13.4, S 13.1)
    ∷ (
      141,
      runs plain (at 2 2 240 ∷ at 2 7 239 ∷ at 7 2 238 ∷ at 7 7 237 ∷ []) (34 ∷ 39 ∷ 114 ∷ 119 ∷ []) (minus 16896),
    )
    ∷ (141, runs plain (at 2 7 238 ∷ at 7 2 239 ∷ at 7 7 240 ∷ []) (119 ∷ 39 ∷ 114 ∷ []) (minus 12288))
    -- the map's edge; the first of equal blocks and, in a block, of equal quarters and cells, for every serial; and
    -- serials by row then column (S 13.2, S 13.4)
    ∷ (
      142,
      runs plain (at 0 3 128 ∷ at 1 9 64 ∷ at 1 13 64 ∷ at 9 1 64 ∷ at 9 2 64 ∷ []) (3 ∷ 25 ∷ 145 ∷ []) (minus 97536),
    )
    ∷ (142, runs plain (at 2 2 64 ∷ at 3 3 64 ∷ []) (34 ∷ []) (minus 32512))
    -- the block with the largest sum, not the one with the largest cell
    ∷ (142, runs plain (at 1 1 100 ∷ at 5 5 61 ∷ at 5 6 60 ∷ []) (85 ∷ []) (minus 8704))
    -- the rim: a corner, each of its sides, and a cell on two sides of which one is the map's edge (S 13.3)
    ∷ (143, runs plain (at 2 2 100 ∷ at 7 7 127 ∷ []) [] (pos 58112))
    ∷ (143, runs plain (at 2 2 100 ∷ at 7 2 127 ∷ []) [] (pos 58112))
    ∷ (143, runs plain (at 2 2 100 ∷ at 2 7 127 ∷ []) [] (pos 58112))
    ∷ (143, runs plain (at 13 2 100 ∷ at 8 2 127 ∷ []) [] (pos 58112))
    ∷ (143, runs plain (at 2 13 100 ∷ at 2 8 127 ∷ []) [] (pos 58112))
    ∷ (143, runs plain (at 0 7 127 ∷ at 2 2 100 ∷ at 15 8 240 ∷ []) (248 ∷ []) (pos 54272))
    -- each edge of the map, and two corners of it (S 13.3)
    ∷ (144, runs plain (at 15 3 240 ∷ []) (243 ∷ []) (minus 3840))
    ∷ (144, runs plain (at 3 0 240 ∷ []) (48 ∷ []) (minus 3840))
    ∷ (144, runs plain (at 3 15 240 ∷ []) (63 ∷ []) (minus 3840) && runs plain (at 0 0 240 ∷ []) (0 ∷ []) (minus 3840))
    ∷ (144, runs plain (at 15 15 240 ∷ []) (255 ∷ []) (minus 3840))
    -- a sum of just 32,640, and one of 32,639 (S 13.2)
    ∷ (145, runs plain (at 3 3 237 ∷ at 6 6 129 ∷ []) (51 ∷ 102 ∷ []) (minus 36864))
    ∷ (145, runs plain (at 3 12 239 ∷ at 6 9 131 ∷ at 12 3 229 ∷ []) (60 ∷ 195 ∷ []) (pos 22784))
    -- what is spread, at the map's edge and in its corner, and by the knit (S 13.3)
    ∷ (
      146,
      leaves plain (at 0 3 240 ∷ []) (at 0 2 960 ∷ at 0 4 960 ∷ at 1 2 480 ∷ at 1 3 960 ∷ at 1 4 480 ∷ []),
    )
    ∷ (146, leaves plain (at 0 0 240 ∷ []) (at 0 1 1536 ∷ at 1 0 1536 ∷ at 1 1 768 ∷ []))
    ∷ (
      146,
      leaves ribbed (at 3 1 237 ∷ at 6 2 132 ∷ [])
          (at 2 1 1152 ∷ at 3 0 1152 ∷ at 3 2 1152 ∷ at 4 1 1152
          ∷ at 5 2 7872 ∷ at 6 1 7872 ∷ at 6 3 7872 ∷ at 7 2 7872 ∷ []),
    )
    -- the call, and a grey past the map that is not looked at; a debt above 0, and one below (S 13.5)
    ∷ (147, call_runs plain (at 2 7 239 ∷ at 7 2 240 ∷ []) 2 (minus 7936))
    ∷ (147, call_runs ribbed (at 3 3 127 ∷ []) 0 (pos 32512))
    -- its refusals in turn, each with all behind it bad too; 16 is not too small (S 5.2, S 13.5)
    ∷ (148, call_refuses 3 2 [] 0 0 0 1 && call_refuses 8 2 [] 0 0 0 14 && call_refuses 2 2 [] 0 0 0 14)
    ∷ (148, call_refuses 16 2 (241 ∷ replicate 254 0) 340 255 255 11)
    ∷ (148, call_refuses 16 1 (241 ∷ replicate 254 0) 340 255 255 2)
    ∷ (148, call_refuses 16 1 (241 ∷ replicate 255 0) 340 255 255 3)
    ∷ (148, call_refuses 16 1 (241 ∷ replicate 255 0) 341 255 255 4)
    ∷ (148, call_refuses 16 1 (241 ∷ replicate 255 0) 341 256 255 4)
    ∷ (148, call_refuses 16 1 (replicate 255 0 ++ 241 ∷ []) 341 256 256 12)
    -- the program: a list; an input that is too long, one that is no map text, sides 3, 64 and 8, and a high grey
    -- (S 14.6)
    ∷ (149, same (two_heads_text (text_of (at 0 3 240 ∷ []))) list_one)
    ∷ (149, text_refuses (replicate 4100 48) (57 ∷ []) && text_refuses (replicate 4099 48) (55 ∷ []))
    ∷ (149, text_refuses (51 ∷ 10 ∷ []) (49 ∷ []) && text_refuses (54 ∷ 52 ∷ 10 ∷ []) (50 ∷ []))
    ∷ (149, text_refuses (map_text 8 (replicate 64 0)) (49 ∷ 52 ∷ []))
    ∷ (149, text_refuses (text_of (at 15 15 241 ∷ [])) (49 ∷ 50 ∷ []))
    ∷ []

-- no row is lost
pub head_plates_there : length head_plates ≡ 37
unfolding head_plates
head_plates_there = refl

pub head_plates_hold : first_failing head_plates ≡ 0
unfolding sum_to all_to tabulate_from joined repeated eq_z start place_in row_at column_at level_of in_level entry four
    coarser pyramid_over grey_at candidate first_of_equals better largest descend weights_of places_in_turn kernel_of
    within on_map weight_at share diffuse top_of model_start missing place_dot power_up_to power_of lowest greys_refusal
    none_high low_map interleaved row_of column_of quarter_entry quarter_level rows_from quarters_from relaid as_rows
    as_quarters digits_up_to decimal line line_ends is_digit digits_then field_of rows_text map_text values_of
    read_numbers read_text read_low dot_lines drill_text refused_text same same_z said_as refuses says first_failing
    block_sums macroblock_sum wanted clear burns work work_all macroblocks rounds most_rounds two_heads_in two_heads
    two_heads_refusal two_heads_of two_heads_by_quarters two_heads_list two_heads_text map_of runs below leaves
    corners_of corners call_of call_refuses call_runs text_of text_refuses list_one head_plates
head_plates_hold = refl
