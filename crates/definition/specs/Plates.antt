-- The plates, computed on the definitions: P1 to P12 as one table, `plates`; further plates, whose figures the
-- reference wrote, as another, `further_plates`; as a third a row for each point that these leave open,
-- `single_plates`; and those of the other plate modules. `plates_hold` proves them all. Rows that make holes ask the
-- calls and the model.
use Rattle.std.specs.Prelude.{◌≡◌, refl, Bool, true, false, cond, not, ◌&&◌, List, [], ◌∷◌, ◌++◌, map, ℕ, ◌+◌, ◌*◌, ◌/◌}
use Rattle.std.specs.Prelude.{◌^◌, eqb, length, set, take, replicate, ℤ, pos, ◌+ℤ◌}
use Rattle.definition.specs.Lists.{sum_to, sum_z_to, all_to, tabulate_from, joined, repeated, eq_z}
use Rattle.definition.specs.Answers.{Said, finished, more, comparison, refused, number_of, Compared}
use Rattle.definition.specs.Answers as Answers
use Rattle.definition.specs.Pyramid.{
  start,
  needed,
  cell_count,
  place_in,
  row_at,
  column_at,
  level_of,
  in_level,
  entry,
  four,
  coarser,
  pyramid_over,
}
use Rattle.definition.specs.Blocks.{
  block_sum,
  block_sum_z,
  grey_at,
  burnt,
  burnt_at,
  grey_sum,
  grey_total,
  dots_in,
  all_dots,
}
use Rattle.definition.specs.Descent.{
  candidate,
  first_of_equals,
  last_of_equals,
  of_equals,
  choice_of,
  better,
  largest,
  descend,
}
use Rattle.definition.specs.Diffusion.{
  plain,
  ribbed,
  weights_of,
  places_in_turn,
  kernel_of,
  within,
  on_map,
  weight_at,
  share,
  diffuse,
}
use Rattle.definition.specs.Model.{top_of, model_start, missing, place_dot, step, steps}
use Rattle.definition.specs.Sound.{
  burnt_near,
  every_entry,
  few_dots,
  numbered,
  counted,
  unused,
  summed,
  bounded,
  owing,
  is_sound,
}
use Rattle.definition.specs.Refusals.{Row, power_up_to, power_of, lowest, greys_refusal}
use Rattle.definition.specs.Lowering.{none_high, lowered}
use Rattle.definition.specs.Load.{low_map, load_refusal, loaded, load_of}
use Rattle.definition.specs.Advance.{Reply, dots_due, said_at, sheet_in, advance_refusal, advanced, advance_of}
use Rattle.definition.specs.Survey.{tally_refusal, tally_of, error_at, squared, level_sum, levels_refusal, levels_of}
use Rattle.definition.specs.Text.{
  digits_up_to,
  decimal,
  right_aligned,
  line,
  line_ends,
  is_digit,
  digits_then,
  field_of,
  TextOutcome,
  text_into,
}
use Rattle.definition.specs.MapText.{rows_text, map_text, values_of, read_numbers, read_text, read_low, map_text_of}
use Rattle.definition.specs.LowerText.{text_kept, text_lowered, lower_text_of}
use Rattle.definition.specs.DrillList.{dot_lines, drill_text, drill_list_refusal, drill_list_of}
use Rattle.definition.specs.QuotePage.{quote_cap, figures, aligned_line, quote_text, quote_page_refusal, quote_page_of}
use Rattle.definition.specs.SketchQuote.{
  paired,
  sketch_text,
  lows_of,
  highs_of,
  pairs_rise,
  caps_of,
  sketch_kept,
  sketch_quoted,
  sketch_refusal,
  sketch_quote_of,
}
use Rattle.definition.specs.Renewal.{is_near, over_these, renewed, is_small, entries_small, renewable, renewal_of}
use Rattle.definition.specs.Sample.{next_state, grey_of, sample_greys, state_after, sample_of, sample_text}
use Rattle.definition.specs.Plate.{refused_text, finished_of, plate_of}
use Rattle.definition.specs.Quote.{quote_of_map, quote_of_text, behind_level, quote_of}
use Rattle.definition.specs.Convert.{convert_of}
use Rattle.definition.specs.Sketch.{cap_line, sketch_page, sketch_of_text}
use Rattle.definition.specs.Shelf.{
  pattern,
  first_difference,
  compared,
  compare_refusal,
  compare_of,
  plate_at,
  is_before,
  insert,
  in_order,
  shelf_refusal,
  shelf_of,
}
use Rattle.definition.specs.Quarters.{
  interleaved,
  row_of,
  column_of,
  quarter_entry,
  quarter_level,
  rows_from,
  quarters_from,
  relaid,
  as_rows,
  as_quarters,
}
use Rattle.definition.specs.ByQuarters.{
  load_by_quarters,
  advance_by_quarters,
  drill_list_by_quarters,
  restore_by_quarters,
  renewal_by_quarters,
  relay_refusal,
  relay_of,
}
use Rattle.definition.specs.AdvanceList.{
  held_after_load,
  call_of,
  held_after,
  outcomes_of,
  held_after_calls,
  replies_of,
  model_refusal,
  model_call,
  model_reply,
  model_after_calls,
  model_replies,
}
use Rattle.definition.specs.Checkpoints.{
  is_name,
  kept_at,
  keep_refusal,
  keep_of,
  can_restore,
  restore_refusal,
  restored,
  restore_of,
}
use Rattle.definition.specs.Stages.{
  caller_at_first,
  return_of,
  caller_after,
  act,
  caller_after_all,
  memory_at_first,
  sheet_at,
  is_kept,
  model_return_refusal,
  or_else,
  model_return,
  model_act,
  memory_after_all,
  count_of,
  counts_of,
}
use Rattle.definition.specs.PlateTools.{
  same,
  same_z,
  compared_as,
  said_as,
  refuses,
  minus,
  loaded_on,
  calls_of,
  after_on,
  model_after_on,
  replied,
  answers_on,
  leaves_on,
  shares_from,
  shares_on,
  loaded_map,
  after,
  answers,
  leaves,
  shares,
  on_plain,
  p1,
  p2,
  p3,
  p6,
  says,
  top_only,
}
use Rattle.definition.specs.StagePlates.{
  keeps,
  keep_refuses,
  restores_p3,
  is_after,
  goes_back_on,
  stays_there_on,
  restores,
  two_kept,
  leaves_stage_on,
  kept_three,
  stage_plates,
}
use Rattle.definition.specs.KnitPlates.{keeps_knit, other_cell, knit_plates}
use Rattle.definition.specs.SpreadPlates.{spreads, spread_plates}
use Rattle.definition.specs.LayoutPlates.{
  advances4,
  lists4,
  restores4,
  apart,
  renews_quarters8,
  relays4,
  relay_refused,
  layout_plates,
}
use Rattle.definition.specs.LowPlates.{
  loads_high,
  loads_nothing,
  restores_high,
  reads_nothing,
  lowers_nothing,
  lowers,
  high_text,
  low_text,
  over_text,
  refused_high,
  refused_text7,
  low_plates,
}
use Rattle.definition.specs.SketchPlates.{
  sketches_nothing,
  sketches,
  text_two,
  first_pair,
  last_pair,
  page_two,
  page_four,
  refused_fall,
  sketch_refuses,
  sketch_plates,
}
use Rattle.definition.specs.declared.Progress.{Progress}
use Rattle.definition.specs.declared.Refusal.TheVariants as Refusal
use Rattle.definition.specs.Expected.{
  greys4,
  order4,
  serials4,
  pyramid4,
  quarters4,
  levels4,
  greys8,
  order8,
  serials8,
  pyramid8,
  quarters8,
  levels8,
  greys_flat4,
  order_flat4,
  serials_flat4,
  pyramid_flat4,
  levels_flat4,
  order_ribbed2,
  serials_ribbed2,
  pyramid_ribbed2,
  order_ribbed4,
  serials_ribbed4,
  pyramid_ribbed4,
  order_ribbed8,
  serials_ribbed8,
  pyramid_ribbed8,
  quarters_ribbed8,
}

-- a map of side 2 with the sum of greys G comes to n holes, and so does the price list's floor((2G + 255) / 510)
unfoldable pub total : List ℕ → ℕ → ℕ → Bool
total greys G n =
    eqb (grey_total 1 greys) G && answers 1 greys (9 ∷ []) ((n, finished) ∷ []) && eqb ((2 * G + 255) / 510) n

unfoldable pub plates : List Row
plates =
    -- P1: no grey, so no hole, and finished at once (S 17.1)
    (1, answers 1 p1 (9 ∷ []) ((0, finished) ∷ []))
    -- P2, four greys of 240: a hole in each cell, by turns across (S 17.2, S 3.3); its sheet after two holes and after
    -- four
    ∷ (2, answers 1 p2 (9 ∷ []) ((4, finished) ∷ []))
    ∷ (
      2,
      leaves 1 p2 (2 ∷ []) (pos 115200 ∷ minus 921 ∷ pos 58061 ∷ pos 58060 ∷ pos 0 ∷ [])
          (1 ∷ 0 ∷ 0 ∷ 2 ∷ []) (0 ∷ 3 ∷ 0 ∷ 0 ∷ []),
    )
    ∷ (
      2,
      leaves 1 p2 (9 ∷ []) (minus 15360 ∷ minus 7274 ∷ minus 1732 ∷ pos 0 ∷ minus 6354 ∷ [])
          (1 ∷ 3 ∷ 4 ∷ 2 ∷ []) (0 ∷ 3 ∷ 1 ∷ 2 ∷ []),
    )
    -- P3, the greys 128 on a map of side 2: its sheet with one hole, then with both, finished (S 17.3, S 3.4, S 2.7)
    ∷ (
      3,
      leaves 1 p3 (1 ∷ []) (map pos (65792 ∷ 0 ∷ 19763 ∷ 19763 ∷ 26266 ∷ []))
          (1 ∷ 0 ∷ 0 ∷ 0 ∷ []) (0 ∷ 0 ∷ 0 ∷ 0 ∷ []),
    )
    ∷ (
      3,
      leaves 1 p3 (9 ∷ []) (pos 512 ∷ minus 7802 ∷ pos 4157 ∷ pos 4157 ∷ pos 0 ∷ [])
          (1 ∷ 0 ∷ 0 ∷ 2 ∷ []) (0 ∷ 3 ∷ 0 ∷ 0 ∷ []),
    )
    ∷ (3, answers 1 p3 (9 ∷ []) ((2, finished) ∷ []))
    -- P4: P3 in three calls (S 17.3, S 7.3)
    ∷ (4, answers 1 p3 (0 ∷ 1 ∷ 1 ∷ []) ((0, more) ∷ (1, more) ∷ (1, finished) ∷ []))
    -- P5: a single grey of 127 is less than half a hole (S 17.1, S 3.1)
    ∷ (5, answers 1 (127 ∷ 0 ∷ 0 ∷ 0 ∷ []) (9 ∷ []) ((0, finished) ∷ []))
    -- P6, a single dark cell: the sheet with its one hole (S 17.4, S 3.7)
    ∷ (6, answers 1 p6 (9 ∷ []) ((1, finished) ∷ []))
    ∷ (
      6,
      leaves 1 p6 (9 ∷ []) (minus 32512 ∷ pos 0 ∷ minus 13005 ∷ minus 13005 ∷ minus 6502 ∷ [])
          (1 ∷ 0 ∷ 0 ∷ 0 ∷ []) (0 ∷ 0 ∷ 0 ∷ 0 ∷ []),
    )
    -- P7: what the eight around an inner cell get of 13, in turn (S 17.5, S 3.7)
    ∷ (7, same (shares 2 1 1 13) (1 ∷ 1 ∷ 1 ∷ 1 ∷ 2 ∷ 2 ∷ 2 ∷ 3 ∷ []))
    -- P8: what the five around a cell of the top row get of 7 (S 17.5, S 3.7)
    ∷ (8, same (shares 2 0 1 7) (0 ∷ 1 ∷ 2 ∷ 2 ∷ 2 ∷ []))
    -- P9: what the three around the first cell get of 4 (S 17.5, S 3.7)
    ∷ (9, same (shares 2 0 0 4) (0 ∷ 2 ∷ 2 ∷ []))
    -- P10: the holes of the grey sums 382 and 383 (S 17.6, S 15.3)
    ∷ (10, total (240 ∷ 142 ∷ 0 ∷ 0 ∷ []) 382 1 && total (240 ∷ 143 ∷ 0 ∷ 0 ∷ []) 383 2)
    -- P11: Levels of P3 at its end (S 17.6, S 8.2)
    ∷ (11, same (levels_of 2 p3 (after 1 p3 (9 ∷ [])).serials).sums (4 ∷ 65026 ∷ 0 ∷ 0 ∷ 0 ∷ 0 ∷ 0 ∷ 0 ∷ 0 ∷ []))
    -- P12: what Load makes of P3, but with a top that is 1 too large (S 17.6, S 4.5)
    ∷ (
      12,
      refuses
          (advance_of (on_plain 2 0) 9 (set (loaded_map 1 p3).pyramid 0 (pos 131073)) (loaded_map 1 p3).serials
          (loaded_map 1 p3).order).reply.said 5,
    )
    ∷ []

-- "2", "128,128", "128,128", and "2,2", "1,0,0", "2,1,1", each line with its end
unfoldable pub text_p3 : List ℕ
text_p3 = 50 ∷ 10 ∷ 49 ∷ 50 ∷ 56 ∷ 44 ∷ 49 ∷ 50 ∷ 56 ∷ 10 ∷ 49 ∷ 50 ∷ 56 ∷ 44 ∷ 49 ∷ 50 ∷ 56 ∷ 10 ∷ []

unfoldable pub list_p3 : List ℕ
list_p3 = 50 ∷ 44 ∷ 50 ∷ 10 ∷ 49 ∷ 44 ∷ 48 ∷ 44 ∷ 48 ∷ 10 ∷ 50 ∷ 44 ∷ 49 ∷ 44 ∷ 49 ∷ 10 ∷ []

-- Drill List of P3 finished, into a buffer of n places with 7s in them
unfoldable pub listed : ℕ → TextOutcome
listed n =
    let held = after 1 p3 (9 ∷ []) in
    drill_list_of held.progress held.pyramid held.serials held.order (replicate n 7)

-- a line of P3's quote page: "  a   b      xyz     h     c"
unfoldable pub line_p3 : ℕ → ℕ → ℕ → ℕ → ℕ → ℕ → ℕ → List ℕ
line_p3 a b x y z h c =
    32 ∷ 32 ∷ (48 + a) ∷ 32 ∷ 32 ∷ 32 ∷ (48 + b) ∷ replicate 6 32 ++ (48 + x) ∷ (48 + y) ∷ (48 + z) ∷ replicate 5 32
    ++ (48 + h) ∷ replicate 5 32 ++ (48 + c) ∷ 10 ∷ []

-- the quote page of P3 finished, into a buffer of n places with 7s in them
unfoldable pub quoted : ℕ → ℕ → TextOutcome
quoted level n = quote_page_of 2 p3 (after 1 p3 (9 ∷ [])).serials level (replicate n 7)

-- Advance on an unburnt sheet of side 2 whose first cell owes w and the others nothing
unfoldable pub owed_with : ℕ → ℕ → Reply
owed_with budget w =
    let pyramid = pos w ∷ pos w ∷ replicate 3 (pos 0) in
    (advance_of (on_plain 2 0) budget pyramid p1 p1).reply

abbrev pub owed : ℕ → Reply
owed w = owed_with 9 w

-- Advance on a sheet of side 2 with one hole made: these serials and this order; the first two cells owe y and z, the
-- others −1 each; the top is `off` too much
unfoldable pub altered : ℕ → List ℕ → List ℕ → ℤ → ℤ → Reply
altered off serials order y z =
    (advance_of (on_plain 2 1) 9
    ((y +ℤ z +ℤ minus 2 +ℤ pos off) ∷ y ∷ z ∷ minus 1 ∷ minus 1 ∷ []) serials order).reply

-- a pyramid one place longer than needed: these entries above level r, whose cells are `cells`, and a 7 behind them
abbrev pub with_cells : List ℤ → List ℤ → List ℤ
with_cells above cells = above ++ cells ++ pos 7 ∷ []

-- the renewal around a cell of side 4 with the debts 1 to 16, where all entries above are 9, leaves this top and this
-- level 1
unfoldable pub renews4 : ℕ → ℕ → ℕ → List ℕ → Bool
renews4 row column top level =
    let cells = tabulate_from 1 16 pos in
    let outcome = renewal_of 4 row column (with_cells (replicate 5 (pos 9)) cells) in
    outcome.0 && same_z outcome.1 (with_cells (pos top ∷ map pos level) cells)

-- the same of side 8 with debts of 1, as top, level 1 and level 2
unfoldable pub renews8 : ℕ → ℕ → List ℕ → Bool
renews8 row column above =
    let cells = replicate 64 (pos 1) in
    let outcome = renewal_of 8 row column (with_cells (replicate 21 (pos 9)) cells) in
    outcome.0 && same_z outcome.1 (with_cells (map pos above) cells)

-- no renewal here: the pyramid stays
unfoldable pub left_alone : ℕ → ℕ → ℕ → List ℤ → Bool
left_alone side row column pyramid =
    let outcome = renewal_of side row column pyramid in not outcome.0 && same_z outcome.1 pyramid

-- the sample of side 2 from a seed on, into a buffer of five places with 7s in them, reaches this state and leaves
-- these greys
unfoldable pub samples : ℕ → ℕ → List ℕ → Bool
samples seed state greys =
    let outcome = sample_of seed 2 (replicate 5 7) in
    same (said_as outcome.said) (0 ∷ state ∷ []) && same outcome.greys (greys ++ 7 ∷ [])

-- "32", "60,94,129,180," ..: what the program `sample` prints first
unfoldable pub sample_begins : List ℕ
sample_begins = 51 ∷ 50 ∷ 10 ∷ 54 ∷ 48 ∷ 44 ∷ 57 ∷ 52 ∷ 44 ∷ 49 ∷ 50 ∷ 57 ∷ 44 ∷ 49 ∷ 56 ∷ 48 ∷ 44 ∷ []

unfoldable pub further_plates : List Row
further_plates =
    -- the map of side 4 run to its end in one call, and in several (S 3.2, S 3.4, S 3.8, S 3.9, S 15.2)
    (
      13,
      leaves 2 greys4 (99 ∷ []) pyramid4 serials4 order4
          && leaves 2 greys4 (1 ∷ 0 ∷ 3 ∷ 99 ∷ []) pyramid4 serials4 order4,
    )
    -- its Levels (S 8.2)
    ∷ (14, same (levels_of 4 greys4 serials4).sums levels4)
    -- the same of side 8 (S 3.2, S 3.4, S 3.8, S 3.9, S 2.4)
    ∷ (15, leaves 3 greys8 (99 ∷ []) pyramid8 serials8 order8)
    -- and its Levels (S 8.2)
    ∷ (16, same (levels_of 8 greys8 serials8).sums levels8)
    -- the program's example, whose input is the one text of its map (S 14.1, S 6.2)
    ∷ (17, same (plate_of text_p3) list_p3 && same (map_text 2 p3) text_p3)
    -- Drill List leaves the byte past its list (S 9.3, S 6.6, S 6.1)
    ∷ (18, same (said_as (listed 17).said) (0 ∷ 16 ∷ []) && same (listed 17).output (list_p3 ++ 7 ∷ []))
    -- refusals, the lowest number first: Load (S 5.2)
    ∷ (
      19,
      refuses (load_of 3 plain [] [] [] []).said 1 && refuses (load_of 2 plain (0 ∷ []) [] [] []).said 2
          && refuses (load_of 2 plain p1 [] [] []).said 3,
    )
    ∷ (
      20,
      refuses (load_of 2 plain p1 (replicate 5 (pos 0)) p1 []).said 4
          && refuses (load_of 512 plain p1 [] [] []).said 1,
    )
    -- Tally: a burnt cell counts, and an unburnt one does not (S 8.1, S 2.10)
    ∷ (
      21,
      same (said_as (tally_of 2 (0 ∷ 7 ∷ 0 ∷ 0 ∷ []) 1 0 1)) (0 ∷ 1 ∷ [])
          && same (said_as (tally_of 2 (0 ∷ 7 ∷ 0 ∷ 0 ∷ []) 1 1 0)) (0 ∷ 0 ∷ []),
    )
    -- its refusals, then those of Levels and Drill List (S 5.2)
    ∷ (
      22,
      refuses (tally_of 0 [] 0 0 0) 1 && refuses (tally_of 2 (0 ∷ []) 2 0 0) 4 && refuses (tally_of 2 p1 2 0 0) 6
          && refuses (tally_of 2 p1 0 0 1) 6,
    )
    ∷ (
      23,
      refuses (levels_of 2 (0 ∷ []) []).said 2 && refuses (levels_of 2 p1 []).said 4
          && refuses (listed 15).said 8,
    )
    -- Map Text (S 5.2, S 6.4)
    ∷ (
      24,
      refuses (map_text_of (48 ∷ 50 ∷ 10 ∷ []) []).said 7 && refuses (map_text_of (51 ∷ 10 ∷ []) []).said 1
          && refuses (map_text_of text_p3 (0 ∷ 0 ∷ 0 ∷ [])).said 2,
    )
    -- Map Text refuses a text with a byte more, and leaves the place past its greys (S 6.2, S 9.1, S 2.9)
    ∷ (
      25,
      refuses (map_text_of (text_p3 ++ 10 ∷ []) p1).said 7
          && same (map_text_of text_p3 (replicate 5 6)).greys (p3 ++ 6 ∷ []),
    )
    -- the threshold itself, on a sheet that no Load made: with a top of 32,640 one hole is due, with 32,639 none
    -- (S 3.1, S 7.5)
    ∷ (26, replied ((1, finished) ∷ []) (owed 32640 ∷ []) && replied ((0, finished) ∷ []) (owed 32639 ∷ []))
    -- a sound sheet with one hole, beside which the cells may be below 0 (S 4.7); and with one condition broken at a
    -- time, each gives 5
    ∷ (27, replied ((0, finished) ∷ []) (altered 0 (1 ∷ 0 ∷ 0 ∷ 0 ∷ []) (0 ∷ 0 ∷ 0 ∷ 0 ∷ []) (pos 0) (minus 1) ∷ []))
    -- the order (S 4.2)
    ∷ (28, refuses (altered 0 (1 ∷ 0 ∷ 0 ∷ 0 ∷ []) (1 ∷ 0 ∷ 0 ∷ 0 ∷ []) (pos 0) (minus 1)).said 5)
    -- the count (S 4.3)
    ∷ (29, refuses (altered 0 (1 ∷ 0 ∷ 0 ∷ 5 ∷ []) (0 ∷ 0 ∷ 0 ∷ 0 ∷ []) (pos 0) (minus 1)).said 5)
    -- the unused places (S 4.4)
    ∷ (30, refuses (altered 0 (1 ∷ 0 ∷ 0 ∷ 0 ∷ []) (0 ∷ 3 ∷ 0 ∷ 0 ∷ []) (pos 0) (minus 1)).said 5)
    -- the sums (S 4.5)
    ∷ (31, refuses (altered 1 (1 ∷ 0 ∷ 0 ∷ 0 ∷ []) (0 ∷ 0 ∷ 0 ∷ 0 ∷ []) (pos 0) (minus 1)).said 5)
    -- the two upper bounds (S 4.6)
    ∷ (32, refuses (altered 0 (1 ∷ 0 ∷ 0 ∷ 0 ∷ []) (0 ∷ 0 ∷ 0 ∷ 0 ∷ []) (pos 0) (pos 65281)).said 5)
    ∷ (33, refuses (altered 0 (1 ∷ 0 ∷ 0 ∷ 0 ∷ []) (0 ∷ 0 ∷ 0 ∷ 0 ∷ []) (pos 1) (minus 1)).said 5)
    -- the lower one (S 4.7)
    ∷ (34, refuses (altered 0 (1 ∷ 0 ∷ 0 ∷ 0 ∷ []) (0 ∷ 0 ∷ 0 ∷ 0 ∷ []) (pos 0) (minus 65281)).said 5)
    -- the quote page: P3's of level 0, with the byte past it, and of level 1 (S 8.4, S 6.5, S 6.6)
    ∷ (
      36,
      same (said_as (quoted 0 30).said) (0 ∷ 29 ∷ [])
          && same (quoted 0 30).output (line_p3 0 0 5 1 2 2 4 ++ 7 ∷ []),
    )
    ∷ (
      37,
      same (quoted 1 116).output
          (line_p3 0 0 1 2 8 1 1 ++ line_p3 0 1 1 2 8 0 1 ++ line_p3 1 0 1 2 8 0 1 ++ line_p3 1 1 1 2 8 1 1),
    )
    -- the cap where the quotient is just below a whole number, just above it, and above s² (S 8.3)
    ∷ (38, eqb (quote_cap 2 85) 3 && eqb (quote_cap 2 86) 4 && eqb (quote_cap 2 1020) 4)
    -- the page's refusals, the lowest number first (S 5.2)
    ∷ (
      39,
      refuses (quote_page_of 3 [] [] 9 []).said 1 && refuses (quote_page_of 2 (0 ∷ []) [] 2 []).said 2
          && refuses (quote_page_of 2 p1 (0 ∷ []) 2 []).said 4,
    )
    ∷ (
      40,
      refuses (quoted 2 0).said 6 && refuses (quoted 1 115).said 8
          && same (quoted 0 28).output (replicate 28 7),
    )
    -- the renewal on a wrong pyramid: under one entry of level 1, under two, under all four; with a level more (S 12.3,
    -- S 3.8, S 2.4)
    ∷ (
      41,
      renews4 0 0 41 (14 ∷ 9 ∷ 9 ∷ 9 ∷ []) && renews4 3 3 81 (9 ∷ 9 ∷ 9 ∷ 54 ∷ [])
          && renews4 0 1 54 (14 ∷ 22 ∷ 9 ∷ 9 ∷ []),
    )
    ∷ (
      42,
      renews4 1 1 136 (14 ∷ 22 ∷ 46 ∷ 54 ∷ [])
          && renews8 2 4 (70 ∷ 26 ∷ 26 ∷ 9 ∷ 9 ∷ 9 ∷ 4 ∷ 4 ∷ 9 ∷ 9 ∷ 4 ∷ 4 ∷ 9 ∷ replicate 8 9),
    )
    -- with all entries at an end of the range, whatever lies behind; and where it is not made (S 12.3)
    ∷ (
      43,
      (renewal_of 2 1 1 (replicate 5 (pos (2 ^ 40)))).0
          && (renewal_of 2 1 1 (replicate 5 (minus (2 ^ 40)) ++ pos (2 ^ 50) ∷ [])).0,
    )
    ∷ (
      44,
      left_alone 2 0 0 (pos (2 ^ 40 + 1) ∷ replicate 4 (pos 1))
          && left_alone 2 0 0 (replicate 4 (pos 1) ++ minus (2 ^ 40 + 1) ∷ []),
    )
    ∷ (
      45,
      left_alone 2 2 0 (replicate 5 (pos 1)) && left_alone 2 0 2 (replicate 5 (pos 1))
          && left_alone 2 0 0 (replicate 4 (pos 1)) && left_alone 3 0 0 (replicate 21 (pos 1)),
    )
    -- the sample of seed 0 (S 12.1)
    ∷ (46, samples 0 2868466484 (60 ∷ 71 ∷ 209 ∷ 170 ∷ []))
    -- from the state reached, and from the largest seed (S 12.1, S 15.13)
    ∷ (
      47,
      samples 2868466484 2748932008 (98 ∷ 159 ∷ 87 ∷ 163 ∷ [])
          && samples 4294967295 2709482403 (60 ∷ 48 ∷ 34 ∷ 161 ∷ []),
    )
    -- its refusals (S 5.2)
    ∷ (
      48,
      refuses (sample_of 0 3 []).said 1 && refuses (sample_of 0 2 (7 ∷ 7 ∷ 7 ∷ [])).said 2
          && same (sample_of 0 2 (7 ∷ 7 ∷ 7 ∷ [])).greys (7 ∷ 7 ∷ 7 ∷ []),
    )
    -- what the program prints (S 14.3)
    ∷ (49, same (take 17 sample_text) sample_begins)
    ∷ []

-- ---- rows for single points
-- the number for each name of a refusal
unfoldable pub numbers : List ℕ
numbers =
    map number_of
    (Refusal.SideUnknown ∷ Refusal.GreysShort ∷ Refusal.PyramidShort ∷ Refusal.SheetShort ∷ Refusal.SheetUnsound
    ∷ Refusal.BlockUnknown ∷ Refusal.TextMalformed ∷ Refusal.OutputShort ∷ Refusal.InputLong
    ∷ Refusal.NameUnknown ∷ Refusal.KnitUnknown ∷ Refusal.GreyHigh ∷ Refusal.PairFalls
    ∷ Refusal.SideSmall ∷ [])

-- Load of a side and a knit, lent buffers of these lengths: greys, pyramid, serials, order
unfoldable pub loads : ℕ → ℕ → ℕ → ℕ → ℕ → ℕ → Said
loads side knit g p s o = (load_of side knit (replicate g 0) (replicate p (pos 0)) (replicate s 0) (replicate o 0)).said

-- Advance with the record (side, 0, knit) on such a pyramid and unburnt serials and order of these lengths
unfoldable pub advances : ℕ → ℕ → ℕ → ℕ → ℕ → ℕ → Said
advances side knit p s o top =
    let record₀ : Progress = record { side = side; dots = 0; knit = knit } in
    (advance_of record₀ 9 (top_only p top) (replicate s 0) (replicate o 0)).reply.said

-- Drill List likewise, into an output of n places
unfoldable pub lists : ℕ → ℕ → ℕ → ℕ → ℕ → ℕ → ℕ → Said
lists side knit p s o top n =
    let record₀ : Progress = record { side = side; dots = 0; knit = knit } in
    (drill_list_of record₀ (top_only p top) (replicate s 0) (replicate o 0) (replicate n 7)).said

-- three zeros: one place less than a map of side 2 has cells
abbrev pub three : List ℕ
three = replicate 3 0

-- Map Text, with room for so many greys; and a text for it: "2", a line of these bytes and ",0", and "0,0"
unfoldable pub reads : List ℕ → ℕ → Said
reads text room = (map_text_of text (replicate room 0)).said

unfoldable pub text_of_grey : List ℕ → List ℕ
text_of_grey grey = 50 ∷ 10 ∷ grey ++ 44 ∷ 48 ∷ 10 ∷ 48 ∷ 44 ∷ 48 ∷ 10 ∷ []

-- Advance on a sheet of side 4 and a knit with one hole, where cell `low` owes −1 and the others nothing: 1 if it
-- accepts that
unfoldable pub accepts_low : ℕ → ℕ → ℕ → ℕ
accepts_low knit hole low =
    let pyramid = pyramid_over 2 (set (replicate 16 (pos 0)) low (minus 1)) in
    let serials : List ℕ = set (replicate 16 0) hole 1 in
    let record₀ : Progress = record { side = 4; dots = 1; knit = knit } in
    let reply = (advance_of record₀ 0 pyramid serials (hole ∷ replicate 15 0)).reply in
    cond (refuses reply.said 5) 0 1

unfoldable pub low_beside : ℕ → ℕ → List ℕ
low_beside knit hole = tabulate_from 0 16 (accepts_low knit hole)

-- Advance without buffers gives back the record that it was given, with no hole made
unfoldable pub gives_back : ℕ → ℕ → ℕ → Bool
gives_back side dots knit =
    let reply = (advance_of (record { side = side; dots = dots; knit = knit }) 9 [] [] []).reply in
    eqb reply.progress.side side && eqb reply.progress.dots dots && eqb reply.progress.knit knit
    && eqb reply.made 0

-- the holes of a map of side 4 that is 240 at these cells and 0 elsewhere, in their order
unfoldable pub dark_at : List ℕ → List ℕ
dark_at [] = replicate 16 0
dark_at (cell ∷ cells) = set (dark_at cells) cell 240

unfoldable pub order_of : List ℕ → List ℕ
order_of cells = take (length cells) (after 2 (dark_at cells) (9 ∷ [])).order

-- what the programs print: the line "refused,n" for a number of one digit
unfoldable pub refused_line : ℕ → List ℕ
refused_line n = 114 ∷ 101 ∷ 102 ∷ 117 ∷ 115 ∷ 101 ∷ 100 ∷ 44 ∷ (48 + n) ∷ 10 ∷ []

unfoldable pub plate_refuses : List ℕ → ℕ → Bool
plate_refuses input n = same (plate_of input) (refused_line n)

unfoldable pub quote_refuses : List ℕ → ℕ → Bool
quote_refuses input n = same (quote_of input) (refused_line n)

-- "64"; "x"; "0", for a level; "2", "0,240", "0,0", and its list "1,2", "1,0,1"; the digits of 429496729 and a last one
unfoldable pub text64 : List ℕ
text64 = 54 ∷ 52 ∷ 10 ∷ []

unfoldable pub text_x : List ℕ
text_x = 120 ∷ []

unfoldable pub level0 : List ℕ
level0 = 48 ∷ 10 ∷ []

unfoldable pub text_right : List ℕ
text_right = 50 ∷ 10 ∷ 48 ∷ 44 ∷ 50 ∷ 52 ∷ 48 ∷ 10 ∷ 48 ∷ 44 ∷ 48 ∷ 10 ∷ []

unfoldable pub list_right : List ℕ
list_right = 49 ∷ 44 ∷ 50 ∷ 10 ∷ 49 ∷ 44 ∷ 48 ∷ 44 ∷ 49 ∷ 10 ∷ []

unfoldable pub ten_digits : ℕ → List ℕ
ten_digits last = 52 ∷ 50 ∷ 57 ∷ 52 ∷ 57 ∷ 54 ∷ 55 ∷ 50 ∷ 57 ∷ last ∷ 10 ∷ []

-- P3's quote page of level 1
unfoldable pub page_p3 : List ℕ
page_p3 = line_p3 0 0 1 2 8 1 1 ++ line_p3 0 1 1 2 8 0 1 ++ line_p3 1 0 1 2 8 0 1 ++ line_p3 1 1 1 2 8 1 1

-- a map with equal cells, and the debts that it is left with
unfoldable pub turns : List ℕ
turns = 240 ∷ 200 ∷ 200 ∷ 0 ∷ []

unfoldable pub turns_pyramid : List ℤ
turns_pyramid = minus 32000 ∷ minus 13742 ∷ pos 0 ∷ minus 3747 ∷ minus 14511 ∷ []

-- Compare on two sheets of side 2 says this
unfoldable pub compares : List ℕ → List ℕ → Compared → Bool
compares left right c = same (said_as (compare_of 2 left right)) (4 ∷ compared_as c)

-- a sheet of side 4 burnt in one cell
abbrev pub burnt_in : ℕ → List ℕ
burnt_in cell = set (replicate 16 0) cell 1

-- a shelf of five plates of side 2 and one place more: plates 0 and 2 are burnt alike, and plate 3 not at all
unfoldable pub five_plates : List ℕ
five_plates =
    1 ∷ 0 ∷ 0 ∷ 0
    ∷ 0 ∷ 5 ∷ 0 ∷ 0
    ∷ 3 ∷ 0 ∷ 0 ∷ 0
    ∷ 0 ∷ 0 ∷ 0 ∷ 0
    ∷ 1 ∷ 2 ∷ 0 ∷ 0
    ∷ 7 ∷ []

-- Shelf on the first n plates of side 2 of a shelf, with a list of so many places, all 9, leaves this list
unfoldable pub shelves : ℕ → List ℕ → ℕ → List ℕ → Bool
shelves n plates lent list =
    let outcome = shelf_of 2 n plates (replicate lent 9) in
    same (said_as outcome.said) (0 ∷ []) && same outcome.list list

-- Shelf with a shelf and a list of so many places refuses with a number, and leaves the list
unfoldable pub shelf_refuses : ℕ → ℕ → ℕ → ℕ → ℕ → Bool
shelf_refuses side n plates lent number =
    let outcome = shelf_of side n (replicate plates 0) (replicate lent 9) in
    refuses outcome.said number && same outcome.list (replicate lent 9)

unfoldable pub single_plates : List Row
single_plates =
    -- the numbers of the refusals (S 5.1)
    (50, same numbers (1 ∷ 2 ∷ 3 ∷ 4 ∷ 5 ∷ 6 ∷ 7 ∷ 8 ∷ 9 ∷ 10 ∷ 11 ∷ 12 ∷ 13 ∷ 14 ∷ []))
    -- the powers of 1, 2, 4 .. 512 as sides, and of other numbers (S 2.1)
    ∷ (51, same (tabulate_from 0 10 (λ r. power_of (2 ^ r))) (tabulate_from 0 9 (λ r. r) ++ 0 ∷ []))
    ∷ (51, same (map power_of (0 ∷ 3 ∷ 5 ∷ 31 ∷ 33 ∷ 255 ∷ 257 ∷ [])) (replicate 7 0))
    -- some needed lengths (S 2.5, S 2.7)
    ∷ (52, eqb (needed 1) 5 && eqb (cell_count 1) 4 && eqb (needed 8) 87381 && eqb (cell_count 8) 65536)
    -- the numbers of Load, Advance and Drill List in turn: each buffer one place short, and all behind it bad too
    -- (S 5.2)
    ∷ (53, refuses (loads 3 2 3 4 3 3) 1 && refuses (loads 2 2 3 4 3 3) 11 && refuses (loads 2 0 3 4 3 3) 2)
    ∷ (53, refuses (loads 2 0 4 4 3 3) 3 && refuses (loads 2 0 4 5 3 3) 4 && refuses (loads 2 0 4 5 4 3) 4)
    ∷ (53, says (loads 2 0 4 5 4 4) [] && says (loads 2 1 4 5 4 4) [] && refuses (loads 2 4294967295 4 5 4 4) 11)
    ∷ (54, refuses (advances 3 2 4 3 3 1) 1 && refuses (advances 2 2 4 3 3 1) 11 && refuses (advances 2 0 4 3 3 1) 3)
    ∷ (54, refuses (advances 2 0 5 3 3 1) 4 && refuses (advances 2 0 5 4 3 1) 4 && refuses (advances 2 0 5 4 4 1) 5)
    ∷ (54, same (said_as (advances 2 0 5 4 4 0)) (said_as finished))
    ∷ (55, refuses (lists 3 2 4 3 3 1 3) 1 && refuses (lists 2 2 4 3 3 1 3) 11 && refuses (lists 2 0 4 3 3 1 3) 3)
    ∷ (55, refuses (lists 2 0 5 3 3 1 3) 4 && refuses (lists 2 0 5 4 3 1 3) 4 && refuses (lists 2 0 5 4 4 1 3) 5)
    ∷ (55, refuses (lists 2 0 5 4 4 0 3) 8 && says (lists 2 0 5 4 4 0 4) (4 ∷ []))
    ∷ (55, says (lists 2 1 5 4 4 0 4) (4 ∷ []))
    -- those of Tally, Levels and Quote Page (S 5.2)
    ∷ (56, refuses (tally_of 3 [] 9 0 0) 1 && refuses (tally_of 2 three 9 0 0) 4 && refuses (tally_of 2 p1 1 2 0) 6)
    ∷ (57, refuses (levels_of 3 [] []).said 1 && refuses (levels_of 2 three []).said 2)
    ∷ (57, refuses (levels_of 2 p1 three).said 4 && says (levels_of 2 p1 p1).said [])
    ∷ (58, refuses (quote_page_of 2 three three 2 []).said 2 && refuses (quote_page_of 2 p1 three 2 []).said 4)
    -- Map Text: first lines of three and of four digits (S 6.4)
    ∷ (59, refuses (reads (57 ∷ 57 ∷ 57 ∷ 10 ∷ []) 0) 1)
    ∷ (59, refuses (reads (49 ∷ 48 ∷ 48 ∷ 48 ∷ 10 ∷ []) 0) 7)
    -- its room (S 5.2)
    ∷ (60, refuses (reads (text_of_grey (48 ∷ [])) 3) 2 && says (reads (text_of_grey (48 ∷ [])) 4) (2 ∷ []))
    -- a grey of 240 and one of 256 (S 6.2)
    ∷ (61, says (reads (text_of_grey (50 ∷ 52 ∷ 48 ∷ [])) 4) (2 ∷ []))
    ∷ (61, refuses (reads (text_of_grey (50 ∷ 53 ∷ 54 ∷ [])) 4) 7)
    -- the bytes just before and just behind the digits, as a number's first and as its second (S 6.1)
    ∷ (62, refuses (reads (text_of_grey (47 ∷ [])) 4) 7 && refuses (reads (text_of_grey (58 ∷ [])) 4) 7)
    ∷ (62, refuses (reads (text_of_grey (49 ∷ 47 ∷ [])) 4) 7 && refuses (reads (text_of_grey (49 ∷ 58 ∷ [])) 4) 7)
    -- the record of a refused Load, and that of a refused Advance (S 7.2, S 7.4)
    ∷ (
      63,
      let none = (load_of 2 ribbed [] [] [] []).progress in
          eqb none.side 0 && eqb none.dots 0 && eqb none.knit 0,
    )
    ∷ (63, gives_back 3 7 0 && gives_back 2 7 1 && gives_back 2 7 9)
    -- a top of just 32,640 and a budget of 0: a hole is due still (S 3.1, S 7.3)
    ∷ (64, replied ((0, more) ∷ []) (owed_with 0 32640 ∷ []))
    ∷ (64, replied ((0, finished) ∷ []) (owed_with 0 32639 ∷ []))
    -- beside one hole, only the cells around it may owe −1: not the hole itself, and none further off (S 4.7, S 3.5)
    ∷ (65, same (low_beside plain 0) (0 ∷ 1 ∷ 0 ∷ 0 ∷ 1 ∷ 1 ∷ replicate 10 0))
    ∷ (
      65,
      same (low_beside plain 6)
          (0 ∷ 1 ∷ 1 ∷ 1 ∷ 0 ∷ 1 ∷ 0 ∷ 1 ∷ 0 ∷ 1 ∷ 1 ∷ 1 ∷ replicate 4 0),
    )
    ∷ (65, same (low_beside ribbed 6) (low_beside plain 6))
    -- the last place of the order list has to be unused too (S 4.4)
    ∷ (66, refuses (altered 0 (1 ∷ 0 ∷ 0 ∷ 0 ∷ []) (0 ∷ 0 ∷ 0 ∷ 3 ∷ []) (pos 0) (minus 1)).said 5)
    -- a list in which rows and columns differ (S 9.3, S 2.3)
    ∷ (67, same (plate_of text_right) list_right)
    -- equal quarters above the cells: of each two neighbours in the order of the walk, the first; of four, in turn the
    -- first and the last of those left (S 3.2, S 3.3)
    ∷ (68, same (order_of (0 ∷ 2 ∷ [])) (0 ∷ 2 ∷ []) && same (order_of (3 ∷ 12 ∷ [])) (3 ∷ 12 ∷ []))
    ∷ (68, same (order_of (8 ∷ 15 ∷ [])) (8 ∷ 15 ∷ []))
    ∷ (68, same (order_of (0 ∷ 3 ∷ 12 ∷ 15 ∷ [])) (0 ∷ 15 ∷ 3 ∷ 12 ∷ []))
    -- `plate`: no map text, side 3, side 64; an input of 4,099 bytes is read (this is no map text), one of 4,100 is not
    -- (S 14.1, S 14.7)
    ∷ (69, plate_refuses text_x 7 && plate_refuses (51 ∷ 10 ∷ []) 1 && plate_refuses text64 2)
    ∷ (69, plate_refuses (replicate 4099 48) 7 && plate_refuses (replicate 4100 48) 9)
    -- `quote`: P3's pages of both levels; a level too many, and the largest number of 32 bits; nothing, no number, a
    -- leading zero, a number of 33 bits; the refusals of the map text (S 14.2)
    ∷ (70, same (quote_of (level0 ++ text_p3)) (line_p3 0 0 5 1 2 2 4) && same (quote_of (49 ∷ 10 ∷ text_p3)) page_p3)
    ∷ (71, quote_refuses (50 ∷ 10 ∷ text_p3) 6 && quote_refuses (ten_digits 53 ++ text_p3) 6)
    ∷ (72, quote_refuses [] 7 && quote_refuses text_x 7 && quote_refuses (48 ∷ level0 ++ text_p3) 7)
    ∷ (72, quote_refuses (ten_digits 54 ++ text_p3) 7)
    ∷ (73, quote_refuses (level0 ++ text_x) 7 && quote_refuses (level0 ++ 51 ∷ 10 ∷ []) 1)
    ∷ (73, quote_refuses (level0 ++ text64) 2)
    -- turns, side 2: after the first hole two cells owe 49,664 each, and the second takes the later one (S 3.3)
    ∷ (74, leaves 1 turns (9 ∷ []) turns_pyramid (1 ∷ 3 ∷ 2 ∷ 0 ∷ []) (0 ∷ 2 ∷ 1 ∷ 0 ∷ []))
    -- and a flat map of side 4, in one call and in several (S 3.3, S 15.2)
    ∷ (75, leaves 2 greys_flat4 (99 ∷ []) pyramid_flat4 serials_flat4 order_flat4)
    ∷ (75, leaves 2 greys_flat4 (1 ∷ 1 ∷ 3 ∷ 99 ∷ []) pyramid_flat4 serials_flat4 order_flat4)
    ∷ (75, same (levels_of 4 greys_flat4 serials_flat4).sums levels_flat4)
    -- Compare: fewer holes come first, whatever is burnt, and no cell is named (S 11.1)
    ∷ (76, compares (1 ∷ 0 ∷ 0 ∷ 0 ∷ []) (0 ∷ 0 ∷ 1 ∷ 2 ∷ []) Answers.before)
    ∷ (76, compares (0 ∷ 0 ∷ 1 ∷ 2 ∷ []) (1 ∷ 0 ∷ 0 ∷ 0 ∷ []) Answers.after)
    -- with as many, the cell by row then column, and the plate unburnt there (S 11.1, S 15.12)
    ∷ (77, compares (0 ∷ 1 ∷ 0 ∷ 0 ∷ []) (0 ∷ 0 ∷ 1 ∷ 0 ∷ []) (Answers.after_at 0 1))
    ∷ (77, compares (0 ∷ 0 ∷ 1 ∷ 0 ∷ []) (0 ∷ 1 ∷ 0 ∷ 0 ∷ []) (Answers.before_at 0 1))
    ∷ (77, same (said_as (compare_of 4 (burnt_in 11) (burnt_in 9))) (4 ∷ compared_as (Answers.before_at 2 1)))
    -- the serials themselves and what lies past the map do not count (S 11.1, S 2.9)
    ∷ (78, compares (1 ∷ 0 ∷ 0 ∷ 2 ∷ []) (9 ∷ 0 ∷ 0 ∷ 4294967295 ∷ []) Answers.same)
    ∷ (78, compares (1 ∷ 2 ∷ 0 ∷ 0 ∷ 3 ∷ []) (2 ∷ 1 ∷ 0 ∷ 0 ∷ 0 ∷ []) Answers.same)
    -- its refusals (S 5.2)
    ∷ (79, refuses (compare_of 3 [] []) 1 && refuses (compare_of 2 three p1) 4 && refuses (compare_of 2 p1 three) 4)
    -- Shelf: five plates, the place past them left; no plate, with and without a list; one plate; two that are the same
    -- and two that are not (S 11.2, S 15.12)
    ∷ (80, shelves 5 five_plates 6 (3 ∷ 1 ∷ 0 ∷ 2 ∷ 4 ∷ 9 ∷ []))
    ∷ (81, shelves 0 [] 0 [] && shelves 0 five_plates 1 (9 ∷ []) && shelves 1 five_plates 1 (0 ∷ []))
    ∷ (81, shelves 2 (1 ∷ 0 ∷ 0 ∷ 0 ∷ 2 ∷ 0 ∷ 0 ∷ 0 ∷ []) 2 (0 ∷ 1 ∷ []))
    ∷ (81, shelves 2 five_plates 2 (1 ∷ 0 ∷ []))
    -- its refusals, the lowest number first; a shelf of 2³² places would hold just these 65,536 plates (S 5.2, S 11.2)
    ∷ (82, shelf_refuses 3 9 0 0 1 && shelf_refuses 2 2 7 1 4 && shelf_refuses 2 2 8 1 8)
    ∷ (82, shelf_refuses 256 65536 0 0 4 && shelf_refuses 256 4294967295 9 9 4)
    ∷ []

-- the number of the first row that doesn't hold; 0 if they all do
unfoldable pub first_failing : List Row → ℕ
first_failing [] = 0
first_failing (row ∷ rows) = elim row.1 [ true ↦ first_failing rows | false ↦ row.0 ]

abbrev pub all_plates : List Row
all_plates =
    plates ++ further_plates ++ single_plates ++ stage_plates ++ knit_plates ++ spread_plates ++ layout_plates
    ++ low_plates ++ sketch_plates

-- no row is lost
pub plates_there : length all_plates ≡ 244
unfolding plates further_plates single_plates stage_plates knit_plates spread_plates layout_plates low_plates
    sketch_plates
plates_there = refl

-- the plates to work by hand are in `plates` (S 17.1, S 17.2, S 17.3, S 17.4, S 17.5, S 17.6)
pub plates_hold : first_failing all_plates ≡ 0
unfolding sum_to sum_z_to all_to tabulate_from joined repeated eq_z number_of start place_in row_at column_at
    level_of in_level entry four coarser pyramid_over block_sum block_sum_z grey_at burnt burnt_at grey_sum grey_total
    dots_in all_dots candidate first_of_equals last_of_equals of_equals choice_of better largest descend weights_of
    places_in_turn kernel_of within on_map weight_at share diffuse top_of model_start missing place_dot step steps
    burnt_near every_entry few_dots numbered counted unused summed bounded owing is_sound power_up_to power_of lowest
    greys_refusal none_high lowered low_map load_refusal loaded load_of dots_due said_at sheet_in advance_refusal
    advanced advance_of tally_refusal tally_of error_at
    squared level_sum levels_refusal levels_of digits_up_to decimal right_aligned line line_ends is_digit digits_then
    field_of text_into rows_text map_text values_of read_numbers read_text read_low map_text_of text_kept
    text_lowered lower_text_of dot_lines drill_text drill_list_refusal
    drill_list_of quote_cap figures aligned_line quote_text quote_page_refusal quote_page_of is_near over_these renewed
    is_small entries_small renewable renewal_of next_state grey_of sample_greys state_after sample_of sample_text
    refused_text finished_of plate_of quote_of_map quote_of_text behind_level convert_of pattern first_difference
    compared compare_refusal compare_of plate_at is_before insert in_order shelf_refusal shelf_of held_after_load
    call_of held_after outcomes_of held_after_calls replies_of model_refusal model_call model_reply model_after_calls
    model_replies greys4 order4
    serials4 pyramid4 levels4 greys8 order8 serials8 pyramid8 levels8 greys_flat4 order_flat4 serials_flat4
    pyramid_flat4 levels_flat4 order_ribbed2 serials_ribbed2 pyramid_ribbed2 order_ribbed4 serials_ribbed4
    pyramid_ribbed4 order_ribbed8 serials_ribbed8 pyramid_ribbed8 same same_z compared_as said_as refuses loaded_on
    calls_of after_on model_after_on
    replied answers_on leaves_on shares_from shares_on total p1 p2 p3 p6 text_p3 list_p3 listed line_p3 quoted owed_with
    altered renews4
    renews8 left_alone samples sample_begins numbers says loads advances lists reads text_of_grey accepts_low
    low_beside gives_back dark_at order_of refused_line plate_refuses quote_refuses text64 text_x level0 text_right
    list_right ten_digits page_p3 turns turns_pyramid compares five_plates shelves shelf_refuses is_name kept_at
    keep_refusal keep_of can_restore restore_refusal restored restore_of keeps keep_refuses restores_p3 is_after
    goes_back_on stays_there_on restores two_kept caller_at_first return_of caller_after act caller_after_all
    memory_at_first sheet_at is_kept model_return_refusal or_else model_return model_act memory_after_all count_of
    counts_of leaves_stage_on kept_three stage_plates keeps_knit other_cell knit_plates spreads spread_plates
    interleaved row_of column_of quarter_entry quarter_level rows_from quarters_from relaid as_rows as_quarters
    load_by_quarters advance_by_quarters drill_list_by_quarters restore_by_quarters renewal_by_quarters relay_refusal
    relay_of quarters4 quarters8 quarters_ribbed8 advances4 lists4 restores4
    apart
    renews_quarters8 relays4 relay_refused layout_plates loads_high loads_nothing restores_high reads_nothing
    lowers_nothing lowers high_text low_text over_text refused_high refused_text7 low_plates paired sketch_text lows_of
    highs_of pairs_rise caps_of sketch_kept sketch_quoted sketch_refusal sketch_quote_of cap_line sketch_page
    sketch_of_text sketches_nothing sketches text_two first_pair last_pair page_two page_four refused_fall
    sketch_refuses sketch_plates plates further_plates single_plates first_failing
plates_hold = refl
