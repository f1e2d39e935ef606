-- The rows for the second knit, `knit_plates`: ribbed cloth, where only straight neighbours have a weight.
use Rattle.std.specs.Prelude.{Bool, ◌&&◌, List, [], ◌∷◌, ◌++◌, map, ℕ, eqb, replicate, pos}
use Rattle.definition.specs.Lists.{sum_to, tabulate_from}
use Rattle.definition.specs.Answers.{finished, more}
use Rattle.definition.specs.Diffusion.{plain, ribbed, kernel_of, weight_at}
use Rattle.definition.specs.Refusals.{Row}
use Rattle.definition.specs.Advance.{advance_of}
use Rattle.definition.specs.Text.{line}
use Rattle.definition.specs.MapText.{map_text}
use Rattle.definition.specs.QuotePage.{quote_text}
use Rattle.definition.specs.Plate.{plate_of}
use Rattle.definition.specs.Quote.{quote_of}
use Rattle.definition.specs.PlateTools.{
  same,
  minus,
  refuses,
  loaded_on,
  after_on,
  answers_on,
  leaves_on,
  shares_on,
  p2,
  p3,
  p6,
}
use Rattle.definition.specs.Expected.{
  greys4,
  order_ribbed4,
  serials_ribbed4,
  pyramid_ribbed4,
  greys8,
  order_ribbed8,
  serials_ribbed8,
  pyramid_ribbed8,
  order_ribbed2,
  serials_ribbed2,
  pyramid_ribbed2,
}

-- the weights of the nine places around a cell of side 4, in the order of the spread, and the sum of them
abbrev weights : ℕ → ℕ → List ℕ
weights row column = tabulate_from 0 9 (weight_at (kernel_of ribbed) 2 row column)

abbrev weight_sum : ℕ → ℕ → ℕ → ℕ
weight_sum knit row column = sum_to 9 (weight_at (kernel_of knit) 2 row column)

-- P3 loaded for a knit has it in its record, and after a call of one dot and one that is refused still has it
unfoldable pub keeps_knit : ℕ → Bool
keeps_knit knit =
    let held = after_on knit 1 p3 (1 ∷ []) in
    let refused = advance_of held.progress 1 [] [] [] in
    eqb (loaded_on knit 1 p3).progress.knit knit && eqb held.progress.knit knit
    && refuses refused.reply.said 3 && eqb refused.reply.progress.knit knit

-- a map of side 2 whose second dot is at (1, 1) on plain cloth, and at (0, 1) on ribbed: the first, at (1, 0), takes
-- from (0, 1) on plain cloth alone
unfoldable pub other_cell : List ℕ
other_cell = 0 ∷ 100 ∷ 160 ∷ 128 ∷ []

unfoldable pub knit_plates : List Row
knit_plates =
    -- the weights inside, on the top side and in the top left corner; and what they sum to, for either knit (S 3.5,
    -- S 3.6)
    (90, same (weights 1 1) (replicate 4 0 ++ 1 ∷ 1 ∷ 1 ∷ 1 ∷ 0 ∷ []))
    ∷ (90, same (weights 0 1) (replicate 5 0 ++ 1 ∷ 1 ∷ 1 ∷ 0 ∷ []))
    ∷ (90, same (weights 0 0) (replicate 6 0 ++ 1 ∷ 1 ∷ 0 ∷ []))
    ∷ (91, eqb (weight_sum plain 1 1) 12 && eqb (weight_sum plain 0 1) 8 && eqb (weight_sum plain 0 0) 5)
    ∷ (91, eqb (weight_sum ribbed 1 1) 4 && eqb (weight_sum ribbed 0 1) 3 && eqb (weight_sum ribbed 0 0) 2)
    -- as P7, P8 and P9: shares of 13 inside, of 7 on the top side, of 4 in the top left corner (S 3.7)
    ∷ (92, same (shares_on ribbed 2 1 1 13) (3 ∷ 3 ∷ 3 ∷ 4 ∷ []))
    ∷ (92, same (shares_on ribbed 2 0 1 7) (2 ∷ 2 ∷ 3 ∷ []) && same (shares_on ribbed 2 0 0 4) (2 ∷ 2 ∷ []))
    -- as P3: debts after one dot 0, 16,512, 16,512, 32,768; after the second 0, 256, 256, 0, top 512, finished; and the
    -- same by the reference (S 3.5, S 7.3)
    ∷ (
      93,
      leaves_on ribbed 1 p3 (1 ∷ []) (pos 65792 ∷ pos 0 ∷ pos 16512 ∷ pos 16512 ∷ pos 32768 ∷ [])
          (1 ∷ 0 ∷ 0 ∷ 0 ∷ []) (0 ∷ 0 ∷ 0 ∷ 0 ∷ []),
    )
    ∷ (
      93,
      leaves_on ribbed 1 p3 (9 ∷ []) (map pos (512 ∷ 0 ∷ 256 ∷ 256 ∷ 0 ∷ []))
          (1 ∷ 0 ∷ 0 ∷ 2 ∷ []) (0 ∷ 3 ∷ 0 ∷ 0 ∷ []),
    )
    ∷ (93, leaves_on ribbed 1 p3 (9 ∷ []) pyramid_ribbed2 serials_ribbed2 order_ribbed2)
    ∷ (93, answers_on ribbed 1 p3 (0 ∷ 1 ∷ 1 ∷ []) ((0, more) ∷ (1, more) ∷ (1, finished) ∷ []))
    -- as P2 and P6: the last two dots press on the first two alone; one dot, which presses on its straight neighbours
    ∷ (
      94,
      leaves_on ribbed 1 p2 (9 ∷ []) (minus 15360 ∷ minus 7680 ∷ pos 0 ∷ pos 0 ∷ minus 7680 ∷ [])
          (1 ∷ 3 ∷ 4 ∷ 2 ∷ []) (0 ∷ 3 ∷ 1 ∷ 2 ∷ []),
    )
    ∷ (
      94,
      leaves_on ribbed 1 p6 (9 ∷ []) (minus 32512 ∷ pos 0 ∷ minus 16256 ∷ minus 16256 ∷ pos 0 ∷ [])
          (1 ∷ 0 ∷ 0 ∷ 0 ∷ []) (0 ∷ 0 ∷ 0 ∷ 0 ∷ []),
    )
    -- the maps of side 4 and 8 run to their end, as rows 13 and 15 (S 3.5, S 3.9)
    ∷ (95, leaves_on ribbed 2 greys4 (1 ∷ 0 ∷ 3 ∷ 99 ∷ []) pyramid_ribbed4 serials_ribbed4 order_ribbed4)
    ∷ (96, leaves_on ribbed 3 greys8 (99 ∷ []) pyramid_ribbed8 serials_ribbed8 order_ribbed8)
    -- the record keeps its knit (S 2.8)
    ∷ (97, keeps_knit plain && keeps_knit ribbed)
    -- a map on which the cloths part, and on which the programs print what it is on plain cloth (S 3.5, S 14.7)
    ∷ (
      98,
      same (after_on plain 1 other_cell (9 ∷ [])).order (2 ∷ 3 ∷ 0 ∷ 0 ∷ 9 ∷ [])
          && same (after_on ribbed 1 other_cell (9 ∷ [])).order (2 ∷ 1 ∷ 0 ∷ 0 ∷ 9 ∷ []),
    )
    ∷ (
      98,
      same (plate_of (map_text 2 other_cell))
          (line (2 ∷ 2 ∷ []) ++ line (1 ∷ 1 ∷ 0 ∷ []) ++ line (2 ∷ 1 ∷ 1 ∷ []))
          && same (quote_of (49 ∷ 10 ∷ map_text 2 other_cell)) (quote_text 1 other_cell (0 ∷ 0 ∷ 1 ∷ 2 ∷ []) 1),
    )
    ∷ []
