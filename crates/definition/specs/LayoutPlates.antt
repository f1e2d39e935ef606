-- The rows for the pyramid by quarters, `layout_plates`: places worked by hand, whole pyramids of side 4 and side 8
-- that the reference renamed, each call on them, and Relay. Side 2 looks alike in either layout.
use Rattle.std.specs.Prelude.{Bool, not, ◌&&◌, List, [], ◌∷◌, ◌++◌, map, ℕ, ◌/◌, ◌%◌, eqb, take, replicate, ℤ, pos}
use Rattle.definition.specs.Lists.{tabulate, tabulate_from}
use Rattle.definition.specs.Answers.{Said}
use Rattle.definition.specs.Diffusion.{ribbed}
use Rattle.definition.specs.Refusals.{Row}
use Rattle.definition.specs.Quarters.{interleaved, row_of, column_of, rows_from, quarters_from, as_rows, as_quarters}
use Rattle.definition.specs.Checkpoints.{RestoreOutcome}
use Rattle.definition.specs.ByQuarters.{
  load_by_quarters,
  advance_by_quarters,
  drill_list_by_quarters,
  restore_by_quarters,
  renewal_by_quarters,
  RelayOutcome,
  relay_of,
}
use Rattle.definition.specs.PlateTools.{same, same_z, says, refuses, after_on, after, on_plain}
use Rattle.definition.specs.Expected.{greys4, order4, serials4, pyramid4, quarters4, greys8, pyramid8, quarters8}
use Rattle.definition.specs.Expected.{quarters_ribbed8}
use Rattle.definition.specs.declared.Progress.{Progress}

-- the finished sheet of side 4 with this pyramid: Advance, Drill List into 64 bytes
abbrev pub finished4 : Progress
finished4 = on_plain 4 9

unfoldable pub advances4 : List ℤ → Said
advances4 pyramid = (advance_by_quarters finished4 0 pyramid serials4 order4).reply.said

unfoldable pub lists4 : List ℤ → Said
lists4 pyramid = (drill_list_by_quarters finished4 pyramid serials4 order4 (replicate 64 7)).said

-- Restore of its nine dots
unfoldable pub restores4 : List ℤ → RestoreOutcome
restores4 pyramid =
    restore_by_quarters finished4 (record { kept = 10 ∷ replicate 7 0 }) 1 greys4 pyramid serials4 order4

-- 22 places that all differ
unfoldable pub apart : List ℤ
apart = tabulate_from 40 22 pos

-- the renewal around a cell of side 8, by quarters, where cell place i holds i + 1 and all entries above are 9
unfoldable pub renews_quarters8 : ℕ → ℕ → List ℕ → Bool
renews_quarters8 row column above =
    let cells = tabulate_from 1 64 pos ++ pos 7 ∷ [] in
    let outcome = renewal_by_quarters 8 row column (replicate 21 (pos 9) ++ cells) in
    outcome.0 && same_z outcome.1 (map pos above ++ cells)

-- Relay of the finished sheet of side 4, of whose buffers p, s and o places are lent, into a second pyramid of n 7s
unfoldable pub relays4 : Progress → List ℤ → ℕ → ℕ → ℕ → ℕ → RelayOutcome
relays4 progress pyramid p s o n =
    relay_of progress (take p pyramid) (take s serials4) (take o order4) (replicate n (pos 7))

-- it is refused with a number, and the second pyramid keeps its 7s
unfoldable pub relay_refused : Progress → List ℤ → ℕ → ℕ → ℕ → ℕ → ℕ → Bool
relay_refused progress pyramid p s o n number =
    let outcome = relays4 progress pyramid p s o n in
    refuses outcome.said number && same_z outcome.second (replicate n (pos 7))

unfoldable pub layout_plates : List Row
layout_plates =
    -- the places of side 4, row by row; of single bits and of mixed ones, on larger levels; and back (S 2.5, S 15.14)
    (
      102,
      same (tabulate 16 (λ i. interleaved 2 (i / 4) (i % 4)))
          (0 ∷ 1 ∷ 4 ∷ 5
          ∷ 2 ∷ 3 ∷ 6 ∷ 7
          ∷ 8 ∷ 9 ∷ 12 ∷ 13
          ∷ 10 ∷ 11 ∷ 14 ∷ 15 ∷ []),
    )
    ∷ (
      103,
      eqb (interleaved 8 0 255) 21845 && eqb (interleaved 8 255 0) 43690 && eqb (interleaved 8 37 200) 22626
          && eqb (interleaved 3 5 3) 39,
    )
    ∷ (
      104,
      same (tabulate 16 (row_of 2))
          (0 ∷ 0 ∷ 1 ∷ 1 ∷ 0 ∷ 0 ∷ 1 ∷ 1
          ∷ 2 ∷ 2 ∷ 3 ∷ 3 ∷ 2 ∷ 2 ∷ 3 ∷ 3 ∷ [])
          && same (tabulate 16 (column_of 2))
          (0 ∷ 1 ∷ 0 ∷ 1 ∷ 2 ∷ 3 ∷ 2 ∷ 3
          ∷ 0 ∷ 1 ∷ 0 ∷ 1 ∷ 2 ∷ 3 ∷ 2 ∷ 3 ∷ [])
          && eqb (row_of 8 22626) 37 && eqb (column_of 8 22626) 200,
    )
    -- whole pyramids, there and back; what lies behind stays, and so does one that is a place short (S 2.5, S 2.6,
    -- S 2.9)
    ∷ (105, same_z (quarters_from 2 pyramid4) quarters4 && same_z (rows_from 2 quarters4) pyramid4)
    ∷ (106, same_z (quarters_from 3 pyramid8) quarters8 && same_z (rows_from 3 quarters8) pyramid8)
    ∷ (
      107,
      same_z (as_quarters 2 (pyramid4 ++ pos 5 ∷ [])) (quarters4 ++ pos 5 ∷ [])
          && same_z (as_rows 2 (quarters4 ++ pos 5 ∷ [])) (pyramid4 ++ pos 5 ∷ [])
          && same_z (as_quarters 2 (take 20 apart)) (take 20 apart)
          && same_z (as_rows 2 (take 20 apart)) (take 20 apart),
    )
    -- Load and Advance leave the pyramid by quarters, on either cloth (S 2.6, S 7.1, S 7.3, S 15.14)
    ∷ (108, same_z (after 2 greys4 (99 ∷ [])).pyramid (quarters4 ++ pos 9 ∷ []))
    ∷ (109, same_z (after 3 greys8 (5 ∷ 99 ∷ [])).pyramid (quarters8 ++ pos 9 ∷ []))
    ∷ (109, same_z (after_on ribbed 3 greys8 (99 ∷ [])).pyramid (quarters_ribbed8 ++ pos 9 ∷ []))
    -- a refused call leaves every place as it is (S 5.1, S 7.2, S 7.4)
    ∷ (110, same_z (load_by_quarters 4 2 greys4 apart serials4 order4).pyramid apart)
    ∷ (110, same_z (advance_by_quarters finished4 9 apart serials4 order4).pyramid apart)
    -- the finished sheet is sound by quarters, and not row after row: Advance, then Drill List (S 2.6, S 4.5)
    ∷ (111, not (refuses (advances4 quarters4) 5) && refuses (advances4 pyramid4) 5)
    ∷ (112, says (lists4 quarters4) (58 ∷ []) && refuses (lists4 pyramid4) 5)
    -- a return leaves it by quarters, and refuses a sheet that lies row after row (S 10.2, S 10.3)
    ∷ (
      113,
      same_z (restores4 (quarters4 ++ pos 5 ∷ [])).pyramid (quarters4 ++ pos 5 ∷ [])
          && refuses (restores4 pyramid4).said 5,
    )
    -- the renewal by itself: the four below an entry lie side by side (S 12.3, S 2.5)
    ∷ (
      114,
      renews_quarters8 2 4
          (318 ∷ 102 ∷ 198 ∷ 9 ∷ 9
          ∷ 9 ∷ 26 ∷ 9 ∷ 58 ∷ 74 ∷ 9 ∷ 106 ∷ 9 ∷ replicate 8 9),
    )
    -- an older sheet relaid: the second pyramid by quarters, what it has behind stays, and nothing else is read
    -- (S 12.2)
    ∷ (
      115,
      let outcome = relays4 finished4 (pyramid4 ++ pos 3 ∷ []) 22 16 16 23 in
          says outcome.said [] && same_z outcome.second (quarters4 ++ pos 7 ∷ pos 7 ∷ []),
    )
    -- its refusals, the lowest first: side, knit, either pyramid, serials, order, and a sheet that is not sound (S 5.2,
    -- S 12.2)
    ∷ (116, relay_refused (record { side = 3; dots = 9; knit = 2 }) quarters4 0 0 0 0 1)
    ∷ (116, relay_refused (record { side = 4; dots = 9; knit = 2 }) quarters4 0 0 0 0 11)
    ∷ (117, relay_refused finished4 quarters4 20 0 0 21 3)
    ∷ (117, relay_refused finished4 quarters4 21 0 0 20 3)
    ∷ (118, relay_refused finished4 quarters4 21 15 16 21 4)
    ∷ (118, relay_refused finished4 quarters4 21 16 15 21 4)
    ∷ (119, relay_refused finished4 quarters4 21 16 16 21 5)
    ∷ (119, relay_refused (on_plain 4 8) pyramid4 21 16 16 21 5)
    ∷ []
