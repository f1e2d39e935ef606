-- The call Drill List row after row: `drill_list_of`, for every record and all lists lent, and `drill_text`, the text
-- of a sheet.
use Rattle.std.specs.Prelude.{Bool, List, [], ◌∷◌, ◌++◌, ℕ, suc, ◌/◌, ◌%◌, ◌^◌, length, take, ℤ}
use Rattle.definition.specs.Model.{Halftone}
use Rattle.definition.specs.Sound.{is_sound}
use Rattle.definition.specs.Refusals.{
  power_of,
  side_unknown,
  knit_unknown,
  pyramid_short,
  sheet_short,
  sheet_unsound,
  output_short,
  lowest,
}
use Rattle.definition.specs.Advance.{sheet_in}
use Rattle.definition.specs.Text.{line, TextOutcome, text_into}
use Rattle.definition.specs.declared.Progress.{Progress}

-- a line with serial, row and column for each of these cell numbers, the first of them with serial j (S 9.3)
unfoldable pub dot_lines : ℕ → ℕ → List ℕ → List ℕ
dot_lines r j [] = []
dot_lines r j (cell ∷ cells) = line (j ∷ cell / 2 ^ r ∷ cell % 2 ^ r ∷ []) ++ dot_lines r (suc j) cells

-- a line with the dots and the side, then the line of each dot in order (S 9.3)
unfoldable pub drill_text : ℕ → Halftone → List ℕ
drill_text r s = line (s.dots ∷ 2 ^ r ∷ []) ++ dot_lines r 1 (take s.dots s.order)

-- its checks, 1, 11, 3, 4, 4, 5, 8, from the side's power, the knit, the lengths lent, soundness and the list's length
-- (S 5.2)
unfoldable pub drill_list_refusal : ℕ → ℕ → ℕ → ℕ → ℕ → Bool → ℕ → ℕ → ℕ
drill_list_refusal r knit pyramid serials order sound list output =
    lowest
    (side_unknown r ∷ knit_unknown knit ∷ pyramid_short r pyramid ∷ sheet_short r serials ∷ sheet_short r order
    ∷ sheet_unsound sound ∷ output_short list output ∷ [])

-- the whole call: the text in the output, and its length for an answer (S 9.3, S 6.6)
unfoldable pub drill_list_of : Progress → List ℤ → List ℕ → List ℕ → List ℕ → TextOutcome
drill_list_of progress pyramid serials order output =
    let r = power_of progress.side in
    let sheet = sheet_in r progress.dots pyramid serials order in
    let list = drill_text r sheet in
    let refusal = drill_list_refusal r progress.knit (length pyramid) (length serials) (length order)
    (is_sound r sheet) (length list) (length output) in
    text_into refusal list output
