-- How long a drill list of a side of at most 32 is (`list_length`): at most 8 bytes for the first line and 11 for each
-- hole, 1,024 holes at most.
use Rattle.std.specs.Prelude.{◌≡◌, ℕ, suc, ◌+◌, ◌*◌, ◌-◌, ◌/◌, ◌%◌, ◌^◌, ◌≤◌, ◌<◌, length, get_or, take}
use mathlib.Core.List.{List, [], ◌∷◌}
use Rattle.std.proofs.Common.{mul-le-mul, div-lt_iff_lt-mul, mod-lt, pow_pos, length-take, get_or-take}
use Rattle.std.proofs.Math.Decide.{dec_lt}
use native.Mathlib.Omega.{arith}
use Rattle.std.proofs.Math.ListN.{length-append}
use Rattle.definition.specs.Pyramid.{cell_count, needed}
use Rattle.definition.specs.Model.{Halftone}
use Rattle.definition.specs.Text.{line}
use Rattle.definition.specs.DrillList.{dot_lines, drill_text}
use Rattle.quadtree.specs.Levels.{start_thrice, quadruple}
use Rattle.dots.proofs.Steps.{Sheet}
use Rattle.decimals.specs.Writing.{length_decimal}
use Rattle.drill_list.specs.Listing.{length_two, length_three}

-- a map of at most 1,024 cells
module _ (r : ℕ) (few : cell_count r ≤ 1024) where
  side_few : 2 ^ r ≤ 32
  side_few = go (dec_lt 32 (2 ^ r))
    where
      go : Dec (32 < 2 ^ r) → 2 ^ r ≤ 32
      go (yes h) = let l : 33 ≤ 2 ^ r = omega arith in absurd (omega (arith, mul-le-mul l l))
      go (no h) = omega arith

  pub needed_few : needed r ≤ 1365
  needed_few = omega (arith, start_thrice (suc r), quadruple r)

-- ---- lines
module _ (r : ℕ) (few : cell_count r ≤ 1024) where
  head_length : (dots : ℕ) → dots ≤ 1024 → length (line (dots ∷ 2 ^ r ∷ [])) ≤ 8
  head_length dots h =
      omega (
        arith,
        length_two dots (2 ^ r),
        length_decimal 4 dots (omega arith) (omega arith),
        length_decimal 2 (2 ^ r)
            (omega arith) (omega (arith, side_few r few)),
      )

  dot_length : (j cell : ℕ) → j ≤ 1024 → cell < cell_count r → length (line (j ∷ cell / 2 ^ r ∷ cell % 2 ^ r ∷ [])) ≤ 11
  dot_length j cell h k =
      let row : cell / 2 ^ r < 2 ^ r = (div-lt_iff_lt-mul (pow_pos r)).1 k in
      omega (
        arith,
        length_three j (cell / 2 ^ r) (cell % 2 ^ r),
        length_decimal 4 j (omega arith) (omega arith),
        length_decimal 2 (cell / 2 ^ r) (omega arith) (omega (arith, side_few r few)),
        length_decimal 2 (cell % 2 ^ r) (omega arith)
            (omega (arith, side_few r few, mod-lt cell {m = 2 ^ r} (pow_pos r))),
      )

  -- the lines of these cells, the first of them with serial j
  dots_length : (cells : List ℕ) (j : ℕ) → j + length cells ≤ 1025
      → ((i : ℕ) → i < length cells → get_or cells i 0 < cell_count r)
      → length (dot_lines r j cells) ≤ 11 * length cells
  unfolding dot_lines
  dots_length [] j h on_map_lem = omega arith
  dots_length (cell ∷ cells) j h on_map_lem =
      omega (
        arith,
        length-append (line (j ∷ cell / 2 ^ r ∷ cell % 2 ^ r ∷ [])) (dot_lines r (suc j) cells),
        dot_length j cell (omega arith) (on_map_lem 0 (omega arith)),
        dots_length cells (suc j) (omega arith) (λ i k. on_map_lem (suc i) (omega arith)),
      )

  -- ---- the list of a sheet
  module _ (t : Halftone) (sheet : Sheet r t) where
    abbrev cells : List ℕ
    cells = take t.dots t.order

    cells_few : length cells ≤ t.dots
    cells_few = omega (arith, length-take t.dots t.order)

    cell_in : (i : ℕ) → i < length cells → get_or cells i 0 < cell_count r
    cell_in i k =
        let z : suc i - 1 ≡ i = omega arith in
        rw (get_or-take t.dots t.order i 0 (omega (arith, cells_few)))
        (rw z at (sheet.sound.in_order (suc i) (omega arith) (omega (arith, cells_few))).0)

    pub list_length : length (drill_text r t) ≤ 11300
    unfolding drill_text
    list_length =
        let made = sheet.sound.few_dots_lem in
        omega (
          arith,
          length-append (line (t.dots ∷ 2 ^ r ∷ [])) (dot_lines r 1 cells),
          head_length t.dots (omega arith),
          dots_length cells 1 (omega (arith, cells_few)) cell_in,
          cells_few,
        )
