-- A level by quarters that is filled cell by cell, in the order of rows (`Filling`): a store at the place of cell i is,
-- in the level written row after row, a store at i (`one_filled`, `all_filled`).
use Rattle.std.specs.Prelude.{◌≡◌, ℕ, ◌+◌, ◌/◌, ◌%◌, ◌^◌, ◌≤◌, ◌<◌, length, set, ℤ, pos}
use Rattle.std.proofs.Math.Path.{sym, ap}
use Rattle.std.proofs.Common.{◌∙◌, arith, length-set, pow_pos, pow_mono}
use mathlib.Core.List.{List}
use Rattle.std.proofs.Math.ListN.{get_or}
use Rattle.definition.specs.Lists.{tabulate}
use Rattle.definition.specs.Pyramid.{cell_count, place_in, row_at, column_at, in_level}
use Rattle.definition.specs.Quarters.{interleaved, row_of, column_of, quarter_level}
use Rattle.integers.specs.Fill.{filled, filled_none, filled_store, filled_all}
use Rattle.integers.specs.Lists.{get_d_tabulate, eq_tabulate}
use Rattle.quadtree.specs.Levels.{place_lt, place_row_column, row_lt, column_lt}
use Rattle.layouts.specs.Interleaved.{
  interleaved_lt,
  interleaved_of,
  interleaved_any,
  row_of_lt,
  column_of_lt,
}
use Rattle.layouts.specs.Cells.{rows_level, length_rows_level, rows_in, rows_set}

-- level k once the first i of its cells have the values f 0, f 1, ..
pub record Filling (k : ℕ) (f : ℕ → ℤ) (before : List ℤ) (i : ℕ) (level : List ℤ) : Type 0 where
  pub most : i ≤ cell_count k
  pub long : length level ≡ cell_count k
  pub rows : rows_level k level ≡ filled f i (rows_level k before)

pub none_filled : (k : ℕ) (f : ℕ → ℤ) (level : List ℤ) → length level ≡ cell_count k
    → Filling k f level 0 level
none_filled k f level e = record { most = omega arith; long = e; rows = filled_none _ _ }

pub some_side : (k : ℕ) {side : ℕ} → side ≡ 2 ^ k → 0 < side
some_side k es = omega (arith, es, pow_pos k)

-- places are small numbers
pub place_few : {at : ℕ} (a b : ℕ) → at ≡ interleaved 8 a b → at < 65536
place_few a b e = omega (arith, e, interleaved_lt 8 a b)

-- and those of cells lie in a level of this length
pub place_in_lem : (k : ℕ) → k ≤ 8 → {long : ℕ} → long ≡ cell_count k → {at : ℕ} (a b : ℕ)
    → at ≡ interleaved 8 a b → a < 2 ^ k → b < 2 ^ k → at < long
place_in_lem k small el a b e p q = omega (arith, e, el, interleaved_any k a b small p q, interleaved_lt k a b)

-- ---- one more; `side`, `count` and `at` are what the code has worked out
module _ (k : ℕ) (small : k ≤ 8) {side count : ℕ} (es : side ≡ 2 ^ k) (ec : count ≡ cell_count k)
    (i : ℕ) (lt : i < count) where
  inside : i < cell_count k
  inside = omega (arith, ec)

  row : i / 2 ^ k < 2 ^ k
  row = unfold row_at in row_lt k i inside

  column : i % 2 ^ k < 2 ^ k
  column = unfold column_at in column_lt k i

  number : place_in k (i / 2 ^ k) (i % 2 ^ k) ≡ i
  number = unfold row_at column_at in place_row_column k i

  few : 2 ^ k ≤ 256
  few = pow_mono {i = k} {j = 8} small

  pub on_map_lem : (i / side < 2 ^ k) × (i % side < 2 ^ k) × (2 ^ k ≤ 256)
  on_map_lem = rw es (row, column, few)

  module _ (f : ℕ → ℤ) (before level : List ℤ) (done : Filling k f before i level)
      {at : ℕ} (ea : at ≡ interleaved 8 (i / side) (i % side)) where
    at_is : at ≡ interleaved k (i / 2 ^ k) (i % 2 ^ k)
    at_is = ea ∙ rw es (interleaved_any k _ _ small row column)

    pub one_filled : {z : ℤ} → z ≡ f i → Filling k f before (i + 1) (set level at z)
    one_filled {z} ez =
        record {
          most = omega (arith, inside);
          long = length-set level at z ∙ done.long;
          rows =
              ap (λ (n : ℕ). rows_level k (set level n z)) at_is
              ∙ rows_set k level (i / 2 ^ k) (i % 2 ^ k) z done.long row column
              ∙ ap (λ (n : ℕ). set (rows_level k level) n z) number
              ∙ filled_store f i (rows_level k before)
              (omega (arith, inside, length_rows_level k before)) done.rows ez;
        }

-- ---- all of them
module _ (k : ℕ) (f : ℕ → ℤ) (before level : List ℤ) (done : Filling k f before (cell_count k) level) where
  rows_are : rows_level k level ≡ tabulate (cell_count k) f
  rows_are =
      done.rows
      ∙ filled_all f (cell_count k) (rows_level k before) (omega (arith, length_rows_level k before))

  at_place : (a b : ℕ) → a < 2 ^ k → b < 2 ^ k → get_or level (interleaved k a b) (pos 0) ≡ f (place_in k a b)
  unfolding in_level
  at_place a b p q =
      sym (rows_in k level a b p q)
      ∙ ap (λ (l : List ℤ). in_level k l a b) rows_are
      ∙ get_d_tabulate (cell_count k) f (place_in k a b) (pos 0) (place_lt k a b p q)

  whole_filled : level ≡ quarter_level k (λ a b. f (place_in k a b))
  unfolding quarter_level
  whole_filled =
      eq_tabulate (cell_count k) level _ (pos 0) done.long (λ i lt.
      ap (λ (n : ℕ). get_or level n (pos 0)) (sym (interleaved_of k i lt))
      ∙ at_place (row_of k i) (column_of k i) (row_of_lt k i) (column_of_lt k i))

pub all_filled : (k : ℕ) {count : ℕ} → count ≡ cell_count k
    → (f : ℕ → ℤ) (before level : List ℤ) (i : ℕ) → Filling k f before i level → count ≤ i
    → level ≡ quarter_level k (λ a b. f (place_in k a b))
all_filled k ec f before level i done ge =
    let e : i ≡ cell_count k = omega (arith, ec, done.most) in
    whole_filled k f before level (rw e at done)
