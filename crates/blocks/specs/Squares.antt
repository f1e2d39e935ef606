-- What the inner functions sum up, of what each cell counts: rows of cells, and squares of cells on a map of `side` by
-- `side` (s rows of s cells, the first in row `top` at column `left`). What they ask for (`SquareAsked`), and the laws
-- of their loops (`dot_one`, `square_row`).
use Rattle.std.specs.Prelude.{◌≡◌, refl, List, ℕ, zero, suc, ◌+◌, ◌*◌, ◌≤◌, ◌<◌, length, get_or}
use Rattle.std.specs.Prelude.{slice_range}
use Rattle.std.specs.List.{sum_by}
use Rattle.std.proofs.Common.{arith, mul-le-mul, mul-le-mul_right, eq-eqb, ne_eqb, add-one, add-suc, add-zero}
use Rattle.std.proofs.lemmas.List.Edits.{between_none, between_more}
use Rattle.std.proofs.lemmas.List.Sums.{sum_by_push}
use Rattle.definition.specs.Lists.{sum_to}
use Rattle.definition.specs.Blocks.{burnt}
use Rattle.integers.specs.Totals.{Total}

-- ════ sums over cells, where w says what a cell's value counts
-- the sum over those of `count` cells from the cell `from` on, and over those of a square
abbrev pub row_weight : {X : Type 0} → (X → ℕ) → List X → ℕ → ℕ → ℕ
row_weight w values from count = sum_by w (slice_range values from (from + count))

abbrev pub square_weight : {X : Type 0} → (X → ℕ) → List X → ℕ → ℕ → ℕ → ℕ → ℕ
square_weight w values side s top left = sum_to s (λ x. row_weight w values ((top + x) * side + left) s)

-- the same of numbers, place by place
abbrev pub row_sum : (ℕ → ℕ) → List ℕ → ℕ → ℕ → ℕ
row_sum f values from count = sum_to count (λ y. f (get_or values (from + y) 0))

abbrev pub square_sum : (ℕ → ℕ) → List ℕ → ℕ → ℕ → ℕ → ℕ → ℕ
square_sum f values side s top left = sum_to s (λ x. row_sum f values ((top + x) * side + left) s)

pub row_by_place : (f : ℕ → ℕ) (values : List ℕ) (from count : ℕ) → from + count ≤ length values
    → row_weight f values from count ≡ row_sum f values from count
unfolding sum_to
row_by_place f values from zero h = rw (add-zero from, between_none values from)
row_by_place f values from (suc count) h =
    rw (
      add-suc from count,
      ← add-one (from + count),
      between_more values from (from + count) 0 (omega arith) (omega arith),
      sum_by_push f (slice_range values from (from + count)) (get_or values (from + count) 0),
    )
    (omega (arith, row_by_place f values from count (omega arith)))

-- a grey counts itself
abbrev pub as_it_is : ℕ → ℕ
as_it_is grey = grey

-- ════ what the functions ask for

-- `count` cells from `from` on, of `lent` cells
pub record RowAsked (lent from count : ℕ) : Type 0 where
  pub few : count ≤ 256
  pub within : from + count ≤ lent

pub record SquareAsked (lent side s top left : ℕ) : Type 0 where
  pub small : side ≤ 256
  pub down : top + s ≤ side
  pub across : left + s ≤ side
  pub room : side * side ≤ lent

-- ════ cells

-- a cell without a dot counts 0, a dot 1
pub dot_none : {serial : ℕ} → serial ≡ 0 → Total (burnt serial) 1 0
unfolding burnt
dot_none {serial} e = rw (eq-eqb serial 0 e) (record { is = refl; small = omega arith })

pub dot_one : {serial : ℕ} → (serial ≡ 0 → ⊥) → Total (burnt serial) 1 1
unfolding burnt
dot_one {serial} n = rw (ne_eqb serial 0 n) (record { is = refl; small = omega arith })

-- at most 255 each
pub serial_small : 1 ≤ 255
serial_small = omega arith

pub grey_small : 255 ≤ 255
grey_small = omega arith

-- ════ rows of a square

-- where row x of a square begins
pub record Row (lent side s top left x : ℕ) : Type 0 where
  pub asked : RowAsked lent ((top + x) * side + left) s
  pub most : (top + x) * side + left ≤ 65536

pub square_row : {lent side s top left x : ℕ} → SquareAsked lent side s top left → x < s
    → Row lent side s top left x
square_row {lent} {side} {s} {top} {left} {x} h lt =
    let a : top + x + 1 ≤ side = omega (arith, h.down) in
    let b = mul-le-mul_right side a in
    let c = mul-le-mul h.small h.small in
    record {
      asked = record { few = omega (arith, h.across, h.small); within = omega (arith, h.across, h.room) };
      most = omega (arith, h.across);
    }
