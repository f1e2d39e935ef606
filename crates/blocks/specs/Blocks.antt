-- The blocks of a level as squares of cells (`block_square`): block (row, column) of level k begins at row × s,
-- column × s, where s = 2^(r − k). So what the code counts and sums is the definitions' (`block_dots`, `block_greys`);
-- `BlockAsked` is what it asks for.
use Rattle.std.specs.Prelude.{◌≡◌, List, ℕ, ◌+◌, ◌*◌, ◌-◌, ◌^◌, ◌≤◌, ◌<◌, get_or, length}
use Rattle.std.proofs.Math.Path.{ap}
use Rattle.std.proofs.Common.{◌∙◌, arith, add_assoc, pow_mono}
use Rattle.definition.specs.Pyramid.{cell_number}
use Rattle.definition.specs.Blocks.{block_sum, burnt, burnt_at, grey_at, grey_sum, dots_in}
use Rattle.integers.specs.Sums.{sum_to_ext, sum_to_ext<}
use Rattle.quadtree.specs.Levels.{block_side_lem, block_on_map}
use Rattle.blocks.specs.Squares.{SquareAsked, square_weight, row_by_place, square_row, as_it_is}

-- What the sums over a block ask for, of a map of side 2^r: the block (row, column) is one of level k, and enough
-- serials or greys are lent.
pub record BlockAsked (lent r k row column : ℕ) : Type 0 where
  pub power : 1 ≤ r
  pub powers : r ≤ 8
  pub level : k ≤ r
  pub above : row < 2 ^ k
  pub before : column < 2 ^ k
  pub room : 2 ^ r * 2 ^ r ≤ lent

-- what the block counts, where w says what a cell's value counts
abbrev pub block_weight : {X : Type 0} → (X → ℕ) → ℕ → List X → ℕ → ℕ → ℕ → ℕ
block_weight w r values k row column =
    let s = 2 ^ (r - k) in square_weight w values (2 ^ r) s (row * s) (column * s)

module _ {lent r k row column : ℕ} (h : BlockAsked lent r k row column) where
  pub block_square : SquareAsked lent (2 ^ r) (2 ^ (r - k)) (row * 2 ^ (r - k)) (column * 2 ^ (r - k))
  block_square =
      let l : (r - k) + k ≡ r = omega (arith, h.level) in
      record {
        small = pow_mono {i = r} {j = 8} h.powers;
        down = block_on_map r (r - k) k row l h.above;
        across = block_on_map r (r - k) k column l h.before;
        room = h.room;
      }

module _ {r k row column : ℕ} (values : List ℕ) (h : BlockAsked (length values) r k row column) where
  block_values : (f : ℕ → ℕ)
      → block_weight f r values k row column
      ≡ block_sum r (λ x y. f (get_or values (cell_number r x y) 0)) k row column
  unfolding block_sum
  block_values f =
      let l : (r - k) + k ≡ r = omega (arith, h.level) in
      rw (block_side_lem r (r - k) k l)
      (sum_to_ext< _ _ _ (λ x lt.
      row_by_place f values _ _ (square_row (block_square h) lt).asked.within
      ∙ sum_to_ext _ _ _ (λ y. ap (λ (i : ℕ). f (get_or values i 0)) (add_assoc _ _ _))))

  pub block_dots : block_weight burnt r values k row column ≡ dots_in r values k row column
  unfolding dots_in burnt_at
  block_dots = block_values burnt

  pub block_greys : block_weight as_it_is r values k row column ≡ grey_sum r values k row column
  unfolding grey_sum grey_at
  block_greys = block_values as_it_is
