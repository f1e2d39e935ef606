-- What the walk over the blocks asks for (`WalkAsked`), and what it gives (`Walked`): the errors of blocks, and the
-- sums to which their squares are added.
use Rattle.std.specs.Prelude.{◌≡◌, List, ℕ, ◌+◌, ◌*◌, ◌-◌, ◌^◌, ◌≤◌, length, get_or, set, ℤ, ◌+ℤ◌, nat_abs}
use Rattle.definition.specs.Blocks.{block_sum_z}
use Rattle.definition.specs.Survey.{squared}
use Rattle.integers.specs.Totals.{TotalZ}
use Rattle.blocks.specs.Blocks.{BlockAsked}
use Rattle.survey.specs.Within.{within}

-- Levels of a map of side 2^r: `greys` greys and `serials` serials lent
pub record LevelsAsked (greys serials r : ℕ) : Type 0 where
  pub power : 1 ≤ r
  pub powers : r ≤ 8
  pub greys_room : 2 ^ r * 2 ^ r ≤ greys
  pub serials_room : 2 ^ r * 2 ^ r ≤ serials

-- ════ bounds

-- the cells of a block of level k, and what each adds at most to the sum of a level
abbrev pub cells : ℕ → ℕ → ℕ
cells r k = 2 ^ (r - k) * 2 ^ (r - k)

abbrev pub share : ℕ
share = 255 * 255 * 65536

-- the error of a quarter of a map, and of a map
abbrev pub quarter_most : ℕ
quarter_most = 255 * 16384

abbrev pub error_most : ℕ
error_most = quarter_most + quarter_most + quarter_most + quarter_most

-- room in the nine sums for what a block of level k adds
pub record Room (r k : ℕ) (sums : List ℕ) : Type 0 where
  pub nine : length sums ≡ 9
  pub room : (i : ℕ) → get_or sums i 0 + share * cells r k ≤ 2 ^ 63

-- ════ a square, added to the sum of its level

-- v more at place k
unfoldable pub added : List ℕ → ℕ → ℕ → List ℕ
added sums k v = set sums k (get_or sums k 0 + v)

pub record AddAsked (sums : List ℕ) (k : ℕ) (e : ℤ) : Type 0 where
  pub level : k ≤ 8
  pub small : nat_abs e ≤ error_most
  pub fits : get_or sums k 0 + squared e ≤ 2 ^ 63

-- of four errors
pub record JoinAsked (sums : List ℕ) (k : ℕ) (p q s t : ℤ) : Type 0 where
  pub level : k ≤ 8
  pub small_p : nat_abs p ≤ quarter_most
  pub small_q : nat_abs q ≤ quarter_most
  pub small_s : nat_abs s ≤ quarter_most
  pub small_t : nat_abs t ≤ quarter_most
  pub fits : get_or sums k 0 + squared (p +ℤ q +ℤ s +ℤ t) ≤ 2 ^ 63

pub record Joined (before : List ℕ) (k : ℕ) (p q s t e : ℤ) (after : List ℕ) : Type 0 where
  pub error : e ≡ p +ℤ q +ℤ s +ℤ t
  pub sums : after ≡ added before k (squared e)

-- ════ a walk over a block

-- the block (a, b) of level k, whose quarters are blocks of the level below; the cells are of level r
pub record WalkAsked (lent r k below a b : ℕ) (sums : List ℕ) : Type 0 where
  pub block : BlockAsked lent r k a b
  pub next : below ≡ k + 1
  pub level : below ≤ r
  pub room : Room r k sums

-- e is the sum of f over the block; and the square of it, and of that of each block within it, is added to the sum of
-- its level
pub record Walked (r : ℕ) (f : ℕ → ℕ → ℤ) (k a b : ℕ) (before : List ℕ) (e : ℤ) (after : List ℕ) : Type 0 where
  pub error : TotalZ (block_sum_z r f k a b) (255 * cells r k) e
  pub long : length after ≡ length before
  pub sums : (i : ℕ) → get_or after i 0 ≡ get_or before i 0 + within r f k a b i
  pub most : (i : ℕ) → get_or after i 0 ≤ get_or before i 0 + share * cells r k
