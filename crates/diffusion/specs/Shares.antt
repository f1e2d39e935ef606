-- A share (`share_fair`), and what taking it off a neighbour does (`share_taken_lem`).
use Rattle.std.specs.Prelude.{◌≡◌, ◌≢◌, List, [], ◌∷◌, ℕ, zero, suc, ◌+◌, ◌*◌, ◌-◌, ◌/◌, ◌%◌, ◌^◌, ◌≤◌, ◌<◌, length}
use Rattle.std.specs.Prelude.{get_or, set, ℤ, pos, ◌-ℤ◌}
use Rattle.std.proofs.Common.{sym, ap, ◌∙◌, arith, mul-le-mul, div-le_self, eq-eqb, ne_eqb}
use Rattle.std.proofs.Math.Decide.{ℕ_discrete}
use Rattle.definition.specs.Pyramid.{place_in, in_level}
use Rattle.definition.specs.Quarters.{interleaved}
use Rattle.definition.specs.Diffusion.{row_near, column_near}
use Rattle.integers.specs.Linear.{zz, ints}
use Rattle.layouts.specs.Interleaved.{interleaved_any}
use Rattle.layouts.specs.Cells.{rows_level}
use Rattle.pyramid.specs.PyramidPart.{Within}
use Rattle.pyramid.specs.Four.{within_mono}
use Rattle.diffusion.specs.OneTurn.{share_taken, ShareAsked, TakeAsked}
use Rattle.diffusion.specs.Places.{side_small_lem, place_in_lem, read_there, stored_there}

-- ---- a share
part_small : (d c : ℕ) → d ≤ 2 ^ 41 → c ≤ 18 → d * c ≤ 2 ^ 46
part_small d c h k = let m : d * c ≤ 2 ^ 41 * 18 = mul-le-mul h k in omega arith

pub share_fair : (d before after all : ℕ) → d ≤ 2 ^ 41 → after ≤ 18 → d * after / all - d * before / all ≤ 2 ^ 46
share_fair d before after all h k = omega (arith, part_small d after h k, div-le_self (d * after) all)

-- ---- a share taken
module _ (r row column p w s : ℕ) (cells : List ℤ) where
  abbrev x : ℕ
  x = row_near row p - 1

  abbrev y : ℕ
  y = column_near column p - 1

  pub taken_none : w ≡ 0 → cells ≡ share_taken r row column p w s cells
  unfolding share_taken
  taken_none e = rw (eq-eqb w 0 e, share_taken)

  pub taken_some : w ≢ 0
      → set cells (place_in r x y) (in_level r cells x y -ℤ pos s) ≡ share_taken r row column p w s cells
  unfolding share_taken
  taken_some ne = rw (ne_eqb w 0 ne, share_taken)

-- ---- what taking a share off a neighbour rests on
module _ {cells : List ℤ} {r row column p w s : ℕ} (h : ShareAsked cells r row column p w s) where
  module _ (ne : w ≡ 0 → ⊥) where
    pub near_up : 1 ≤ row + p / 3
    near_up = (h.near ne).0

    pub near_left : 1 ≤ column + p % 3
    near_left = (h.near ne).2

    pub near_row : row + p / 3 - 1 < 2 ^ r
    near_row = omega (arith, h.near ne)

    pub near_column : column + p % 3 - 1 < 2 ^ r
    near_column = omega (arith, h.near ne)

  -- any row or column of the map is one that the table serves
  pub served : {x : ℕ} → x < 2 ^ r → x < 256
  served a = omega (arith, side_small_lem r h.cell.most)

  -- any cell (x, y) of the map, at the place that the table has
  module _ (x y at : ℕ) (e : at ≡ interleaved 8 x y) (a : x < 2 ^ r) (b : y < 2 ^ r) where
    at_is : at ≡ interleaved r x y
    at_is = e ∙ interleaved_any r x y h.cell.most a b

    pub near_in : at < length cells
    near_in = place_in_lem r x y at at_is h.whole

    -- its residual, read there and row after row
    read : in_level r (rows_level r cells) x y ≡ get_or cells at (pos 0)
    read = read_there r x y at at_is cells a b

    bounds : Within (2 ^ 60) (get_or cells at (pos 0))
    unfolding in_level
    bounds = rw (← read) (h.small (place_in r x y))

    pub near_asked : TakeAsked cells at s
    near_asked = record { place = near_in; small = bounds; fair = h.fair }

    -- with the share off it
    pub near_stored : rows_level r (set cells at (get_or cells at (pos 0) -ℤ pos s))
        ≡ set (rows_level r cells) (place_in r x y) (in_level r (rows_level r cells) x y -ℤ pos s)
    near_stored = rw (← read) (stored_there r x y at at_is cells a b h.whole _)

  pub share_taken_lem : (w ≡ 0 → ⊥) → (at : ℕ) → at ≡ interleaved 8 (row + p / 3 - 1) (column + p % 3 - 1)
      → {next : List ℤ} → next ≡ set cells at (get_or cells at (pos 0) -ℤ pos s)
      → rows_level r next ≡ share_taken r row column p w s (rows_level r cells)
  share_taken_lem ne at e en =
      ap (rows_level r) en
      ∙ near_stored (row + p / 3 - 1) (column + p % 3 - 1) at e (near_row ne) (near_column ne)
      ∙ taken_some r row column p w s (rows_level r cells) ne

pub ruleset nearby = (near_up, near_left, near_row, near_column, served, near_in, near_asked)

-- ---- sizes
pub set_within : (B : ℕ) (l : List ℤ) (k : ℕ) (v : ℤ) → ((i : ℕ) → Within B (get_or l i (pos 0))) → Within B v
    → (i : ℕ) → Within B (get_or (set l k v) i (pos 0))
set_within B [] k v h q i = h i
set_within B (x ∷ l) zero v h q zero = q
set_within B (x ∷ l) zero v h q (suc i) = h (suc i)
set_within B (x ∷ l) (suc k) v h q zero = h zero
set_within B (x ∷ l) (suc k) v h q (suc i) = set_within B l k v (λ m. h (suc m)) q i

pub taken_within : (B r row column p w s : ℕ) (cells : List ℤ) → ((i : ℕ) → Within B (get_or cells i (pos 0)))
    → (i : ℕ) → Within (B + s) (get_or (share_taken r row column p w s cells) i (pos 0))
unfolding in_level
taken_within B r row column p w s cells h i = go (ℕ_discrete w 0)
  where
    wider : (z : ℤ) → Within B z → Within (B + s) z
    wider z = within_mono B (B + s) z (omega arith)

    less : (z : ℤ) → Within B z → Within (B + s) (z -ℤ pos s)
    less z k = record { low = simp zz (omega ints); high = simp zz (omega ints) }

    go : Dec (w ≡ 0) → Within (B + s) (get_or (share_taken r row column p w s cells) i (pos 0))
    go (yes e) = rw (sym (taken_none r row column p w s cells e)) (wider _ (h i))
    go (no ne) =
        rw (sym (taken_some r row column p w s cells ne))
        (set_within (B + s) cells _ _ (λ m. wider _ (h m)) (less _ (h _)) i)
