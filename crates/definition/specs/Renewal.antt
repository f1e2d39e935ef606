-- The renewal of the sums above a hole by itself: `renewed` is a pyramid with just these entries summed anew, and
-- `renewal_of` the call, for any numbers and any pyramid.
use Rattle.std.specs.Prelude.{Bool, true, false, cond, not, ◌&&◌, ◌||◌, List, ◌++◌, ℕ, zero, suc, ◌+◌, ◌*◌, ◌^◌, leb}
use Rattle.std.specs.Prelude.{ltb, eqb, length, get_or, take, drop, ℤ, pos, neg_ℤ}
use Rattle.std.specs.Int.Signed.{le_z}
use Rattle.definition.specs.Lists.{all_to}
use Rattle.definition.specs.Pyramid.{start, needed, level_of, in_level, entry, four}
use Rattle.definition.specs.Refusals.{power_of}

-- whether (x, y) is the cell (row, column) or one of the eight around it (S 3.8)
unfoldable pub is_near : ℕ → ℕ → ℕ → ℕ → Bool
is_near row column x y = leb row (x + 1) && leb x (row + 1) && leb column (y + 1) && leb y (column + 1)

-- whether entry (a, b) lies over one of those that the test `these` picks out on the level below (S 3.8)
unfoldable pub over_these : (ℕ → ℕ → Bool) → ℕ → ℕ → Bool
over_these these a b =
    these (2 * a) (2 * b) || these (2 * a) (2 * b + 1) || these (2 * a + 1) (2 * b) || these (2 * a + 1) (2 * b + 1)

-- A pyramid of power k, `these` being entries of its level k: every entry above that lies over them is the sum of its
-- four, level k − 1 first and then up to the top; all others stay, wrong ones too (S 12.3).
unfoldable pub renewed : ℕ → (ℕ → ℕ → Bool) → List ℤ → List ℤ
renewed zero these pyramid = pyramid
renewed (suc k) these pyramid =
    let cells = drop (start (suc k)) pyramid in
    let over = over_these these in
    let level = level_of k (λ a b. cond (over a b) (four (in_level (suc k) cells) a b) (entry pyramid k a b)) in
    renewed k over (take (start k) pyramid ++ level) ++ cells

-- whether an entry is from −2^40 to 2^40, and whether the first n are (S 12.3)
unfoldable pub is_small : ℤ → Bool
is_small z = le_z (neg_ℤ (pos (2 ^ 40))) z && le_z z (pos (2 ^ 40))

unfoldable pub entries_small : ℕ → List ℤ → Bool
entries_small n pyramid = all_to n (λ i. is_small (get_or pyramid i (pos 0)))

-- whether a renewal can be made: around a cell of the map, in a pyramid of such entries that is long enough (S 12.3)
unfoldable pub renewable : ℕ → ℕ → ℕ → List ℤ → Bool
renewable side row column pyramid =
    let r = power_of side in
    not (eqb r 0) && leb (needed r) (length pyramid) && ltb row side && ltb column side
    && entries_small (needed r) pyramid

-- whether it is made, and the pyramid afterwards; where it is not made, nothing changes (S 12.3)
unfoldable pub renewal_of : ℕ → ℕ → ℕ → List ℤ → Bool × List ℤ
renewal_of side row column pyramid =
    let r = power_of side in
    elim (renewable side row column pyramid) [
      | true ↦ (true, renewed r (is_near row column) (take (needed r) pyramid) ++ drop (needed r) pyramid)
      | false ↦ (false, pyramid)
    ]
