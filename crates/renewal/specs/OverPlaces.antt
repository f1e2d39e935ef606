-- What the functions of this crate are asked and told, by places of the whole pyramid (`FourPlaces`, `Corners`,
-- `RenewAsked`): below the entry at place i are those at the places 4i + 1 to 4i + 4, and over it is the one at
-- (i − 1) / 4.
use Rattle.std.specs.Prelude.{◌≡◌, Bool, cond, ◌&&◌, ◌||◌, List, ◌++◌, ℕ, zero, suc, ◌+◌, ◌*◌, ◌-◌, ◌/◌, ◌^◌, ◌≤◌, ◌<◌}
use Rattle.std.specs.Prelude.{eqb, length, get_or, take, drop, set, ℤ, pos}
use Rattle.definition.specs.Lists.{tabulate}
use Rattle.definition.specs.Pyramid.{start}
use Rattle.definition.specs.Quarters.{interleaved}
use Rattle.layouts.specs.Renewed.{over_chosen}
use Rattle.places.specs.declared.Parts.{Parts}
use Rattle.places.specs.Parts.{parts_around}
use Rattle.pyramid.specs.PyramidPart.{four_at, Within, FourAsked, Whole, SmallPyramid}

-- whether i is one of two, and one of four
unfoldable pub either_of : ℕ → ℕ → ℕ → Bool
either_of first last i = eqb i first || eqb i last

unfoldable pub chosen_of : ℕ → ℕ → ℕ → ℕ → ℕ → Bool
chosen_of nw ne sw se i = either_of nw ne i || either_of sw se i

-- whether (x, y) lies in one of two rows and in one of two columns
unfoldable pub at_corners : ℕ → ℕ → ℕ → ℕ → ℕ → ℕ → Bool
at_corners top low left right x y = either_of top low x && either_of left right y

-- ---- places
-- the entry at a place, the sum of the four below it, and the place over it
abbrev pub at : List ℤ → ℕ → ℤ
at p i = get_or p i (pos 0)

abbrev pub below : List ℤ → ℕ → ℤ
below p i = four_at p (4 * i + 1) 2

abbrev pub over : ℕ → ℕ
over i = (i - 1) / 4

-- level k with its chosen entries renewed; so a pyramid with just these; so with all that are over them, too
unfoldable pub level_made : ℕ → (ℕ → Bool) → List ℤ → List ℤ
level_made k chosen p = tabulate (2 ^ k * 2 ^ k) (λ i. cond (chosen i) (below p (start k + i)) (at p (start k + i)))

unfoldable pub made : ℕ → (ℕ → Bool) → List ℤ → List ℤ
made k chosen p = take (start k) p ++ (level_made k chosen p ++ drop (start (suc k)) p)

unfoldable pub made_up : ℕ → (ℕ → Bool) → List ℤ → List ℤ
made_up zero chosen p = made zero chosen p
made_up (suc k) chosen p = made_up k (over_chosen chosen) (made (suc k) chosen p)

-- the same of four entries of level k, by their places in the whole pyramid
abbrev pub four_made_up : ℕ → ℕ → ℕ → ℕ → ℕ → List ℤ → List ℤ
four_made_up k nw ne sw se p = made_up k (chosen_of (nw - start k) (ne - start k) (sw - start k) (se - start k)) p

-- ---- what is asked
-- an entry with four below it, far from overflow
pub record AtAsked (p : List ℤ) (i : ℕ) : Type 0 where
  pub few : i ≤ 21845
  pub four : FourAsked p (4 * i + 1) 2

-- four places of one level, from `first` to before `end`; the finer entries are far from overflow
pub record FourPlaces (p : List ℤ) (nw ne sw se : ℕ) : Type 0 where
  pub first : ℕ
  pub end : ℕ
  pub few : end ≤ 21845
  pub apart : end ≤ 4 * first + 1
  pub room : 4 * end < length p
  pub small : (i : ℕ) → end ≤ i → Within (2 ^ 60) (at p i)
  pub nw_in : (first ≤ nw) × (nw < end)
  pub ne_in : (first ≤ ne) × (ne < end)
  pub sw_in : (first ≤ sw) × (sw < end)
  pub se_in : (first ≤ se) × (se < end)

-- each becomes the sum of its four
abbrev pub four_renewed : List ℤ → ℕ → ℕ → ℕ → ℕ → List ℤ
four_renewed p nw ne sw se =
    set (set (set (set p nw (below p nw)) ne (below p ne)) sw (below p sw)) se (below p se)

-- an entry below the top, its new sum, and the entries that the sum over it is made of
pub record CarryAsked (p : List ℤ) (i : ℕ) (sum : ℤ) : Type 0 where
  pub some : 1 ≤ i
  pub few : i ≤ 87381
  pub room : i < length p
  pub over_asked : AtAsked p (over i)
  pub small : (j : ℕ) → Within (2 ^ 58) (at p j)
  pub sum_small : Within (2 ^ 58) sum

-- the places of four entries of level k, in two rows and two columns
pub record Corners (k nw ne sw se : ℕ) : Type 0 where
  pub top : ℕ
  pub low : ℕ
  pub left : ℕ
  pub right : ℕ
  pub top_in : top < 2 ^ k
  pub low_in : low < 2 ^ k
  pub left_in : left < 2 ^ k
  pub right_in : right < 2 ^ k
  pub nw_is : nw ≡ start k + interleaved k top left
  pub ne_is : ne ≡ start k + interleaved k top right
  pub sw_is : sw ≡ start k + interleaved k low left
  pub se_is : se ≡ start k + interleaved k low right

-- a pyramid that has a level below level k, with entries so small that no sum overflows on the way up from there
pub record Rising (p : List ℤ) (k : ℕ) : Type 0 where
  pub most : k ≤ 7
  pub room : start (suc (suc k)) ≤ length p
  pub bound : ℕ
  pub small : (i : ℕ) → Within bound (at p i)
  pub spare : 4 * bound * (2 ^ k * 2 ^ k) ≤ 2 ^ 58

-- a place of level k
pub record InLevel (k i : ℕ) : Type 0 where
  pub from : start k ≤ i
  pub to : i < start (suc k)

-- a pyramid of just the needed length, whose entries are small, and the parts around a cell of its map
pub record RenewAsked (p : List ℤ) (r : ℕ) (parts : Parts) (row column : ℕ) : Type 0 where
  pub whole : Whole p r
  pub small : SmallPyramid p
  pub some : 1 ≤ r
  pub above : row < 2 ^ r
  pub left : column < 2 ^ r
  pub parts_are : parts ≡ parts_around (2 ^ r) row column
