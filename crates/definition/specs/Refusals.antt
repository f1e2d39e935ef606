-- What is checked: a `Row` for each refusal, with its number. Each call lists its own rows, with the lengths that it is
-- lent, and `lowest` is the first that applies; Map Text and Sample share theirs, `greys_refusal`. `power_of` knows the
-- sides.
use Rattle.std.specs.Prelude.{Bool, cond, not, ◌||◌, List, [], ◌∷◌, ℕ, zero, suc, ◌^◌, ltb, leb, eqb}
use Rattle.definition.specs.Pyramid.{needed, cell_count}

-- the power of a side, sought from k down; 0 if there is none (S 2.1)
unfoldable pub power_up_to : ℕ → ℕ → ℕ
power_up_to zero side = 0
power_up_to (suc k) side = cond (eqb side (2 ^ suc k)) (suc k) (power_up_to k side)

-- the power of one of the eight sides, and 0 for any other number (S 2.1)
unfoldable pub power_of : ℕ → ℕ
power_of side = power_up_to 8 side

-- a check: the number of its refusal, and whether it applies (S 5.1)
abbrev pub Row : Type 0
Row = ℕ × Bool

-- 1: the side is none of the eight; r is its power (S 5.1)
abbrev pub side_unknown : ℕ → Row
side_unknown r = (1, eqb r 0)

-- 11: the knit is neither plain nor ribbed; this stands directly behind 1 in the calls that look at the knit, or behind
-- 14 (S 5.1)
abbrev pub knit_unknown : ℕ → Row
knit_unknown knit = (11, ltb 1 knit)

-- 2: fewer greys than cells (S 5.1)
abbrev pub greys_short : ℕ → ℕ → Row
greys_short r lent = (2, ltb lent (cell_count r))

-- 3: a pyramid below its needed length (S 5.1)
abbrev pub pyramid_short : ℕ → ℕ → Row
pyramid_short r lent = (3, ltb lent (needed r))

-- 4: a serial sheet or an order list with fewer places than cells; a row for each that is lent (S 5.1)
abbrev pub sheet_short : ℕ → ℕ → Row
sheet_short r lent = (4, ltb lent (cell_count r))

-- 5: the sheet is not sound (S 5.1)
abbrev pub sheet_unsound : Bool → Row
sheet_unsound sound = (5, not sound)

-- 12: a grey of the map is above 240, where `low` tells that none is (S 5.1)
abbrev pub grey_high : Bool → Row
grey_high low = (12, not low)

-- 13: a pair of a sketch has its low above its high, where `rise` tells that none has (S 5.1)
abbrev pub pair_falls : Bool → Row
pair_falls rise = (13, not rise)

-- 14: a side below 16, which is too small for two heads; this stands directly behind 1 (S 5.1)
abbrev pub side_small : ℕ → Row
side_small side = (14, ltb side 16)

-- 6: no such level, or no such square on it (S 5.1)
abbrev pub block_unknown : ℕ → ℕ → ℕ → ℕ → Row
block_unknown r k a b = (6, ltb r k || leb (2 ^ k) a || leb (2 ^ k) b)

-- 6 in a call that is given a level, and no square of it (S 5.1)
abbrev pub level_unknown : ℕ → ℕ → Row
level_unknown r k = (6, ltb r k)

-- 8: an output shorter than its text, or a list or caps buffer with too few places (S 5.1)
abbrev pub output_short : ℕ → ℕ → Row
output_short list lent = (8, ltb lent list)

-- The number of the first row of a call's list that applies; 0 if none does (S 5.2). Most lists go by rising number, so
-- that this is the lowest that applies; but 14 and 11 stand behind 1, 12 before 10, and 12 and 13 before 6.
unfoldable pub lowest : List Row → ℕ
lowest [] = 0
lowest (row ∷ rows) = cond row.1 row.0 (lowest rows)

-- 1, then 2, from the side's power and the places lent (S 5.2)
unfoldable pub greys_refusal : ℕ → ℕ → ℕ
greys_refusal r lent = lowest (side_unknown r ∷ greys_short r lent ∷ [])
