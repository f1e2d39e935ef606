-- How sharp the floor is (`at_floor`). Side 16: a quarter of grey 241 with 25 dots, the rest of grey 89 with 34 dots in
-- each quarter. `cap` and `total` hold of them, and the first quarter has as few dots as these allow: with 2,039 for
-- 2,040, or with 1,523 for 1,530, the floor would not follow. (No engine made these dots.)
use Rattle.std.specs.Prelude.{◌≡◌, refl, Bool, List, [], ◌∷◌, ◌++◌, ℕ, ◌+◌, ◌*◌, ◌-◌, ◌^◌, T, ltb, replicate}
use Rattle.std.proofs.Common.{arith, ltb→lt}
use Rattle.definition.specs.Lists.{sum_to, all_to, repeated}
use Rattle.definition.specs.Blocks.{
  block_side,
  block_sum,
  grey_at,
  burnt,
  burnt_at,
  grey_sum,
  grey_total,
  total_of,
  dots_in,
  all_dots,
}
use Rattle.definition.specs.Sound.{every_entry}
use Rattle.integers.specs.Tests.{all_to_at, every_entry_at}
use Rattle.guarantee.specs.PriceList.{EachBlock, UnderCap}

abbrev greys : List ℕ
greys = repeated 8 (replicate 8 241 ++ replicate 8 89) ++ replicate 128 89

-- eight cells of a row: all burnt, the first, the first and the fifth, none
abbrev all : List ℕ
all = replicate 8 1

abbrev one : List ℕ
one = 1 ∷ replicate 7 0

abbrev two : List ℕ
two = 1 ∷ 0 ∷ 0 ∷ 0 ∷ 1 ∷ 0 ∷ 0 ∷ 0 ∷ []

abbrev none : List ℕ
none = replicate 8 0

abbrev serials : List ℕ
serials =
    repeated 4 all ++ one ++ two ++ none ++ none ++ repeated 2 all ++ none ++ all ++ repeated 4 none
    ++ repeated 4 all ++ two ++ two ++ none ++ none ++ repeated 4 all ++ repeated 4 none

abbrev under : ℕ → ℕ → ℕ → Bool
under k a b = ltb (765 * dots_in 4 serials k a b) (3 * grey_sum 4 greys k a b + 765 + 1020 * block_side 4 k)

computed : T (all_to 5 (λ k. every_entry k (under k)))
unfolding all_to every_entry dots_in grey_sum block_sum sum_to grey_at burnt_at burnt repeated
computed = tt

pub cap : EachBlock 4 (UnderCap 4 greys serials)
cap k a b h u v =
    ltb→lt _ _ (every_entry_at k (under k) (all_to_at 5 (λ k. every_entry k (under k)) computed k (omega arith)) a b u
    v)

pub total : all_dots 4 serials ≡ total_of (grey_total 4 greys)
unfolding all_dots grey_total grey_sum dots_in block_sum sum_to grey_at burnt_at burnt repeated
total = refl

-- 30,848 = 510 × 25 + 254 + 1,524 + 2,040 × 8; the floor asks for less than 510 × 25 + 255 + 1,530 + 2,040 × 8
pub at_floor : 2 * grey_sum 4 greys 1 0 0 ≡ 510 * dots_in 4 serials 1 0 0 + 254 + 1524 * 1 + 2040
    * (2 ^ 4 - block_side 4 1)
unfolding grey_sum dots_in block_sum sum_to grey_at burnt_at burnt repeated
at_floor = refl
