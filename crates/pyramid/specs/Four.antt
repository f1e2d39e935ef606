-- Sums of four entries: no sum on the way overflows (`FourFit`, `asked_fit`), and the whole is within four times the
-- bound (`within_four`).
use Rattle.std.specs.Prelude.{List, ℕ, ◌+◌, ◌*◌, ◌^◌, ◌≤◌, get_or, ℤ, pos, ◌+ℤ◌}
use Rattle.std.specs.Int.{w64}
use Rattle.std.proofs.Common.{SFits}
use Rattle.integers.specs.Linear.{zz, ints}
use Rattle.integers.specs.Machine.{words, machine}
use Rattle.pyramid.specs.PyramidPart.{Within, FourAsked}

pub record FourFit (w x y z : ℤ) : Type 0 where
  pub first : SFits w64 w
  pub second : SFits w64 x
  pub third : SFits w64 y
  pub fourth : SFits w64 z
  pub two : SFits w64 (w +ℤ x)
  pub three : SFits w64 (w +ℤ x +ℤ y)
  pub all : SFits w64 (w +ℤ x +ℤ y +ℤ z)

four_fit : (w x y z : ℤ) → Within (2 ^ 60) w → Within (2 ^ 60) x → Within (2 ^ 60) y → Within (2 ^ 60) z
    → FourFit w x y z
four_fit w x y z a b c d =
    record {
      first = simp words (omega machine);
      second = simp words (omega machine);
      third = simp words (omega machine);
      fourth = simp words (omega machine);
      two = simp words (omega machine);
      three = simp words (omega machine);
      all = simp words (omega machine);
    }

pub asked_fit : (part : List ℤ) (top wide : ℕ) → FourAsked part top wide
    → FourFit (get_or part top (pos 0)) (get_or part (top + 1) (pos 0))
    (get_or part (top + wide) (pos 0)) (get_or part (top + wide + 1) (pos 0))
asked_fit part top wide h = four_fit _ _ _ _ h.first h.second h.third h.fourth

pub within_four : (bound : ℕ) (w x y z : ℤ)
    → Within bound w → Within bound x → Within bound y → Within bound z
    → Within (4 * bound) (w +ℤ x +ℤ y +ℤ z)
within_four bound w x y z a b c d = record { low = simp zz (omega ints); high = simp zz (omega ints) }

pub within_mono : (a b : ℕ) (z : ℤ) → a ≤ b → Within a z → Within b z
within_mono a b z h k = record { low = simp zz (omega ints); high = simp zz (omega ints) }
