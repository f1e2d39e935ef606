-- A cell of a sound sheet that owes something is unburnt (`unburnt`).
use Rattle.std.specs.Prelude.{◌≡◌, ℕ, ◌^◌, ◌≤◌, ◌<◌, pos, ◌<ℤ◌}
use Rattle.std.proofs.Common.{arith}
use Rattle.std.proofs.Math.Decide.{ℕ_discrete}
use Rattle.definition.specs.Pyramid.{entry}
use Rattle.definition.specs.Blocks.{burnt_at}
use Rattle.definition.specs.Diffusion.{Kernel}
use Rattle.definition.specs.Model.{Halftone}
use Rattle.definition.specs.Sound.{Sound}
use Rattle.integers.specs.Linear.{ints}
use Rattle.shares.specs.Kernels.{Fit}
use Rattle.dots.specs.Placing.{Sized}
use Rattle.dots.specs.Marks.{burnt_at_le}

module _ (kernel : Kernel) (fit : Fit kernel) (r : ℕ) (big : 2 ≤ 2 ^ r) (s : Halftone) (sized : Sized r s)
    (sound : Sound r s)
    (row column : ℕ) (i : row < 2 ^ r) (j : column < 2 ^ r) (due : pos 0 <ℤ entry s.pyramid r row column) where
  pub unburnt : burnt_at r s.serials row column ≡ 0
  unburnt = go (ℕ_discrete (burnt_at r s.serials row column) 0)
    where
      go : Dec (burnt_at r s.serials row column ≡ 0) → burnt_at r s.serials row column ≡ 0
      go (yes z) = z
      go (no z) =
          absurd (omega
          (ints, due, sound.burnt_at_most row column i j (omega (arith, burnt_at_le r s.serials row column))))
