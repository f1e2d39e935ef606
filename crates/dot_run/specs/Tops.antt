-- The test of the top, made on a word: whether a dot is due (`none_owed`, `some_owed`).
use Rattle.std.specs.Prelude.{◌≡◌, true, false, ℤ, pos, ◌≤ℤ◌, ◌<ℤ◌}
use Rattle.std.specs.Int.Signed.{lt_z}
use Rattle.std.specs.Int.{w64}
use Rattle.std.proofs.Common.{SFits, to_z, of_z, to_z-of_z}
use Rattle.definition.specs.Pyramid.{half_dot}
use Rattle.integers.specs.Linear.{ints}

module _ (top : ℤ) (f : SFits w64 top) where
  pub low : lt_z (to_z w64 (of_z w64 top)) (pos half_dot) ≡ true → lt_z top (pos half_dot) ≡ true
  low e = rw (to_z-of_z f) at e

  pub high : lt_z (to_z w64 (of_z w64 top)) (pos half_dot) ≡ false → lt_z top (pos half_dot) ≡ false
  high e = rw (to_z-of_z f) at e

  pub none_owed : lt_z (to_z w64 (of_z w64 top)) (pos half_dot) ≡ true → top <ℤ pos half_dot
  none_owed e = let h = low e in omega ints

  pub some_owed : lt_z (to_z w64 (of_z w64 top)) (pos half_dot) ≡ false → pos half_dot ≤ℤ top
  some_owed e = let h = high e in omega ints
