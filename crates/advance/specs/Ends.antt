-- What Advance says, from the test of the top on a word: finished or more (`says_finished`, `says_more`).
use Rattle.std.specs.Prelude.{◌≡◌, true, false, ℤ, pos}
use Rattle.std.specs.Int.Signed.{lt_z}
use Rattle.std.specs.Int.{w64}
use Rattle.std.proofs.Common.{SFits, to_z, of_z}
use Rattle.definition.specs.Answers.{status_says}
use Rattle.definition.specs.Pyramid.{half_dot}
use Rattle.definition.specs.Advance.{said_at}
use Rattle.definition.specs.declared.AdvanceStatus.TheVariants.{Finished, More}
use Rattle.dot_run.specs.Tops.{low, high}

module _ (top : ℤ) (f : SFits w64 top) where
  pub says_finished : lt_z (to_z w64 (of_z w64 top)) (pos half_dot) ≡ true → status_says Finished ≡ said_at top
  unfolding said_at status_says
  says_finished e = rw (low top f e)

  pub says_more : lt_z (to_z w64 (of_z w64 top)) (pos half_dot) ≡ false → status_says More ≡ said_at top
  unfolding said_at status_says
  says_more e = rw (high top f e)
