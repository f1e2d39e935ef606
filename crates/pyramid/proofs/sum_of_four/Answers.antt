-- `pyramid::sum_of_four`: no sum on the way overflows.
use mir.Facts.{to_z-of_z}
use Rattle.pyramid.specs.PyramidPart.{four_at}
use Rattle.pyramid.specs.Four.{asked_fit}
use Rattle.pyramid.proofs.sum_of_four.Goals as goal

pub returns : goal.returns
unfolding four_at
returns c =
    let k = asked_fit _ _ _ c.requires in
    simp (
      to_z-of_z k.first,
      to_z-of_z k.second,
      to_z-of_z k.two,
      to_z-of_z k.third,
      to_z-of_z k.three,
      to_z-of_z k.fourth,
      to_z-of_z k.all,
    )
