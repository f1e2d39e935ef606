-- `renewal::four_apart`.
use mir.Facts.{to_z-of_z}
use Rattle.pyramid.specs.PyramidPart.{four_at}
use Rattle.pyramid.specs.Four.{asked_fit}
use Rattle.renewal.proofs.four_apart.Goals as goal

pub returns : goal.returns
unfolding four_at
returns c =
    let k = asked_fit _ _ _ c.requires.four in
    simp (
      c.entry-a.ensures,
      c.entry-b.ensures,
      c.entry-c.ensures,
      c.entry-d.ensures,
      to_z-of_z k.first,
      to_z-of_z k.second,
      to_z-of_z k.two,
      to_z-of_z k.third,
      to_z-of_z k.three,
      to_z-of_z k.fourth,
      to_z-of_z k.all,
    )
