-- `macroblock::is_due`: the sum fits in a word, and is half a dot or more.
use mir.Facts.{to_z-of_z}
use Rattle.macroblock.specs.Owing.{sums_fit}
use Rattle.macroblock.proofs.is_due.Goals as goal

pub returns : goal.returns
returns c =
    let k = sums_fit _ _ _ _ c.requires in
    simp (
      to_z-of_z k.first,
      to_z-of_z k.second,
      to_z-of_z k.two,
      to_z-of_z k.third,
      to_z-of_z k.three,
      to_z-of_z k.fourth,
      to_z-of_z k.all,
    )
