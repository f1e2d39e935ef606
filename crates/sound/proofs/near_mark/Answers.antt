-- `sound::near_mark`: by the laws on a place off the map, and on one on it.
use Rattle.sound.specs.Cells.{near_place}
use Rattle.sound.proofs.near_mark.Goals as goal

pub mark_at-requires : goal.mark_at-requires
mark_at-requires c =
    near_place c.requires.near_asked
    c.on_side.ensures c.if-not-on_side.false-raw c.on_side-2.ensures
    c.if-not-on_side-2.false-raw
