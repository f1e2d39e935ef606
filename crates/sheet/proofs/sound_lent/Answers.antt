-- `sheet::sound_lent`: the parts of just the needed lengths are tested.
use borrow.Author.Rules.{rules}
use Rattle.sheet.specs.Sheets.{pyramid_part, serials_part, order_part, sound_asked, sound_is}
use Rattle.sheet.proofs.sound_lent.Goals as goal

pub slice_bounds-is_sound-end : goal.slice_bounds-is_sound-end
slice_bounds-is_sound-end c =
    search (pyramid_part, rules)

pub slice_bounds-is_sound-end-2 : goal.slice_bounds-is_sound-end-2
slice_bounds-is_sound-end-2 c =
    search (serials_part, rules)

pub slice_bounds-is_sound-end-3 : goal.slice_bounds-is_sound-end-3
slice_bounds-is_sound-end-3 c =
    search (order_part, rules)

pub is_sound-requires : goal.is_sound-requires
is_sound-requires c =
    search (sound_asked, rules)

pub returns : goal.returns
returns c =
    search (sound_is, rules)
