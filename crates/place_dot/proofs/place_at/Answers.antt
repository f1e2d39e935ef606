-- `place_dot::place_at`: the cells, the sums over them, the number noted.
use native.Mathlib.Omega.{arith}
use borrow.Author.Rules.{rules}
use Rattle.place_dot.specs.Placed.{parts_are, own_few, off_bytes, off_in, place_asked, renew_asked}
use Rattle.place_dot.specs.Placed.{numbers_few, note_asked, placed}
use Rattle.place_dot.proofs.place_at.Goals as goal

pub overflow_add-at : goal.overflow_add-at
overflow_add-at c =
    omega (
      arith,
      own_few _ _ _ _ _ _ _ c.requires.place_at_asked c.requires.pyramid_len
          (parts_are _ _ _ _ _ _ _ c.requires.place_at_asked c.requires.pyramid_len c.pow2-side.ensures
          c.parts_around-p.ensures),
    )

pub offset_bounds-pyramid-cells : goal.offset_bounds-pyramid-cells
offset_bounds-pyramid-cells c =
    search (off_bytes, rules)

pub slice_bounds-place-count : goal.slice_bounds-place-count
slice_bounds-place-count c =
    search (off_in, rules)

pub slice_bounds-place-start : goal.slice_bounds-place-start
slice_bounds-place-start c =
    search (off_in, rules)

pub place-requires : goal.place-requires
place-requires c =
    record {
      place_asked = search (place_asked, parts_are, rules);
      p_value =
          search (parts_are, rules);
    }

pub renew-requires : goal.renew-requires
renew-requires c =
    let asked = renew_asked _ _ _ _ _ _ _ c.requires.place_at_asked c.requires.pyramid_len in
    let parts =
    parts_are _ _ _ _ _ _ _ c.requires.place_at_asked c.requires.pyramid_len c.pow2-side.ensures
    c.parts_around-p.ensures in
    search (asked, parts, rules)

pub note-requires : goal.note-requires
note-requires c =
    let few = numbers_few _ _ _ _ _ _ _ c.requires.place_at_asked c.requires.pyramid_len c.pow2-side.ensures in
    note_asked _ _ _ _ _ _ _ c.requires.place_at_asked c.requires.pyramid_len _ (omega (arith, few))

pub returns : goal.returns
returns c =
    let of_sheet = placed _ _ _ _ _ _ _ c.requires.place_at_asked c.requires.pyramid_len in
    search (of_sheet, rules)
