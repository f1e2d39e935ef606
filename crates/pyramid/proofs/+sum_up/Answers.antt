use native.Mathlib.Omega.{arith}
use Rattle.pyramid.specs.Upward.{
  up_in,
  level_asked,
  off_in,
  length_off,
  next_whole,
  next_small,
  back_done,
  nothing_above,
}
use borrow.Author.Rules.{rules}
use Rattle.pyramid.proofs.+sum_up.Goals as goal

pub offset_bounds-part-up : goal.offset_bounds-part-up
offset_bounds-part-up t c =
    omega (
      arith,
      up_in _ _ _ c.requires.0 c.requires.1 c.if-k-gt0.true c.level_start-up.ensures,
      c.well_formed.0.1,
    )

pub slice_bounds-fill_level-count : goal.slice_bounds-fill_level-count
slice_bounds-fill_level-count t c =
    search (up_in, rules)

pub slice_bounds-fill_level-start : goal.slice_bounds-fill_level-start
slice_bounds-fill_level-start t c =
    search (up_in, rules)

pub fill_level-requires : goal.fill_level-requires
fill_level-requires t c =
    (search rules, search (level_asked, rules))

pub slice_bounds-sum_up-end : goal.slice_bounds-sum_up-end
slice_bounds-sum_up-end t c =
    search (off_in, rules)

pub slice_bounds-sum_up-end-then-k-gt0 : goal.slice_bounds-sum_up-end-then-k-gt0
slice_bounds-sum_up-end-then-k-gt0 t c =
    search (length_off, rules)

pub sum_up-requires : goal.sum_up-requires
sum_up-requires t c =
    (search rules, (search (next_whole, rules), search (next_small, rules)))

pub returns-then-k-gt0 : goal.returns-then-k-gt0
returns-then-k-gt0 t c =
    search (back_done, rules)

pub returns-else-k-gt0 : goal.returns-else-k-gt0
returns-else-k-gt0 t c =
    search (nothing_above, rules)
