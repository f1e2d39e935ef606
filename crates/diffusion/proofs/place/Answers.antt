-- `diffusion::place`: by the laws on what a cell lacks of a dot.
use borrow.Author.Rules.{rules}
use Rattle.diffusion.specs.Placing.{
  cell_in,
  cell_bytes,
  lack_fits,
  lack_sign,
  lack_word,
  lack_asked,
  burnt,
}
use Rattle.diffusion.proofs.place.Goals as goal

pub offset_bounds-cells-at : goal.offset_bounds-cells-at
offset_bounds-cells-at c =
    search (cell_bytes, rules)

pub slice_copy_out-d : goal.slice_copy_out-d
slice_copy_out-d c =
    search (cell_in, rules)

pub overflow_sub-d : goal.overflow_sub-d
overflow_sub-d c =
    search (lack_fits, rules)

pub offset_bounds-cells-at-2 : goal.offset_bounds-cells-at-2
offset_bounds-cells-at-2 c =
    search (cell_bytes, rules)

pub slice_set_of-cells : goal.slice_set_of-cells
slice_set_of-cells c =
    search (cell_in, rules)

pub overflow_cast-d : goal.overflow_cast-d
overflow_cast-d c =
    (search (lack_sign, rules), search (lack_word, rules))

pub diffuse_at-requires : goal.diffuse_at-requires
diffuse_at-requires c =
    record { diffuse_asked = search (lack_asked, rules); p_value = search rules }

pub returns : goal.returns
returns c =
    search (burnt, rules)
