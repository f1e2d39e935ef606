-- `program_texts::put_sketch_of_text`.
use Rattle.std.proofs.Common.{sym, arith, length-take-le}
use borrow.Author.Rules.{rules}
use Rattle.checks.specs.Checks.{gives_back}
use Rattle.program_texts.specs.Promised.{refused_answered, printed_answered, answered_as}
use Rattle.program_texts.specs.Sketching.{
  level_small,
  squares_in,
  squares_lent,
  sketch_page_is,
  sketch_refused,
}
use Rattle.program_texts.proofs.put_sketch_of_text.Goals as goal

pub returns-in_err-figures : goal.returns-in_err-figures
returns-in_err-figures c =
    refused_answered _ (gives_back _ _ c.from_residual.ensures.1)
    (sketch_refused _ _ _ _ _ (search rules) (search rules) (search rules) _ c.in_err-figures.ensures)

pub cell_count-squares-requires : goal.cell_count-squares-requires
cell_count-squares-requires c =
    level_small _ _ _ _ _ (search rules) (search rules) (search rules) _ c.in_ok-figures.ensures

pub slice_bounds-caps-end : goal.slice_bounds-caps-end
slice_bounds-caps-end c =
    squares_in _ _ _ _ _ (search rules) (search rules) (search rules) _ c.in_ok-figures.ensures
    c.cell_count-squares.ensures (search rules)

pub slice_bounds-put_sketch_page-end : goal.slice_bounds-put_sketch_page-end
slice_bounds-put_sketch_page-end c =
    sym (length-take-le _ _ (squares_in _ _ _ _ _ (search rules) (search rules) (search rules) _ c.in_ok-figures.ensures
    c.cell_count-squares.ensures (search rules)))

pub put_sketch_page-requires : goal.put_sketch_page-requires
put_sketch_page-requires c = (
  omega arith,
  squares_lent _ _ _ _ _ (search rules) (search rules) (search rules) _ c.in_ok-figures.ensures
      c.cell_count-squares.ensures (search rules),
)

pub returns : goal.returns
returns c =
    answered_as _ _ _ (sketch_page_is _ _ _ _ _ (search rules) (search rules) (search rules) _ c.in_ok-figures.ensures
    c.cell_count-squares.ensures) (printed_answered c.put_sketch_page.ensures)
