-- The comparison's ways out: by the counts (`by_fewer`, `by_more`), and by the first difference (`by_cell`).
use Rattle.std.specs.Prelude.{◌≡◌, List, ℕ, ◌<◌}
use Rattle.std.proofs.Math.Path.{refl, sym}
use Rattle.std.proofs.Common.{◌∙◌, arith}
use Rattle.definition.specs.Answers.{stands}
use Rattle.definition.specs.Pyramid.{cell_count}
use Rattle.definition.specs.Blocks.{dots_in, all_dots}
use Rattle.definition.specs.Shelf.{pattern, first_difference, compared}
use Rattle.definition.specs.declared.CompareAnswer.{CompareAnswer}
use Rattle.definition.specs.declared.CompareAnswer.TheVariants.{Before, After}
use Rattle.shelf_order.proofs.Order.{fewer, more, as_many}

module _ (left right : List ℕ) (r : ℕ) {m n : ℕ} (em : m ≡ dots_in r left 0 0 0)
    (en : n ≡ dots_in r right 0 0 0) where
  count_left : m ≡ all_dots r left
  count_left = em ∙ unfold all_dots in refl

  count_right : n ≡ all_dots r right
  count_right = en ∙ unfold all_dots in refl

  pub by_fewer : m < n → stands Before ≡ compared r left right
  unfolding stands
  by_fewer h = sym (fewer r left right (omega (arith, count_left, count_right)))

  pub by_more : n < m → stands After ≡ compared r left right
  unfolding stands
  by_more h = sym (more r left right (omega (arith, count_left, count_right)))

  pub by_cell : m ≡ n → (f : CompareAnswer)
      → stands f ≡ first_difference r (cell_count r) 0 (pattern left) (pattern right)
      → stands f ≡ compared r left right
  by_cell same f e = e ∙ sym (as_many r left right (omega (arith, count_left, count_right)))
