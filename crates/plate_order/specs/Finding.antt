-- The search for the first difference, row by row and column by column: what is left of it (`Rest`, `rest_next`,
-- `rest_found`).
use Rattle.std.specs.Prelude.{◌≡◌, cond, List, ℕ, suc, ◌+◌, ◌*◌, ◌-◌, ◌^◌, ◌≤◌, ◌<◌, ltb, get_or}
use Rattle.std.proofs.Math.Path.{sym, ap}
use Rattle.std.proofs.Common.{ap₂, ◌∙◌, arith, mul-le-mul_right, suc-mul, lt-ltb, le-ltb}
use Rattle.definition.specs.Answers.{before_at, after_at, stands}
use Rattle.definition.specs.Pyramid.{cell_count, place_in, row_at, column_at}
use Rattle.definition.specs.Blocks.{burnt}
use Rattle.definition.specs.Shelf.{pattern, first_difference}
use Rattle.definition.specs.declared.CompareAnswer.{CompareAnswer}
use Rattle.definition.specs.declared.CompareAnswer.TheVariants.{Same}
use Rattle.integers.specs.Totals.{Total}
use Rattle.quadtree.specs.Levels.{row_place_lem, column_place_lem}
use Rattle.shelf_order.specs.Differences.{Three, less, equal, greater, three, step_less, step_greater, step_equal}

-- ---- the search
-- nothing differs before place i: what is found from there on is what is found
pub record Rest (a b : List ℕ) (r i : ℕ) : Type 0 where
  pub is : first_difference r (cell_count r) 0 (pattern a) (pattern b)
      ≡ first_difference r (cell_count r - i) i (pattern a) (pattern b)

module _ (a b : List ℕ) (r : ℕ) where
  module _ (n row : ℕ) where
    pub rest_end : n ≡ 2 ^ r → n ≤ row → Rest a b r (row * n)
        → stands Same ≡ first_difference r (cell_count r) 0 (pattern a) (pattern b)
    unfolding stands first_difference
    rest_end es le h =
        let m : 2 ^ r * 2 ^ r ≤ row * n = rw (← es) (mul-le-mul_right n le) in
        let z : cell_count r - row * n ≡ 0 = omega (arith, m) in
        let none = ap (λ (k : ℕ). first_difference r k (row * n) (pattern a) (pattern b)) z in
        sym (h.is ∙ none)

  -- at a cell, where the code has read the marks x and y
  module _ {n row column x y : ℕ} (es : n ≡ 2 ^ r) (hr : row < n) (hc : column < n)
      (h : Rest a b r (row * n + column))
      (ex : Total (burnt (get_or a (row * n + column) 0)) 1 x)
      (ey : Total (burnt (get_or b (row * n + column) 0)) 1 y) where
    one : cell_count r - (row * n + column) ≡ suc (cell_count r - suc (row * n + column))
    one =
        let m : row * n + column < cell_count r
        = rw (← es) (omega (arith, mul-le-mul_right n hr, suc-mul row n)) in
        omega (arith, m)

    here : first_difference r (cell_count r) 0 (pattern a) (pattern b)
        ≡ first_difference r (suc (cell_count r - suc (row * n + column))) (row * n + column) (pattern a) (pattern b)
    here = h.is ∙ ap (λ (k : ℕ). first_difference r k (row * n + column) (pattern a) (pattern b)) one

    left_mark : pattern a (row * n + column) ≡ x
    left_mark = unfold pattern in sym ex.is

    right_mark : pattern b (row * n + column) ≡ y
    right_mark = unfold pattern in sym ey.is

    pub rest_next : x ≡ y → Rest a b r (row * n + (column + 1))
    rest_next e =
        let z : row * n + (column + 1) ≡ suc (row * n + column) = omega arith in
        rw z (record { is = here ∙ step_equal r (pattern a) (pattern b) _ _ (left_mark ∙ e ∙ sym right_mark) })

    row_is : row_at r (row * n + column) ≡ row
    row_is = rw es (unfold place_in in row_place_lem r row column (rw (← es) hc))

    column_is : column_at r (row * n + column) ≡ column
    column_is = rw es (unfold place_in in column_place_lem r row column (rw (← es) hc))

    pub rest_found : (x ≡ y → ⊥) → (f : CompareAnswer)
        → stands f ≡ cond (ltb x y) (before_at row column) (after_at row column)
        → stands f ≡ first_difference r (cell_count r) 0 (pattern a) (pattern b)
    rest_found ne f e = e ∙ go (three x y) ∙ sym here
      where
        go : Three x y → cond (ltb x y) (before_at row column) (after_at row column)
            ≡ first_difference r (suc (cell_count r - suc (row * n + column))) (row * n + column)
            (pattern a) (pattern b)
        go (less l) =
            let below : pattern a (row * n + column) < pattern b (row * n + column)
            = omega (arith, left_mark, right_mark) in
            rw (lt-ltb x y l) (sym (step_less r (pattern a) (pattern b) _ _ below ∙ ap₂ before_at row_is column_is))
        go (equal l) = absurd (ne l)
        go (greater l) =
            let above : pattern b (row * n + column) < pattern a (row * n + column)
            = omega (arith, left_mark, right_mark) in
            rw (le-ltb x y (omega arith))
            (sym (step_greater r (pattern a) (pattern b) _ _ above ∙ ap₂ after_at row_is column_is))
