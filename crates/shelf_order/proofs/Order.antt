-- The comparison is an order on burnt patterns. The laws are at the end, for all sheets (`one_way`, `reversing`,
-- `chain`, `same_iff`); and what a cell that is named says (`cell_first`).
use Rattle.std.specs.Prelude.{◌≡◌, ◌↔◌, ◌⊎◌, List, ℕ, ◌+◌, ◌^◌, ◌≤◌, ◌<◌}
use Rattle.std.proofs.Math.Path.{refl}
use Rattle.std.proofs.Common.{sym, ap, ◌∙◌, inl, inr, true≢false, arith, zero-mul, mul-le-mul_right, suc-mul}
use Rattle.std.proofs.Math.Bool.{true, false}
use Rattle.std.proofs.Math.Decide.{dec_lt}
use borrow.Author.Tests.{lt-ltb, le-ltb}
use Rattle.definition.specs.Answers.{Compared, before, before_at, same, after_at, after}
use Rattle.definition.specs.Pyramid.{cell_count, cell_number, row_at, column_at}
use Rattle.definition.specs.Blocks.{burnt_at, dots_in, all_dots}
use Rattle.definition.specs.Shelf.{pattern, first_difference, compared, is_before}
use Rattle.dots.specs.Marks.{burnt_at_le}
use Rattle.quadtree.specs.Areas.{area, area_ext, block_area}
use Rattle.quadtree.specs.Levels.{cell_lt, block_side_lem, row_lt, column_lt}
use Rattle.shelf_order.specs.Differences.{
  Three,
  less,
  equal,
  greater,
  three,
  reversed,
  not_before,
  not_after,
  at_cell,
  number_at,
  back,
  leads_chain,
  same_cells,
  cells_same,
  first_ext,
  Named,
  named,
}

module _ (r : ℕ) where
  -- ---- by the counts
  pub fewer : (a b : List ℕ) → all_dots r a < all_dots r b → compared r a b ≡ before
  fewer a b h = unfold compared in rw (lt-ltb (all_dots r a) (all_dots r b) h, compared)

  pub more : (a b : List ℕ) → all_dots r b < all_dots r a → compared r a b ≡ after
  more a b h =
      unfold compared in
      rw (le-ltb (all_dots r a) (all_dots r b) (omega arith), lt-ltb (all_dots r b) (all_dots r a) h, compared)

  pub as_many : (a b : List ℕ) → all_dots r a ≡ all_dots r b
      → compared r a b ≡ first_difference r (cell_count r) 0 (pattern a) (pattern b)
  as_many a b h =
      unfold compared in
      rw (
        le-ltb (all_dots r a) (all_dots r b) (omega arith),
        le-ltb (all_dots r b) (all_dots r a) (omega arith),
        compared,
      )

  -- ---- by the cells
  -- burnt in the same cells
  abbrev pub SamePattern : List ℕ → List ℕ → Type 0
  SamePattern a b =
      (row column : ℕ) → row < 2 ^ r → column < 2 ^ r → burnt_at r a row column ≡ burnt_at r b row column

  pattern_cell : (a : List ℕ) (row column : ℕ) → pattern a (cell_number r row column) ≡ burnt_at r a row column
  pattern_cell a row column = unfold pattern burnt_at in refl

  same_at : (a b : List ℕ) → SamePattern a b → (i : ℕ) → i < cell_count r → pattern a i ≡ pattern b i
  same_at a b h i lt =
      let x = row_at r i in
      let y = column_at r i in
      ap (pattern a) (sym (number_at r i)) ∙ pattern_cell a x y ∙ h x y (row_lt r i lt) (column_lt r i)
      ∙ sym (pattern_cell b x y) ∙ ap (pattern b) (number_at r i)

  at_same : (a b : List ℕ) → ((i : ℕ) → i < cell_count r → pattern a i ≡ pattern b i) → SamePattern a b
  at_same a b h x y p q =
      sym (pattern_cell a x y) ∙ h (cell_number r x y) (cell_lt (2 ^ r) x y p q) ∙ pattern_cell b x y

  all_area : (a : List ℕ) → all_dots r a ≡ area 0 0 (2 ^ r) (burnt_at r a)
  unfolding all_dots dots_in
  all_area a = block_area r (burnt_at r a) 0 0 0 ∙ rw (block_side_lem r r 0 (omega arith), zero-mul)

  dots_same : (a b : List ℕ) → SamePattern a b → all_dots r a ≡ all_dots r b
  dots_same a b h =
      all_area a
      ∙ area_ext 0 0 (2 ^ r) (burnt_at r a) (burnt_at r b) (λ x y i j. h x y (omega arith) (omega arith))
      ∙ sym (all_area b)

  -- the comparison sees patterns only
  pub compared_ext : (a b c d : List ℕ) → SamePattern a c → SamePattern b d → compared r a b ≡ compared r c d
  compared_ext a b c d h k = go (three (all_dots r a) (all_dots r b))
    where
      m : all_dots r a ≡ all_dots r c
      m = dots_same a c h

      l : all_dots r b ≡ all_dots r d
      l = dots_same b d k

      go : Three (all_dots r a) (all_dots r b) → compared r a b ≡ compared r c d
      go (less e) = fewer a b e ∙ sym (fewer c d (omega (arith, m, l)))
      go (greater e) = more a b e ∙ sym (more c d (omega (arith, m, l)))
      go (equal e) =
          as_many a b e
          ∙ first_ext r (pattern a) (pattern b) (pattern c) (pattern d) (cell_count r) 0
          (λ i u v. same_at a c h i (omega arith)) (λ i u v. same_at b d k i (omega arith))
          ∙ sym (as_many c d (sym m ∙ e ∙ l))

  -- ---- the laws
  -- reversing the pair reverses the answer: same stays same, and the cell stays (S 15.12)
  pub reversing : (a b : List ℕ) → compared r b a ≡ reversed (compared r a b)
  reversing a b = go (three (all_dots r a) (all_dots r b))
    where
      go : Three (all_dots r a) (all_dots r b) → compared r b a ≡ reversed (compared r a b)
      go (less h) = more b a h ∙ rw (fewer a b h) (unfold reversed in refl)
      go (greater h) = fewer b a h ∙ rw (more a b h) (unfold reversed in refl)
      go (equal h) = as_many b a (sym h) ∙ back r (pattern a) (pattern b) (cell_count r) 0 ∙ rw (as_many a b h)

  -- before passes along a chain (S 15.12)
  pub chain : (a b c : List ℕ) → is_before (compared r a b) ≡ true → is_before (compared r b c) ≡ true
      → is_before (compared r a c) ≡ true
  unfolding is_before
  chain a b c h k = go (three (all_dots r a) (all_dots r b)) (three (all_dots r b) (all_dots r c))
    where
      never : {A : Type 0} → false ≡ true → A
      never e = absurd (true≢false (sym e))

      go : Three (all_dots r a) (all_dots r b) → Three (all_dots r b) (all_dots r c)
          → is_before (compared r a c) ≡ true
      go (less u) (less v) = rw (fewer a c (omega arith))
      go (less u) (equal v) = rw (fewer a c (omega arith))
      go (equal u) (less v) = rw (fewer a c (omega arith))
      go (equal u) (equal v) =
          rw (as_many a c (u ∙ v))
          (leads_chain r (pattern a) (pattern b) (pattern c) (cell_count r) 0
          (rw (as_many a b u) at h) (rw (as_many b c v) at k))
      go (greater u) v = never (rw (more a b u) at h)
      go (less u) (greater v) = never (rw (more b c v) at k)
      go (equal u) (greater v) = never (rw (more b c v) at k)

  -- the answer is same exactly if the patterns are (S 15.12)
  pub same_iff : (a b : List ℕ) → (compared r a b ≡ same) ↔ SamePattern a b
  same_iff a b = (λ e. from e (three (all_dots r a) (all_dots r b)), to)
    where
      from : compared r a b ≡ same → Three (all_dots r a) (all_dots r b) → SamePattern a b
      from e (less h) = not_before e (rw (fewer a b h) (unfold is_before in refl))
      from e (greater h) = not_after e (rw (more a b h) (unfold is_before reversed in refl))
      from e (equal h) =
          let cells = same_cells r (pattern a) (pattern b) (cell_count r) 0 (sym (as_many a b h) ∙ e) in
          at_same a b (λ i lt. cells i (omega arith) (omega arith))

      to : SamePattern a b → compared r a b ≡ same
      to h =
          as_many a b (dots_same a b h)
          ∙ cells_same r (pattern a) (pattern b) (cell_count r) 0 (λ k l m. same_at a b h k (omega arith))

  -- two plates that are the same stand alike to a third
  pub alike : (a b c : List ℕ) → compared r a b ≡ same
      → (compared r a c ≡ compared r b c) × (compared r c a ≡ compared r c b)
  alike a b c e =
      let h = (same_iff a b).0 e in
      (compared_ext a c b c h (λ x y p q. refl), compared_ext c a c b (λ x y p q. refl) h)

-- any two plates compare one way: the first goes before, or they are the same, or it goes after, and just one of these
pub data OneWay (r : ℕ) (a b : List ℕ) : Type 0 where
  goes_before : is_before (compared r a b) ≡ true → is_before (compared r b a) ≡ false
      → (SamePattern r a b → ⊥) → OneWay r a b
  is_same : SamePattern r a b → is_before (compared r a b) ≡ false → is_before (compared r b a) ≡ false
      → OneWay r a b
  goes_after : is_before (compared r b a) ≡ true → is_before (compared r a b) ≡ false
      → (SamePattern r a b → ⊥) → OneWay r a b

-- two plates compare in one way (S 15.12)
pub one_way : (r : ℕ) (a b : List ℕ) → OneWay r a b
unfolding is_before reversed
one_way r a b = of (compared r a b) refl (reversing r a b)
  where
    unlike : is_before (compared r a b) ≡ true → SamePattern r a b → ⊥
    unlike e h = not_before ((same_iff r a b).1 h) e

    unlike' : is_before (compared r b a) ≡ true → SamePattern r a b → ⊥
    unlike' e h = not_before ((same_iff r b a).1 (λ x y p q. sym (h x y p q))) e

    of : (c : Compared) → compared r a b ≡ c → compared r b a ≡ reversed c → OneWay r a b
    of before e f = goes_before (ap is_before e) (ap is_before f) (unlike (ap is_before e))
    of (before_at x y) e f = goes_before (ap is_before e) (ap is_before f) (unlike (ap is_before e))
    of same e f = is_same ((same_iff r a b).0 e) (ap is_before e) (ap is_before f)
    of (after_at x y) e f = goes_after (ap is_before f) (ap is_before e) (unlike' (ap is_before f))
    of after e f = goes_after (ap is_before f) (ap is_before e) (unlike' (ap is_before f))

-- What the cell says that is named with "before": the counts agree, the first plate is unburnt there and the second
-- burnt, and in all cells before it, by row then column, they agree. With "after" the plates change places, by
-- `reversing`.
module _ (r : ℕ) (a b : List ℕ) (row column : ℕ) (e : compared r a b ≡ before_at row column) where
  pub counts_agree : all_dots r a ≡ all_dots r b
  unfolding at_cell
  counts_agree = go (three (all_dots r a) (all_dots r b))
    where
      never : {A : Type 0} → false ≡ true → A
      never e = absurd (true≢false (sym e))

      go : Three (all_dots r a) (all_dots r b) → all_dots r a ≡ all_dots r b
      go (less h) = never (ap at_cell (sym (fewer r a b h) ∙ e))
      go (greater h) = never (ap at_cell (sym (more r a b h) ∙ e))
      go (equal h) = h

  found : Named r (pattern a) (pattern b) 0 row column × (cell_number r row column < 0 + cell_count r)
  found = named r (pattern a) (pattern b) (cell_count r) 0 row column (sym (as_many r a b counts_agree) ∙ e)

  pub cell_on_map : (row < 2 ^ r) × (column < 2 ^ r)
  cell_on_map = (below (dec_lt row (2 ^ r)), found.0.aside)
    where
      below : Dec (row < 2 ^ r) → row < 2 ^ r
      below (yes h) = h
      below (no h) =
          let most : 2 ^ r ≤ row = omega arith in
          absurd (omega (arith, found.1, mul-le-mul_right (2 ^ r) most))

  differ : burnt_at r a row column < burnt_at r b row column
  differ = omega (arith, found.0.less_there, pattern_cell r a row column, pattern_cell r b row column)

  pub cell_unburnt : burnt_at r a row column ≡ 0
  cell_unburnt = omega (arith, differ, burnt_at_le r b row column)

  pub cell_burnt : burnt_at r b row column ≡ 1
  cell_burnt = omega (arith, differ, burnt_at_le r b row column)

  pub cell_first : (x y : ℕ) → y < 2 ^ r → (x < row) ⊎ ((x ≡ row) × (y < column))
      → burnt_at r a x y ≡ burnt_at r b x y
  cell_first x y lt where-it-is =
      sym (pattern_cell r a x y)
      ∙ found.0.equal_before (cell_number r x y) (omega arith) (earlier where-it-is)
      ∙ pattern_cell r b x y
    where
      earlier : (x < row) ⊎ ((x ≡ row) × (y < column)) → cell_number r x y < cell_number r row column
      earlier (inl h) = omega (arith, mul-le-mul_right (2 ^ r) h, suc-mul x (2 ^ r))
      earlier (inr h) = rw h.0 (omega (arith, h.1))
