-- The first difference of two patterns: its steps, the pair reversed (`back`), chains (`leads_chain`), what "same"
-- means (`same_cells`, `cells_same`), which cell is named (`named`).
use Rattle.std.specs.Prelude.{◌≡◌, Bool, true, false}
use Rattle.std.proofs.Math.Path.{refl, ap}
use Rattle.std.proofs.Common.{sym, ◌∙◌, true≢false, arith}
use Prim.Native.Nat.{ℕ, zero, suc, ◌+◌, ◌^◌, ◌≤◌, ◌<◌}
use Rattle.std.proofs.Math.Decide.{ℕ_discrete, dec_lt}
use borrow.Author.Tests.{lt-ltb, le-ltb}
use Rattle.definition.specs.Answers.{Compared, before, before_at, same, after_at, after}
use Rattle.definition.specs.Pyramid.{cell_number, place_in, row_at, column_at}
use Rattle.definition.specs.Shelf.{first_difference, is_before}
use Rattle.quadtree.specs.Levels.{column_lt, place_row_column}

-- how two numbers stand to each other
pub data Three (m n : ℕ) : Type 0 where
  less : m < n → Three m n
  equal : m ≡ n → Three m n
  greater : n < m → Three m n

pub three : (m n : ℕ) → Three m n
three m n = go (dec_lt m n) (dec_lt n m)
  where
    go : Dec (m < n) → Dec (n < m) → Three m n
    go (yes l) d = less l
    go (no l) (yes g) = greater g
    go (no l) (no g) = equal (omega arith)

-- the answer to the pair the other way round
unfoldable pub reversed : Compared → Compared
reversed before = after
reversed (before_at row column) = after_at row column
reversed same = same
reversed (after_at row column) = before_at row column
reversed after = before

-- what comes before is not the same, and what is the same comes neither before nor after
pub not_before : {A : Type 0} {c : Compared} → c ≡ same → is_before c ≡ true → A
not_before e h = absurd (true≢false (sym h ∙ ap is_before e ∙ unfold is_before in refl))

pub not_after : {A : Type 0} {c : Compared} → c ≡ same → is_before (reversed c) ≡ true → A
not_after e h =
    let same_too = ap (λ (x : Compared). is_before (reversed x)) e in
    absurd (true≢false (sym h ∙ same_too ∙ unfold is_before reversed in refl))

never : {A : Type 0} → false ≡ true → A
never e = absurd (true≢false (sym e))

-- whether a cell is named; and a cell is one row and one column
unfoldable pub at_cell : Compared → Bool
at_cell before = false
at_cell (before_at row column) = true
at_cell same = false
at_cell (after_at row column) = true
at_cell after = false

unfoldable cell_of : Compared → ℕ × ℕ
cell_of before = (0, 0)
cell_of (before_at row column) = (row, column)
cell_of same = (0, 0)
cell_of (after_at row column) = (0, 0)
cell_of after = (0, 0)

one_cell : {a b row column : ℕ} → before_at a b ≡ before_at row column → (a ≡ row) × (b ≡ column)
unfolding cell_of
one_cell e = (ap (λ (c : Compared). (cell_of c).0) e, ap (λ (c : Compared). (cell_of c).1) e)

pub number_at : (r i : ℕ) → cell_number r (row_at r i) (column_at r i) ≡ i
number_at r i = unfold place_in in place_row_column r i

module _ (r : ℕ) where
  module _ (f g : ℕ → ℕ) (left i : ℕ) where
    pub step_less : f i < g i → first_difference r (suc left) i f g ≡ before_at (row_at r i) (column_at r i)
    unfolding first_difference
    step_less h = rw (lt-ltb (f i) (g i) h, first_difference)

    pub step_greater : g i < f i → first_difference r (suc left) i f g ≡ after_at (row_at r i) (column_at r i)
    unfolding first_difference
    step_greater h = rw (le-ltb (f i) (g i) (omega arith), lt-ltb (g i) (f i) h, first_difference)

    pub step_equal : f i ≡ g i → first_difference r (suc left) i f g ≡ first_difference r left (suc i) f g
    unfolding first_difference
    step_equal h = rw (le-ltb (f i) (g i) (omega arith), le-ltb (g i) (f i) (omega arith), first_difference)

  -- the pair reversed
  pub back : (f g : ℕ → ℕ) (left i : ℕ)
      → first_difference r left i g f ≡ reversed (first_difference r left i f g)
  unfolding reversed
  back f g zero i = unfold first_difference in refl
  back f g (suc left) i = go (three (f i) (g i)) (back f g left (suc i))
    where
      go : Three (f i) (g i) → first_difference r left (suc i) g f ≡ reversed (first_difference r left (suc i) f g)
          → first_difference r (suc left) i g f ≡ reversed (first_difference r (suc left) i f g)
      go (less h) ih = step_greater g f left i h ∙ rw (step_less f g left i h)
      go (greater h) ih = step_less g f left i h ∙ rw (step_greater f g left i h)
      go (equal h) ih = step_equal g f left i (sym h) ∙ ih ∙ rw (step_equal f g left i h)

  -- before passes along a chain
  abbrev Leads : (ℕ → ℕ) → (ℕ → ℕ) → ℕ → ℕ → Type 0
  Leads f g left i = is_before (first_difference r left i f g) ≡ true

  pub leads_chain : (f g h : ℕ → ℕ) (left i : ℕ) → is_before (first_difference r left i f g) ≡ true
      → is_before (first_difference r left i g h) ≡ true → is_before (first_difference r left i f h) ≡ true
  unfolding is_before
  leads_chain f g h zero i u v = never (unfold first_difference in u)
  leads_chain f g h (suc left) i u v =
      go (three (f i) (g i)) (three (g i) (h i)) (leads_chain f g h left (suc i))
    where
      leads : f i < h i → Leads f h (suc left) i
      leads lt = rw (step_less f h left i lt)

      go : Three (f i) (g i) → Three (g i) (h i)
          → (Leads f g left (suc i) → Leads g h left (suc i) → Leads f h left (suc i)) → Leads f h (suc left) i
      go (less p) (less q) ih = leads (omega arith)
      go (less p) (equal q) ih = leads (omega arith)
      go (equal p) (less q) ih = leads (omega arith)
      go (equal p) (equal q) ih =
          rw (step_equal f h left i (p ∙ q))
          (ih (rw (step_equal f g left i p) at u) (rw (step_equal g h left i q) at v))
      go (greater p) q ih = never (rw (step_greater f g left i p) at u)
      go (less p) (greater q) ih = never (rw (step_greater g h left i q) at v)
      go (equal p) (greater q) ih = never (rw (step_greater g h left i q) at v)

  -- "same" says that all these cells are
  pub same_cells : (f g : ℕ → ℕ) (left i : ℕ) → first_difference r left i f g ≡ same
      → (k : ℕ) → i ≤ k → k < i + left → f k ≡ g k
  same_cells f g zero i e k lo hi = absurd (omega arith)
  same_cells f g (suc left) i e k lo hi = go (three (f i) (g i)) (same_cells f g left (suc i))
    where
      go : Three (f i) (g i)
          → (first_difference r left (suc i) f g ≡ same
          → (k : ℕ) → suc i ≤ k → k < suc i + left → f k ≡ g k)
          → f k ≡ g k
      go (less p) ih = not_before e (rw (step_less f g left i p) (unfold is_before in refl))
      go (greater p) ih = not_after e (rw (step_greater f g left i p) (unfold is_before reversed in refl))
      go (equal p) ih = here (ℕ_discrete k i)
        where
          here : Dec (k ≡ i) → f k ≡ g k
          here (yes z) = ap f z ∙ p ∙ ap g (sym z)
          here (no z) = ih (sym (step_equal f g left i p) ∙ e) k (omega arith) (omega arith)

  -- and if all of them are, that is the answer
  pub cells_same : (f g : ℕ → ℕ) (left i : ℕ) → ((k : ℕ) → i ≤ k → k < i + left → f k ≡ g k)
      → first_difference r left i f g ≡ same
  cells_same f g zero i h = unfold first_difference in refl
  cells_same f g (suc left) i h =
      step_equal f g left i (h i (omega arith) (omega arith))
      ∙ cells_same f g left (suc i) (λ k l m. h k (omega arith) (omega arith))

  -- only the values count
  pub first_ext : (f g f' g' : ℕ → ℕ) (left i : ℕ)
      → ((k : ℕ) → i ≤ k → k < i + left → f k ≡ f' k)
      → ((k : ℕ) → i ≤ k → k < i + left → g k ≡ g' k)
      → first_difference r left i f g ≡ first_difference r left i f' g'
  first_ext f g f' g' zero i h k = unfold first_difference in refl
  first_ext f g f' g' (suc left) i h k =
      go (three (f i) (g i))
      (first_ext f g f' g' left (suc i) (λ m u v. h m (omega arith) (omega arith))
      (λ m u v. k m (omega arith) (omega arith)))
    where
      fs : f i ≡ f' i
      fs = h i (omega arith) (omega arith)

      gs : g i ≡ g' i
      gs = k i (omega arith) (omega arith)

      go : Three (f i) (g i) → first_difference r left (suc i) f g ≡ first_difference r left (suc i) f' g'
          → first_difference r (suc left) i f g ≡ first_difference r (suc left) i f' g'
      go (less l) ih = step_less f g left i l ∙ sym (step_less f' g' left i (omega (arith, fs, gs)))
      go (greater l) ih = step_greater f g left i l ∙ sym (step_greater f' g' left i (omega (arith, fs, gs)))
      go (equal l) ih = step_equal f g left i l ∙ ih ∙ sym (step_equal f' g' left i (sym fs ∙ l ∙ gs))

  -- ---- the cell that is named
  -- where the left plate comes before the right at a cell: the cell, f less than g there, and all cells before it equal
  pub record Named (f g : ℕ → ℕ) (i row column : ℕ) : Type 0 where
    pub aside : column < 2 ^ r
    pub onwards : i ≤ cell_number r row column
    pub less_there : f (cell_number r row column) < g (cell_number r row column)
    pub equal_before : (k : ℕ) → i ≤ k → k < cell_number r row column → f k ≡ g k

  pub named : (f g : ℕ → ℕ) (left i row column : ℕ) → first_difference r left i f g ≡ before_at row column
      → Named f g i row column × (cell_number r row column < i + left)
  unfolding is_before
  named f g zero i row column e = never (unfold first_difference in ap is_before e)
  named f g (suc left) i row column e = go (three (f i) (g i)) (named f g left (suc i) row column)
    where
      go : Three (f i) (g i)
          → (first_difference r left (suc i) f g ≡ before_at row column
          → Named f g (suc i) row column × (cell_number r row column < suc i + left))
          → Named f g i row column × (cell_number r row column < i + suc left)
      go (less p) ih =
          let z = one_cell (sym (step_less f g left i p) ∙ e) in
          let at : cell_number r row column ≡ i = rw (← z.0, ← z.1) (number_at r i) in (
            record {
              aside = rw (← z.1) (column_lt r i);
              onwards = omega (arith, at);
              less_there = rw at p;
              equal_before = λ k lo hi. absurd (omega (arith, at));
            },
            omega (arith, at),
          )
      go (greater p) ih =
          never (ap is_before (sym (step_greater f g left i p) ∙ e))
      go (equal p) ih =
          let h = ih (sym (step_equal f g left i p) ∙ e) in (
            record {
              aside = h.0.aside;
              onwards = omega (arith, h.0.onwards);
              less_there = h.0.less_there;
              equal_before = λ k lo hi. here k lo hi (h.0.equal_before k) (ℕ_discrete k i);
            },
            omega (arith, h.1),
          )
        where
          here : (k : ℕ) → i ≤ k → k < cell_number r row column
              → (suc i ≤ k → k < cell_number r row column → f k ≡ g k) → Dec (k ≡ i) → f k ≡ g k
          here k lo hi later (yes z) = ap f z ∙ p ∙ ap g (sym z)
          here k lo hi later (no z) = later (omega arith) hi
