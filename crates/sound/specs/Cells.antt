-- The tests of every cell as tests of one cell after another (`row_every`, `held_every`), and of one cell
-- (`bounded_burnt`, `over`).
use Rattle.std.specs.Prelude.{◌≡◌, refl, Bool, true, false, not, ◌&&◌, List, ℕ, suc, ◌+◌, ◌*◌, ◌-◌, ◌^◌, ◌≤◌, ◌<◌, T}
use Rattle.std.specs.Prelude.{leb, length, get_or, set, ℤ, pos}
use Rattle.std.proofs.Common.{sym, ◌∙◌, arith, mul-le-mul, get_or-set_same, get_or-set_other, pow_mono}
use Rattle.std.proofs.Common.{to_z, of_z}
use Rattle.std.proofs.Math.Decide.{ℕ_discrete}
use Rattle.std.specs.Int.Signed.{le_z, mag}
use Rattle.std.specs.Int.{w64}
use Rattle.definition.specs.Lists.{sum_to, all_to}
use Rattle.definition.specs.Pyramid.{one_dot, start, place_in}
use Rattle.definition.specs.Quarters.{interleaved}
use Rattle.definition.specs.Blocks.{burnt, burnt_at}
use Rattle.definition.specs.Diffusion.{within, on_map}
use Rattle.definition.specs.Sound.{burnt_near, every_entry, bounded, owing}
use Rattle.integers.specs.Tests.{T_true, T_and, and_T, tests, same_test}
use Rattle.integers.specs.Tests.{and_true, all_to_at, all_to_all}
use Rattle.integers.specs.Linear.{zz, ints}
use Rattle.integers.specs.Machine.{back64}
use Rattle.quadtree.specs.Levels.{start_thrice, start_suc, start_mono, cell_lt}
use Rattle.blocks.specs.Squares.{dot_none, dot_one}
use Rattle.places.specs.Parts.{ColumnParts}
use Rattle.sound.specs.OnePlace.{in_rows, row_place, column_place, LineAsked, ColumnPlaces, GridAsked}
use Rattle.sound.specs.OnePlace.{NearAsked, NearPlace, RowAsked, bounded_cell}
use Rattle.sound.specs.OnePlace.{bounded_at, on_side, near_at, owing_at, held_at, held_in, row_held}
use Rattle.sound.specs.OnePlace.{held_row}
use Rattle.sound.specs.Either.{all_to_ext, two_parts_lt, cell_entry}
use Rattle.integers.specs.Loops.{Every, held}

-- ════ the two parts of a place

pub row_by_rows : {rows : Bool} (side a : ℕ) → rows ≡ true → a * side ≡ row_place rows side a
row_by_rows side a e = rw e (unfold row_place in refl)

pub row_by_quarters : {rows : Bool} (side a : ℕ) {p : ℕ} → rows ≡ false → p ≡ interleaved 8 a 0
    → p ≡ row_place rows side a
row_by_quarters side a e q = rw e (unfold row_place in q)

pub column_by_rows : {rows : Bool} (b : ℕ) → rows ≡ true → b ≡ column_place rows b
column_by_rows b e = rw e (unfold column_place in refl)

pub column_by_quarters : {rows : Bool} (b : ℕ) {p : ℕ} → rows ≡ false → p ≡ interleaved 8 0 b
    → p ≡ column_place rows b
column_by_quarters b e q = rw e (unfold column_place in q)

-- the columns one after another, row after row
pub columns_turn : {n : ℕ} {columns : List ℕ} → ColumnPlaces true n columns → n < length columns
    → ColumnPlaces true (n + 1) (set columns n n)
columns_turn {n} {columns} h lt = record { is = λ b p. go b p (ℕ_discrete b n) }
  where
    go : (b : ℕ) → b < n + 1 → Dec (b ≡ n) → get_or (set columns n n) b 0 ≡ column_place true b
    go b p (yes q) = rw q (get_or-set_same columns n n 0 lt ∙ column_by_rows n refl)
    go b p (no q) = get_or-set_other columns n b n 0 q ∙ h.is b (omega arith)

-- by quarters
pub columns_quarters : {rows : Bool} {side : ℕ} {columns : List ℕ} → rows ≡ false → ColumnParts side columns
    → ColumnPlaces rows side columns
columns_quarters e h = record { is = λ b lt. column_by_quarters b e (h.is b lt) }

-- ════ one cell's bound from above

lower : (residual : ℤ) → T (le_z residual (pos 0)) → T (le_z residual (pos one_dot))
lower residual t = simp zz (omega ints)

module _ (residual : ℤ) {serial : ℕ} (fits : mag residual < 2 ^ 63) where
  pub bounded_free : serial ≡ 0 → le_z (to_z w64 (of_z w64 residual)) (pos 65280) ≡ bounded_cell residual serial
  bounded_free e = rw (back64 residual fits, ← (dot_none e).is) (and_true (le_z residual (pos one_dot)))

  pub bounded_burnt : (serial ≡ 0 → ⊥) → le_z (to_z w64 (of_z w64 residual)) (pos 0) ≡ bounded_cell residual serial
  bounded_burnt n =
      let high = le_z residual (pos one_dot) in
      let low = le_z residual (pos 0) in
      rw (back64 residual fits, ← (dot_one n).is)
      (same_test low (high && low) (λ t. and_T high low (lower residual t) t) (λ t. (T_and high low t).1))

-- ════ burnt neighbours

module _ {side serials x y : ℕ} where
  pub near_place : {row column : ℕ} {a b : Bool} → NearAsked side serials row column → a ≡ on_side side x → not a
      ≡ false
      → b ≡ on_side side y → not b ≡ false → NearPlace side serials x y
  near_place h e f g k =
      let s = T_and (leb 1 x) (leb x side) (T_true _ (held e f)) in
      let t = T_and (leb 1 y) (leb y side) (T_true _ (held g k)) in
      let x₁ : 1 ≤ x = omega (tests, s.0) in
      let y₁ : 1 ≤ y = omega (tests, t.0) in
      let x₂ : x - 1 < side = omega (tests, s.1) in
      let y₂ : y - 1 < side = omega (tests, t.1) in
      record {
        down = x₁;
        across = y₁;
        inside = omega (arith, h.cells, cell_lt side (x - 1) (y - 1) x₂ y₂);
        few = omega (arith, h.cells, mul-le-mul h.small h.small);
      }

-- ════ both bounds of one cell

-- a cell over its bound from above fails; of any other the bound from below decides
module _ (side : ℕ) (pyramid : List ℤ) (serials : List ℕ) (at row column : ℕ) {a : Bool}
    (e : a ≡ bounded_at pyramid serials at (row * side + column)) where
  pub over : a ≡ false → a ≡ held_at side pyramid serials at row column
  unfolding held_at
  over f = f ∙ rw (sym e ∙ f)

  pub not_over : {b : Bool} → a ≡ true → b ≡ owing_at side pyramid serials at row column
      → b ≡ held_at side pyramid serials at row column
  unfolding held_at
  not_over f g = rw (sym e ∙ f) g

-- ════ both bounds of every cell of a row

pub row_every : (side first : ℕ) (columns : List ℕ) (pyramid : List ℤ) (serials : List ℕ) (row : ℕ)
    → Every (row_held side first columns pyramid serials row) (held_in side first columns pyramid serials row) side
unfolding row_held
row_every side first columns pyramid serials row = record { is = refl }

-- ════ both bounds of every cell

pub side_small_lem : {r side : ℕ} → r ≤ 8 → side ≡ 2 ^ r → side ≤ 256
side_small_lem {r} h e = rw e (pow_mono {i = r} {j = 8} h)

-- a row of a map of power r, whose cells begin at `off`
module _ (r : ℕ) {side row pyramid serials : ℕ} (h : GridAsked r pyramid serials) (es : side ≡ 2 ^ r)
    (lt : row < side) where
  pub line_asked : LineAsked side row
  line_asked = record { small = side_small_lem h.most es; within = lt }

  few_entries : pyramid ≤ 2 ^ 18
  few_entries = omega (arith, h.whole, start_mono (suc r) 9 (omega (arith, h.most)), start_thrice 9)

  module _ (rows : Bool) {off p : ℕ} (eo : off ≡ start r) (e : p ≡ row_place rows side row) where
    residual_in : (b : ℕ) → b < side → off + p + column_place rows b < pyramid
    residual_in b q =
        let k : p + column_place rows b < 2 ^ r * 2 ^ r =
        rw (e, es) (two_parts_lt rows r h.most row b (rw es at lt) (rw es at q)) in
        omega (arith, h.whole, start_suc r)

    pub first_few : off + p < 2 ^ 20
    first_few = omega (arith, residual_in row lt, few_entries)

    pub row_asked : {columns : List ℕ} → ColumnPlaces rows side columns
        → RowAsked side (off + p) columns pyramid serials row
    row_asked g =
        record {
          small = side_small_lem h.most es;
          cells = rw es h.cells;
          down = lt;
          few = omega (arith, few_entries);
          residuals = λ b q. rw (g.is b q) (residual_in b q);
        }

-- the test of a row whose first place the code has found
pub row_there : (rows : Bool) (side off : ℕ) (columns : List ℕ) (pyramid : List ℤ) (serials : List ℕ) (row : ℕ)
    → {p : ℕ} {b : Bool} → p ≡ row_place rows side row → b ≡ row_held side (off + p) columns pyramid serials row
    → b ≡ held_row rows side off columns pyramid serials row
row_there rows side off columns pyramid serials row e q = rw e at q

-- two tests of every place are one of both
all_to_both : (n : ℕ) (f g : ℕ → Bool) → (all_to n f && all_to n g) ≡ all_to n (λ i. f i && g i)
all_to_both n f g =
    let both : ℕ → Bool = λ i. f i && g i in
    same_test (all_to n f && all_to n g) (all_to n both)
    (λ t.
    let s = T_and (all_to n f) (all_to n g) t in
    all_to_all n both (λ i lt. and_T (f i) (g i) (all_to_at n f s.0 i lt) (all_to_at n g s.1 i lt)))
    (λ t.
    let s : (i : ℕ) → i < n → T (f i) × T (g i) = λ i lt. T_and (f i) (g i) (all_to_at n both t i lt) in
    and_T (all_to n f) (all_to n g) (all_to_all n f (λ i lt. (s i lt).0)) (all_to_all n g (λ i lt. (s i lt).1)))

every_both : (k : ℕ) (f g : ℕ → ℕ → Bool) → (every_entry k f && every_entry k g) ≡ every_entry k (λ a b. f a b && g a b)
unfolding every_entry
every_both k f g =
    all_to_both (2 ^ k) _ _ ∙ all_to_ext (2 ^ k) _ _ (λ a p. all_to_both (2 ^ k) (f a) (g a))

near_same : (r : ℕ) (serials : List ℕ) (a b : ℕ) → burnt_near r serials a b ≡ sum_to 9 (near_at (2 ^ r) serials a b)
unfolding burnt_near on_map within burnt_at
near_same r serials a b = refl

burnt_place : (r : ℕ) (serials : List ℕ) (a b : ℕ) → burnt_at r serials a b ≡ burnt (get_or serials (a * 2 ^ r + b) 0)
unfolding burnt_at place_in
burnt_place r serials a b = refl

module _ (rows : Bool) (r : ℕ) (most : r ≤ 8) {columns : List ℕ} (h : ColumnPlaces rows (2 ^ r) columns)
    (pyramid : List ℤ) (serials : List ℕ) where
  held_rows :
      (bounded r (in_rows rows r pyramid) serials && owing r (in_rows rows r pyramid) serials)
      ≡ all_to (2 ^ r) (held_row rows (2 ^ r) (start r) columns pyramid serials)
  unfolding bounded owing row_held held_at every_entry
  held_rows =
      every_both r _ _
      ∙ all_to_ext (2 ^ r) _ _ (λ a p. all_to_ext (2 ^ r) _ _ (λ b q.
      rw (cell_entry rows r most a b p q pyramid, burnt_place r serials a b, near_same r serials a b, h.is b q)))

pub held_every : (rows : Bool) (r : ℕ) {side off : ℕ} {columns : List ℕ} → r ≤ 8 → side ≡ 2 ^ r → off ≡ start r
    → ColumnPlaces rows side columns → (pyramid : List ℤ) (serials : List ℕ)
    → Every (bounded r (in_rows rows r pyramid) serials && owing r (in_rows rows r pyramid) serials)
    (held_row rows side off columns pyramid serials) side
held_every rows r most es eo h pyramid serials =
    record { is = rw (es, eo) (held_rows rows r most (rw es at h) pyramid serials) }
