-- The two layouts as one: the row and column of a place, the test of every entry as one of every place (`every_in`),
-- and the entries of a pyramid in either (`entry_at`).
use Rattle.std.specs.Prelude.{◌≡◌, Bool, true, List, ℕ, zero, suc, ◌+◌, ◌*◌, ◌^◌, ◌≤◌, ◌<◌, get_or, ℤ, pos}
use Rattle.std.proofs.Math.Path.{refl}
use Rattle.std.proofs.Common.{sym, ap, ◌∙◌, arith}
use Rattle.std.proofs.Math.Bool.{false}
use Rattle.definition.specs.Lists.{all_to}
use Rattle.definition.specs.Pyramid.{start, place_in, row_at, column_at, entry}
use Rattle.definition.specs.Quarters.{interleaved, row_of, column_of, quarter_entry}
use Rattle.definition.specs.Sound.{every_entry}
use Rattle.integers.specs.Tests.{all_to_at, all_to_all, every_entry_at, every_entry_all, same_test}
use Rattle.places.specs.Parts.{place_parts}
use Rattle.layouts.specs.Interleaved.{interleaved_any}
use Rattle.layouts.specs.Relaid.{Layout, by_rows, by_quarters, rows_entry}
use Rattle.sound.specs.OnePlace.{in_rows, entry_in, row_place, column_place}

-- ════ places

unfoldable pub row_in : Bool → ℕ → ℕ → ℕ
row_in true k i = row_at k i
row_in false k i = row_of k i

unfoldable pub column_in : Bool → ℕ → ℕ → ℕ
column_in true k i = column_at k i
column_in false k i = column_of k i

unfoldable pub place_of : Bool → ℕ → ℕ → ℕ → ℕ
place_of true k a b = place_in k a b
place_of false k a b = interleaved k a b

pub layout : (rows : Bool) → Layout (place_of rows) (row_in rows) (column_in rows)
unfolding row_in column_in place_of
layout true = by_rows
layout false = by_quarters

-- a test of each entry of a level is one of each of its places
pub every_in : (rows : Bool) (k : ℕ) (test : ℕ → ℕ → Bool)
    → every_entry k test ≡ all_to (2 ^ k * 2 ^ k) (λ i. test (row_in rows k i) (column_in rows k i))
every_in rows k test =
    let l = layout rows in
    let at : ℕ → Bool = λ i. test (row_in rows k i) (column_in rows k i) in
    same_test (every_entry k test) (all_to (2 ^ k * 2 ^ k) at)
    (λ t. all_to_all (2 ^ k * 2 ^ k) at (λ i lt.
    every_entry_at k test t (row_in rows k i) (column_in rows k i) (l.row_in k i lt) (l.column_in_lem k i lt)))
    (λ t. every_entry_all k test (λ a b p q.
    rw (l.row_back k a b p q, l.column_back k a b p q)
    at (all_to_at (2 ^ k * 2 ^ k) at t (place_of rows k a b) (l.in_level_lem k a b p q))))

-- tests that agree at the places asked, and at the entries asked
pub all_to_ext : (n : ℕ) (f g : ℕ → Bool) → ((i : ℕ) → i < n → f i ≡ g i) → all_to n f ≡ all_to n g
unfolding all_to
all_to_ext zero f g h = refl
all_to_ext (suc n) f g h = rw (all_to_ext n f g (λ i lt. h i (omega arith)), h n (omega arith))

pub every_ext : (k : ℕ) (f g : ℕ → ℕ → Bool) → ((a b : ℕ) → a < 2 ^ k → b < 2 ^ k → f a b ≡ g a b)
    → every_entry k f ≡ every_entry k g
unfolding every_entry
every_ext k f g h = all_to_ext (2 ^ k) _ _ (λ a p. all_to_ext (2 ^ k) (f a) (g a) (λ b q. h a b p q))

-- ════ entries

entry_placed : (rows : Bool) (pyramid : List ℤ) (k a b : ℕ)
    → entry_in rows pyramid k a b ≡ get_or pyramid (start k + place_of rows k a b) (pos 0)
entry_placed true pyramid k a b = unfold entry_in place_of entry in refl
entry_placed false pyramid k a b = unfold entry_in place_of quarter_entry in refl

-- the entry at place i of level k
pub entry_at : (rows : Bool) (pyramid : List ℤ) (k i : ℕ) → i < 2 ^ k * 2 ^ k
    → entry_in rows pyramid k (row_in rows k i) (column_in rows k i) ≡ get_or pyramid (start k + i) (pos 0)
entry_at rows pyramid k i lt =
    entry_placed rows pyramid k (row_in rows k i) (column_in rows k i)
    ∙ ap (λ (n : ℕ). get_or pyramid (start k + n) (pos 0)) ((layout rows).place_back k i lt)

-- the entries row after row
pub in_rows_lem : (rows : Bool) (r : ℕ) (pyramid : List ℤ) (k a b : ℕ) → k ≤ r → a < 2 ^ k → b < 2 ^ k
    → entry (in_rows rows r pyramid) k a b ≡ entry_in rows pyramid k a b
unfolding in_rows entry_in
in_rows_lem true r pyramid k a b h p q = refl
in_rows_lem false r pyramid k a b h p q = rows_entry r pyramid k a b h p q

-- ════ cells

module _ (rows : Bool) (r : ℕ) (most : r ≤ 8) (a b : ℕ) (p : a < 2 ^ r) (q : b < 2 ^ r) where
  two_parts : row_place rows (2 ^ r) a + column_place rows b ≡ place_of rows r a b
  two_parts = go rows
    where
      go : (rows : Bool) → row_place rows (2 ^ r) a + column_place rows b ≡ place_of rows r a b
      go true = unfold row_place column_place place_of place_in in refl
      go false =
          unfold row_place column_place place_of in (sym (place_parts 8 a b) ∙ interleaved_any r a b most p q)

  pub two_parts_lt : row_place rows (2 ^ r) a + column_place rows b < 2 ^ r * 2 ^ r
  two_parts_lt = rw two_parts ((layout rows).in_level_lem r a b p q)

  pub cell_entry : (pyramid : List ℤ)
      → entry (in_rows rows r pyramid) r a b
      ≡ get_or pyramid (start r + row_place rows (2 ^ r) a + column_place rows b) (pos 0)
  cell_entry pyramid =
      in_rows_lem rows r pyramid r a b (omega arith) p q
      ∙ entry_placed rows pyramid r a b
      ∙ ap (λ (n : ℕ). get_or pyramid n (pos 0)) (omega (arith, two_parts))
