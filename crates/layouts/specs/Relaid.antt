-- A pyramid in one layout and in the other: the same entries (`rows_entry`), and there and back the same pyramid
-- (`rows_back`, `quarters_back`). Said once, over any `Layout` that gives each entry of a level one place of it.
use Rattle.std.specs.Prelude.{◌≡◌, length, ℤ, pos}
use Rattle.std.proofs.Math.Path.{refl, sym, ap, ap₂}
use Rattle.std.proofs.Common.{◌∙◌, take-add, take_all}
use mathlib.Core.List.{List, ◌++◌}
use Prim.Native.Nat.{ℕ, zero, suc, ◌+◌, ◌*◌, ◌^◌, ◌≤◌, ◌<◌}
use native.Mathlib.Omega.{arith}
use Rattle.std.proofs.Math.Decide.{ℕ_discrete}
use Rattle.std.proofs.Math.ListN.{get_or, take, drop, length-append, length-drop, get_or-append}
use Rattle.std.proofs.Math.Seq.{get_or-append-add, get_or-drop, get_or-take, length-take-le}
use Rattle.definition.specs.Lists.{tabulate, joined}
use Rattle.definition.specs.Pyramid.{start, needed, place_in, row_at, column_at, level_of, entry}
use Rattle.definition.specs.Quarters.{
  interleaved,
  row_of,
  column_of,
  quarter_entry,
  quarter_level,
  rows_from,
  quarters_from,
}
use Rattle.integers.specs.Lists.{length_tabulate, get_d_tabulate, tabulate_ext, eq_tabulate}
use Rattle.quadtree.specs.Levels.{
  start_thrice,
  start_suc,
  start_mono,
  place_lt,
  row_place_lem,
  column_place_lem,
  place_row_column,
  row_lt,
  column_lt,
}
use Rattle.layouts.specs.Interleaved.{
  interleaved_lt,
  row_interleaved,
  column_interleaved,
  interleaved_of,
  row_of_lt,
  column_of_lt,
}

-- the place of an entry of level k, and the row and column of a place
pub record Layout (place : ℕ → ℕ → ℕ → ℕ) (row column : ℕ → ℕ → ℕ) : Type 0 where
  pub in_level_lem : (k a b : ℕ) → a < 2 ^ k → b < 2 ^ k → place k a b < 2 ^ k * 2 ^ k
  pub row_back : (k a b : ℕ) → a < 2 ^ k → b < 2 ^ k → row k (place k a b) ≡ a
  pub column_back : (k a b : ℕ) → a < 2 ^ k → b < 2 ^ k → column k (place k a b) ≡ b
  pub place_back : (k i : ℕ) → i < 2 ^ k * 2 ^ k → place k (row k i) (column k i) ≡ i
  pub row_in : (k i : ℕ) → i < 2 ^ k * 2 ^ k → row k i < 2 ^ k
  pub column_in_lem : (k i : ℕ) → i < 2 ^ k * 2 ^ k → column k i < 2 ^ k

-- row after row (S 2.6)
pub by_rows : Layout place_in row_at column_at
by_rows =
    record {
      in_level_lem = place_lt;
      row_back = λ k a b p q. row_place_lem k a b q;
      column_back = λ k a b p q. column_place_lem k a b q;
      place_back = λ k i lt. place_row_column k i;
      row_in = row_lt;
      column_in_lem = λ k i lt. column_lt k i;
    }

-- by quarters (S 2.5): each place of a level has one entry (S 15.14)
pub by_quarters : Layout interleaved row_of column_of
by_quarters =
    record {
      in_level_lem = λ k a b p q. interleaved_lt k a b;
      row_back = λ k a b p q. row_interleaved k a b p;
      column_back = λ k a b p q. column_interleaved k a b q;
      place_back = interleaved_of;
      row_in = λ k i lt. row_of_lt k i;
      column_in_lem = λ k i lt. column_of_lt k i;
    }

module _ (place : ℕ → ℕ → ℕ → ℕ) (row column : ℕ → ℕ → ℕ)
    (layout : Layout place row column) where
  abbrev level : ℕ → (ℕ → ℕ → ℤ) → List ℤ
  level k f = tabulate (2 ^ k * 2 ^ k) (λ i. f (row k i) (column k i))

  abbrev at : List ℤ → ℕ → ℕ → ℕ → ℤ
  at pyramid k a b = get_or pyramid (start k + place k a b) (pos 0)

  -- levels one after the other
  abbrev levels : (ℕ → ℕ → ℕ → ℤ) → ℕ → List ℤ
  levels f n = joined n (λ k. level k (f k))

  length_levels : (f : ℕ → ℕ → ℕ → ℤ) (n : ℕ) → length (levels f n) ≡ start n
  unfolding joined
  length_levels f zero = omega (arith, start_thrice 0)
  length_levels f (suc n) =
      length-append (levels f n) (level n (f n))
      ∙ omega (
        arith,
        length_levels f n,
        length_tabulate 0 (2 ^ n * 2 ^ n) (λ i. f n (row n i) (column n i)),
        start_suc n,
      )

  -- their entries
  levels_at : (f : ℕ → ℕ → ℕ → ℤ) (n k a b : ℕ) → k < n → a < 2 ^ k → b < 2 ^ k
      → at (levels f n) k a b ≡ f k a b
  unfolding joined
  levels_at f zero k a b h p q = absurd (omega arith)
  levels_at f (suc n) k a b h p q = go (ℕ_discrete k n) (λ l. levels_at f n k a b l p q)
    where
      go : Dec (k ≡ n) → (k < n → at (levels f n) k a b ≡ f k a b)
          → at (levels f n ++ level n (f n)) k a b ≡ f k a b
      go (yes e) ih =
          ap (λ (i : ℕ). get_or (levels f n ++ level n (f n)) (i + place k a b) (pos 0))
          (ap start e ∙ sym (length_levels f n))
          ∙ get_or-append-add (levels f n) (level n (f n)) (place k a b) (pos 0)
          ∙ rw (← e)
          (get_d_tabulate (2 ^ k * 2 ^ k) (λ i. f k (row k i) (column k i)) (place k a b) (pos 0)
          (layout.in_level_lem k a b p q)
          ∙ ap₂ (f k) (layout.row_back k a b p q) (layout.column_back k a b p q))
      go (no e) ih =
          get_or-append (levels f n) (level n (f n)) (pos 0) (start k + place k a b)
          (omega (
            arith,
            length_levels f n,
            layout.in_level_lem k a b p q,
            start_suc k,
            start_mono (suc k) n (omega arith),
          ))
          ∙ ih (omega arith)

  -- a pyramid is made of its own entries
  levels_own : (pyramid : List ℤ) (n : ℕ) → start n ≤ length pyramid
      → levels (at pyramid) n ≡ take (start n) pyramid
  unfolding joined
  levels_own pyramid zero h = unfold start in refl
  levels_own pyramid (suc n) h =
      let size = 2 ^ n * 2 ^ n in
      let rest = drop (start n) pyramid in
      let long = length-take-le size rest (omega (arith, start_suc n, length-drop (start n) pyramid)) in
      ap₂ ◌++◌ (levels_own pyramid n (omega (arith, start_suc n)))
      (sym (eq_tabulate size (take size rest) _ (pos 0) long (λ i lt.
      get_or-take size rest i (pos 0) lt
      ∙ get_or-drop (start n) pyramid i (pos 0)
      ∙ ap (λ (m : ℕ). get_or pyramid (start n + m) (pos 0)) (sym (layout.place_back n i lt)))))
      ∙ sym (take-add (start n) size pyramid)
      ∙ ap (λ (m : ℕ). take m pyramid) (sym (start_suc n))

  levels_ext : (f g : ℕ → ℕ → ℕ → ℤ) (n : ℕ)
      → ((k a b : ℕ) → k < n → a < 2 ^ k → b < 2 ^ k → f k a b ≡ g k a b) → levels f n ≡ levels g n
  unfolding joined
  levels_ext f g zero h = refl
  levels_ext f g (suc n) h =
      ap₂ ◌++◌ (levels_ext f g n (λ k a b l. h k a b (omega arith)))
      (tabulate_ext (2 ^ n * 2 ^ n) _ _ (λ i lt.
      h n (row n i) (column n i) (omega arith) (layout.row_in n i lt) (layout.column_in_lem n i lt)))

  -- a pyramid with these entries
  levels_known : (pyramid : List ℤ) (f : ℕ → ℕ → ℕ → ℤ) (n : ℕ) → length pyramid ≡ start n
      → ((k a b : ℕ) → k < n → a < 2 ^ k → b < 2 ^ k → f k a b ≡ at pyramid k a b)
      → levels f n ≡ pyramid
  levels_known pyramid f n e h =
      levels_ext f (at pyramid) n h
      ∙ levels_own pyramid n (omega arith)
      ∙ take_all (start n) pyramid (omega arith)

-- ---- the two layouts
-- each entry moves to its place, in either direction
pub rows_entry : (r : ℕ) (pyramid : List ℤ) (k a b : ℕ) → k ≤ r → a < 2 ^ k → b < 2 ^ k
    → entry (rows_from r pyramid) k a b ≡ quarter_entry pyramid k a b
unfolding rows_from entry level_of
rows_entry r pyramid k a b h =
    levels_at place_in row_at column_at by_rows (quarter_entry pyramid) (suc r) k a b (omega arith)

pub quarters_entry : (r : ℕ) (pyramid : List ℤ) (k a b : ℕ) → k ≤ r → a < 2 ^ k → b < 2 ^ k
    → quarter_entry (quarters_from r pyramid) k a b ≡ entry pyramid k a b
unfolding quarters_from quarter_entry quarter_level
quarters_entry r pyramid k a b h =
    levels_at interleaved row_of column_of by_quarters (entry pyramid) (suc r) k a b (omega arith)

-- the top lies at place 0 in either layout
pub quarters_top : (r : ℕ) (pyramid : List ℤ) → get_or (quarters_from r pyramid) 0 (pos 0) ≡ get_or pyramid 0 (pos 0)
quarters_top r pyramid =
    let e = quarters_entry r pyramid 0 0 0 (omega arith) (omega arith) (omega arith) in
    unfold quarter_entry entry start interleaved place_in in e

pub length_rows : (r : ℕ) (pyramid : List ℤ) → length (rows_from r pyramid) ≡ needed r
unfolding rows_from level_of
length_rows r pyramid = length_levels place_in row_at column_at by_rows (quarter_entry pyramid) (suc r)

pub length_quarters : (r : ℕ) (pyramid : List ℤ) → length (quarters_from r pyramid) ≡ needed r
unfolding quarters_from quarter_level
length_quarters r pyramid = length_levels interleaved row_of column_of by_quarters (entry pyramid) (suc r)

-- and back: no entry is lost, no place is left out (S 15.14)
pub rows_back : (r : ℕ) (pyramid : List ℤ) → length pyramid ≡ needed r
    → rows_from r (quarters_from r pyramid) ≡ pyramid
unfolding rows_from level_of entry
rows_back r pyramid e =
    levels_known place_in row_at column_at by_rows pyramid (quarter_entry (quarters_from r pyramid)) (suc r) e
    (λ k a b h. quarters_entry r pyramid k a b (omega arith))

pub quarters_back : (r : ℕ) (pyramid : List ℤ) → length pyramid ≡ needed r
    → quarters_from r (rows_from r pyramid) ≡ pyramid
unfolding quarters_from quarter_level quarter_entry
quarters_back r pyramid e =
    levels_known interleaved row_of column_of by_quarters pyramid (entry (rows_from r pyramid)) (suc r) e
    (λ k a b h. rows_entry r pyramid k a b (omega arith))

-- two pyramids with the same entries are written alike
pub rows_ext : (r : ℕ) (p q : List ℤ)
    → ((k a b : ℕ) → k ≤ r → a < 2 ^ k → b < 2 ^ k → quarter_entry p k a b ≡ quarter_entry q k a b)
    → rows_from r p ≡ rows_from r q
unfolding rows_from level_of
rows_ext r p q h =
    levels_ext place_in row_at column_at by_rows (quarter_entry p) (quarter_entry q) (suc r)
    (λ k a b l. h k a b (omega arith))

pub quarters_ext : (r : ℕ) (p q : List ℤ)
    → ((k a b : ℕ) → k ≤ r → a < 2 ^ k → b < 2 ^ k → entry p k a b ≡ entry q k a b)
    → quarters_from r p ≡ quarters_from r q
unfolding quarters_from quarter_level
quarters_ext r p q h =
    levels_ext interleaved row_of column_of by_quarters (entry p) (entry q) (suc r)
    (λ k a b l. h k a b (omega arith))

-- the same of the first n levels
pub levels_same : (n : ℕ) (p q : List ℤ)
    → ((k a b : ℕ) → k < n → a < 2 ^ k → b < 2 ^ k → quarter_entry p k a b ≡ quarter_entry q k a b)
    → joined n (λ k. level_of k (quarter_entry p k)) ≡ joined n (λ k. level_of k (quarter_entry q k))
unfolding level_of
levels_same n p q h = levels_ext place_in row_at column_at by_rows (quarter_entry p) (quarter_entry q) n h

pub length_levels_rows : (n : ℕ) (p : List ℤ) → length (joined n (λ k. level_of k (quarter_entry p k))) ≡ start n
unfolding level_of
length_levels_rows n p = length_levels place_in row_at column_at by_rows (quarter_entry p) n
