-- One level by quarters, written row after row; and the levels of a pyramid one by one: what is read and stored at an
-- entry's place is read and stored at its place row after row (`rows_in`, `rows_set`, `rows_cells`).
use Rattle.std.specs.Prelude.{◌≡◌, refl, List, ◌++◌, ℕ, suc, ◌+◌, ◌*◌, ◌^◌, ◌≤◌, ◌<◌, length, get_or, set, take, drop}
use Rattle.std.specs.Prelude.{ℤ, pos}
use Rattle.std.proofs.Common.{sym, ap, ap₂, ◌∙◌, arith, length-set, get_or-append-add, get_or-set_same}
use Rattle.std.proofs.Common.{get_or-set_other, get_or-drop, get_or-take, length-take-le, take_at, drop_at}
use Rattle.std.proofs.Math.Decide.{ℕ_discrete}
use Rattle.std.proofs.Math.ListN.{get_or-append}
use Rattle.definition.specs.Lists.{tabulate, joined}
use Rattle.definition.specs.Pyramid.{start, place_in, row_at, column_at, level_of, in_level}
use Rattle.definition.specs.Quarters.{interleaved, row_of, column_of, quarter_entry, quarter_level, rows_from}
use Rattle.integers.specs.Lists.{length_tabulate, get_d_tabulate, eq_tabulate}
use Rattle.quadtree.specs.Levels.{
  start_suc,
  start_mono,
  place_lt,
  row_place_lem,
  column_place_lem,
  place_row_column,
  row_lt,
  column_lt,
}
use Rattle.quadtree.specs.Pyramids.{length_level, level_entry}
use Rattle.quadtree.specs.Renewal.{level_ext}
use Rattle.layouts.specs.Interleaved.{interleaved_lt, row_interleaved, column_interleaved}
use Rattle.layouts.specs.Relaid.{levels_same, length_levels_rows}

-- ---- one level
-- a level by quarters, written row after row
unfoldable pub rows_level : ℕ → List ℤ → List ℤ
rows_level k level = level_of k (λ a b. get_or level (interleaved k a b) (pos 0))

pub length_rows_level : (k : ℕ) (level : List ℤ) → length (rows_level k level) ≡ 2 ^ k * 2 ^ k
unfolding rows_level
length_rows_level k level = length_level k _

-- a read is a read
pub rows_in : (k : ℕ) (level : List ℤ) (a b : ℕ) → a < 2 ^ k → b < 2 ^ k
    → in_level k (rows_level k level) a b ≡ get_or level (interleaved k a b) (pos 0)
unfolding rows_level
rows_in k level a b p q = level_entry k (λ a b. get_or level (interleaved k a b) (pos 0)) a b p q

-- a store is a store
pub rows_set : (r : ℕ) (cells : List ℤ) (x y : ℕ) (z : ℤ) → length cells ≡ 2 ^ r * 2 ^ r
    → x < 2 ^ r → y < 2 ^ r
    → rows_level r (set cells (interleaved r x y) z) ≡ set (rows_level r cells) (place_in r x y) z
unfolding rows_level level_of
rows_set r cells x y z long p q =
    sym (eq_tabulate size (set rows (place_in r x y) z) _ (pos 0) (length-set rows (place_in r x y) z ∙ rows_long)
    (λ i lt. go i lt (ℕ_discrete i (place_in r x y))))
  where
    size : ℕ
    size = 2 ^ r * 2 ^ r

    rows : List ℤ
    rows = tabulate (2 ^ r * 2 ^ r) (λ i. get_or cells (interleaved r (row_at r i) (column_at r i)) (pos 0))

    rows_long : length rows ≡ size
    rows_long = length_tabulate 0 (2 ^ r * 2 ^ r) _

    go : (i : ℕ) → i < 2 ^ r * 2 ^ r → Dec (i ≡ place_in r x y)
        → get_or (set rows (place_in r x y) z) i (pos 0)
        ≡ get_or (set cells (interleaved r x y) z) (interleaved r (row_at r i) (column_at r i)) (pos 0)
    go i lt (yes e) =
        rw (e, row_place_lem r x y q, column_place_lem r x y q)
        (get_or-set_same rows (place_in r x y) z (pos 0) (omega (arith, rows_long, place_lt r x y p q))
        ∙ sym (get_or-set_same cells (interleaved r x y) z (pos 0) (omega (arith, long, interleaved_lt r x y))))
    go i lt (no e) =
        get_or-set_other rows (place_in r x y) i z (pos 0) e
        ∙ get_d_tabulate (2 ^ r * 2 ^ r)
        (λ i. get_or cells (interleaved r (row_at r i) (column_at r i)) (pos 0)) i (pos 0) lt
        ∙ sym (get_or-set_other cells (interleaved r x y) (interleaved r (row_at r i) (column_at r i)) z (pos 0) (λ s.
        let u : row_at r i ≡ x =
        sym (row_interleaved r (row_at r i) (column_at r i) (row_lt r i lt))
        ∙ ap (row_of r) s ∙ row_interleaved r x y p in
        let v : column_at r i ≡ y =
        sym (column_interleaved r (row_at r i) (column_at r i) (column_lt r i))
        ∙ ap (column_of r) s ∙ column_interleaved r x y q in
        e (sym (place_row_column r i) ∙ ap₂ (place_in r) u v)))

-- the level that is made of its places, and the one that is made of its entries
pub rows_made : (k : ℕ) (made : ℕ → ℤ)
    → rows_level k (tabulate (2 ^ k * 2 ^ k) made) ≡ level_of k (λ a b. made (interleaved k a b))
unfolding rows_level
rows_made k made =
    level_ext k _ _ (λ a b p q.
    get_d_tabulate (2 ^ k * 2 ^ k) made (interleaved k a b) (pos 0) (interleaved_lt k a b))

pub length_quarter_level : (k : ℕ) (f : ℕ → ℕ → ℤ) → length (quarter_level k f) ≡ 2 ^ k * 2 ^ k
unfolding quarter_level
length_quarter_level k f = length_tabulate 0 (2 ^ k * 2 ^ k) _

pub rows_level_lem : (k : ℕ) (f : ℕ → ℕ → ℤ) → rows_level k (quarter_level k f) ≡ level_of k f
unfolding rows_level quarter_level
rows_level_lem k f =
    level_ext k _ _ (λ a b p q.
    get_d_tabulate (2 ^ k * 2 ^ k) (λ i. f (row_of k i) (column_of k i)) (interleaved k a b) (pos 0)
    (interleaved_lt k a b)
    ∙ ap₂ f (row_interleaved k a b p) (column_interleaved k a b q))

-- ---- the levels of a pyramid
-- the first n levels, written row after row
abbrev pub up_to : ℕ → List ℤ → List ℤ
up_to n pyramid = joined n (λ k. level_of k (quarter_entry pyramid k))

pub rows_up : (r : ℕ) (pyramid : List ℤ) → up_to (suc r) pyramid ≡ rows_from r pyramid
unfolding rows_from
rows_up r pyramid = refl

entry_front : (n : ℕ) (above cells : List ℤ) → length above ≡ start n → (k a b : ℕ) → k < n
    → quarter_entry (above ++ cells) k a b ≡ quarter_entry above k a b
unfolding quarter_entry
entry_front n above cells long k a b lt =
    get_or-append above cells (pos 0) (start k + interleaved k a b)
    (omega (arith, long, interleaved_lt k a b, start_suc k, start_mono (suc k) n (omega arith)))

entry_behind : (n : ℕ) (above cells : List ℤ) → length above ≡ start n → (a b : ℕ)
    → quarter_entry (above ++ cells) n a b ≡ get_or cells (interleaved n a b) (pos 0)
unfolding quarter_entry
entry_behind n above cells long a b =
    ap (λ (m : ℕ). get_or (above ++ cells) (m + interleaved n a b) (pos 0)) (sym long)
    ∙ get_or-append-add above cells (interleaved n a b) (pos 0)

entry_dropped : (n : ℕ) (pyramid : List ℤ) (a b : ℕ)
    → quarter_entry pyramid n a b ≡ get_or (drop (start n) pyramid) (interleaved n a b) (pos 0)
unfolding quarter_entry
entry_dropped n pyramid a b = sym (get_or-drop (start n) pyramid (interleaved n a b) (pos 0))

entry_taken : (n : ℕ) (pyramid : List ℤ) (k a b : ℕ) → k < n
    → quarter_entry pyramid k a b ≡ quarter_entry (take (start n) pyramid) k a b
unfolding quarter_entry
entry_taken n pyramid k a b lt =
    sym (get_or-take (start n) pyramid (start k + interleaved k a b) (pos 0)
    (omega (arith, interleaved_lt k a b, start_suc k, start_mono (suc k) n (omega arith))))

pub up_taken : (n : ℕ) (pyramid : List ℤ) → up_to n pyramid ≡ up_to n (take (start n) pyramid)
up_taken n pyramid =
    levels_same n pyramid (take (start n) pyramid) (λ k a b lt p q. entry_taken n pyramid k a b lt)

-- a level more, behind the others
pub rows_append : (n : ℕ) (above cells : List ℤ) → length above ≡ start n
    → rows_from n (above ++ cells) ≡ up_to n above ++ rows_level n cells
unfolding rows_from joined rows_level
rows_append n above cells long =
    ap₂ ◌++◌
    (levels_same n (above ++ cells) above (λ k a b lt p q. entry_front n above cells long k a b lt))
    (level_ext n _ _ (λ a b p q. entry_behind n above cells long a b))

-- the cells, and what lies over them
pub rows_cells : (r : ℕ) (pyramid : List ℤ)
    → drop (start r) (rows_from r pyramid) ≡ rows_level r (drop (start r) pyramid)
unfolding rows_from joined rows_level
rows_cells r pyramid =
    drop_at (up_to r pyramid) (level_of r (quarter_entry pyramid r)) (start r) (length_levels_rows r pyramid)
    ∙ level_ext r _ _ (λ a b p q. entry_dropped r pyramid a b)

pub rows_above : (r : ℕ) (pyramid : List ℤ)
    → take (start r) (rows_from r pyramid) ≡ up_to r (take (start r) pyramid)
unfolding rows_from joined
rows_above r pyramid =
    take_at (up_to r pyramid) (level_of r (quarter_entry pyramid r)) (start r) (length_levels_rows r pyramid)
    ∙ up_taken r pyramid

-- a pyramid with other cells
pub rows_replaced : (r : ℕ) (pyramid cells : List ℤ) → start r ≤ length pyramid
    → rows_from r (take (start r) pyramid ++ cells) ≡ take (start r) (rows_from r pyramid) ++ rows_level r cells
rows_replaced r pyramid cells h =
    rows_append r (take (start r) pyramid) cells (length-take-le (start r) pyramid h)
    ∙ ap (λ (l : List ℤ). l ++ rows_level r cells) (sym (rows_above r pyramid))
