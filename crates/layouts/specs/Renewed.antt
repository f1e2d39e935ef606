-- The renewal on a pyramid by quarters, said by place: the entry at place i is over the places 4i to 4i + 3 of the next
-- finer level. Written row after row, it is the definition's renewal (`rows_renewed`).
use Rattle.std.specs.Prelude.{◌≡◌, Bool, cond, ◌||◌, ℕ, zero, suc, ◌+◌, ◌*◌, ◌^◌, ◌<◌, length, get_or, take, drop, ℤ}
use Rattle.std.specs.Prelude.{pos}
use Rattle.std.proofs.Math.Path.{refl, sym, ap, ap₂}
use Rattle.std.proofs.Common.{◌∙◌, length-take-le}
use mathlib.Core.List.{List, ◌++◌}
use native.Mathlib.Omega.{arith}
use Rattle.std.proofs.Math.Nat.{pow-succ'}
use Rattle.std.proofs.Math.ListN.{length-append, length-drop}
use Rattle.std.proofs.Math.Seq.{take_at, take-append-le}
use Rattle.definition.specs.Lists.{tabulate, joined}
use Rattle.definition.specs.Pyramid.{start, level_of, in_level, entry, four}
use Rattle.definition.specs.Renewal.{over_these, renewed}
use Rattle.definition.specs.Quarters.{interleaved, quarter_entry, rows_from}
use Rattle.integers.specs.Lists.{length_tabulate}
use Rattle.quadtree.specs.Levels.{start_suc}
use Rattle.quadtree.specs.Renewal.{level_ext}
use Rattle.layouts.specs.Interleaved.{quarter}
use Rattle.layouts.specs.Relaid.{rows_entry, length_levels_rows}
use Rattle.layouts.specs.Cells.{rows_made, up_to, up_taken, rows_up, rows_append, rows_cells}
use Rattle.layouts.specs.Sums.{four_from, four_places}

-- whether place i is over one of the chosen places of the next finer level
unfoldable pub over_chosen : (ℕ → Bool) → ℕ → Bool
over_chosen chosen i = chosen (4 * i) || chosen (4 * i + 1) || chosen (4 * i + 2) || chosen (4 * i + 3)

-- a pyramid of power k with all that is over the chosen places of its level k renewed
unfoldable pub quarters_renewed : ℕ → (ℕ → Bool) → List ℤ → List ℤ
quarters_renewed zero chosen pyramid = pyramid
quarters_renewed (suc k) chosen pyramid =
    let cells = drop (start (suc k)) pyramid in
    let over = over_chosen chosen in
    let level =
    tabulate (2 ^ k * 2 ^ k) (λ i. cond (over i) (four_from cells i) (get_or pyramid (start k + i) (pos 0))) in
    quarters_renewed k over (take (start k) pyramid ++ level) ++ cells

-- these places are those of these entries
abbrev pub Chosen : ℕ → (ℕ → Bool) → (ℕ → ℕ → Bool) → Type 0
Chosen k chosen these = (a b : ℕ) → a < 2 ^ k → b < 2 ^ k → chosen (interleaved k a b) ≡ these a b

module _ (k : ℕ) (chosen : ℕ → Bool) (these : ℕ → ℕ → Bool) (same : Chosen (suc k) chosen these) where
  one : (a b i j x y n : ℕ) → a < 2 ^ k → b < 2 ^ k → i < 2 → j < 2 → x ≡ 2 * a + i → y ≡ 2 * b + j
      → n ≡ 4 * interleaved k a b + (2 * i + j) → chosen n ≡ these x y
  one a b i j x y n p q u v ex ey en =
      ap chosen (en ∙ sym (quarter k a b i j u v) ∙ sym (ap₂ (interleaved (suc k)) ex ey))
      ∙ same x y (rw (pow-succ' 2 k) (omega arith)) (rw (pow-succ' 2 k) (omega arith))

  over_chosen_lem : Chosen k (over_chosen chosen) (over_these these)
  unfolding over_chosen over_these
  over_chosen_lem a b p q =
      let nw = one a b 0 0 (2 * a) (2 * b) (4 * interleaved k a b) p q
      (omega arith) (omega arith) (omega arith) (omega arith) (omega arith) in
      let ne = one a b 0 1 (2 * a) (2 * b + 1) (4 * interleaved k a b + 1) p q
      (omega arith) (omega arith) (omega arith) (omega arith) (omega arith) in
      let sw = one a b 1 0 (2 * a + 1) (2 * b) (4 * interleaved k a b + 2) p q
      (omega arith) (omega arith) (omega arith) (omega arith) (omega arith) in
      let se = one a b 1 1 (2 * a + 1) (2 * b + 1) (4 * interleaved k a b + 3) p q
      (omega arith) (omega arith) (omega arith) (omega arith) (omega arith) in
      rw (nw, ne, sw, se)

-- one level up
module _ (k : ℕ) (chosen : ℕ → Bool) (pyramid : List ℤ) (long : length pyramid ≡ start (suc (suc k))) where
  abbrev cells : List ℤ
  cells = drop (start (suc k)) pyramid

  abbrev made : ℕ → ℤ
  made i = cond (over_chosen chosen i) (four_from cells i) (get_or pyramid (start k + i) (pos 0))

  -- the pyramid that the levels over level k are renewed from
  abbrev lent : List ℤ
  lent = take (start k) pyramid ++ tabulate (2 ^ k * 2 ^ k) made

  abbrev rows : List ℤ
  rows = rows_from (suc k) pyramid

  head_long : length (take (start k) pyramid) ≡ start k
  head_long = length-take-le (start k) pyramid (omega (arith, long, start_suc k, start_suc (suc k)))

  lent_long : length lent ≡ start (suc k)
  lent_long =
      omega (
        arith,
        length-append (take (start k) pyramid) (tabulate (2 ^ k * 2 ^ k) made),
        head_long,
        length_tabulate 0 (2 ^ k * 2 ^ k) made,
        start_suc k,
      )

  up_long : length (quarters_renewed k (over_chosen chosen) lent) ≡ start (suc k)
      → length (quarters_renewed (suc k) chosen pyramid) ≡ start (suc (suc k))
  unfolding quarters_renewed
  up_long ih =
      omega (
        arith,
        length-append (quarters_renewed k (over_chosen chosen) lent) cells,
        ih,
        length-drop (start (suc k)) pyramid,
        long,
        start_suc (suc k),
      )

  -- the levels above level k
  rows_head : take (start k) rows ≡ up_to k (take (start k) pyramid)
  unfolding rows_from joined
  rows_head =
      take-append-le (start k) (up_to (suc k) pyramid) (level_of (suc k) (quarter_entry pyramid (suc k)))
      (omega (arith, length_levels_rows (suc k) pyramid, start_suc k))
      ∙ take_at (up_to k pyramid) (level_of k (quarter_entry pyramid k)) (start k) (length_levels_rows k pyramid)
      ∙ up_taken k pyramid

  module _ (these : ℕ → ℕ → Bool) (same : Chosen (suc k) chosen these) where
    -- level k, as the definition makes it
    abbrev defined : ℕ → ℕ → ℤ
    defined a b = cond (over_these these a b) (four (in_level (suc k) (drop (start (suc k)) rows)) a b)
        (entry rows k a b)

    level_is : level_of k defined ≡ level_of k (λ a b. made (interleaved k a b))
    unfolding quarter_entry
    level_is =
        level_ext k _ _ (λ a b p q.
        rw (← over_chosen_lem k chosen these same a b p q)
        (ap₂ (cond (over_chosen chosen (interleaved k a b)))
        (ap (λ (l : List ℤ). four (in_level (suc k) l) a b) (rows_cells (suc k) pyramid)
        ∙ sym (four_places k cells a b p q))
        (rows_entry (suc k) pyramid k a b (omega arith) p q)))

    rows_lent : rows_from k lent ≡ take (start k) rows ++ level_of k defined
    rows_lent =
        rows_append k (take (start k) pyramid) (tabulate (2 ^ k * 2 ^ k) made) head_long
        ∙ ap₂ ◌++◌ (sym rows_head) (rows_made k made ∙ sym level_is)

    up_renewed : length (quarters_renewed k (over_chosen chosen) lent) ≡ start (suc k)
        → rows_from k (quarters_renewed k (over_chosen chosen) lent) ≡ renewed k (over_these these) (rows_from k lent)
        → rows_from (suc k) (quarters_renewed (suc k) chosen pyramid) ≡ renewed (suc k) these rows
    unfolding quarters_renewed renewed
    up_renewed known ih =
        rows_append (suc k) (quarters_renewed k (over_chosen chosen) lent) cells known
        ∙ ap₂ ◌++◌
        (rows_up k (quarters_renewed k (over_chosen chosen) lent) ∙ ih ∙ ap (renewed k (over_these these)) rows_lent)
        (sym (rows_cells (suc k) pyramid))

pub length_renewed : (k : ℕ) (chosen : ℕ → Bool) (pyramid : List ℤ) → length pyramid ≡ start (suc k)
    → length (quarters_renewed k chosen pyramid) ≡ start (suc k)
length_renewed zero chosen pyramid e = unfold quarters_renewed in e
length_renewed (suc k) chosen pyramid e =
    up_long k chosen pyramid e
    (length_renewed k (over_chosen chosen) (lent k chosen pyramid e) (lent_long k chosen pyramid e))

pub rows_renewed : (k : ℕ) (chosen : ℕ → Bool) (these : ℕ → ℕ → Bool) (pyramid : List ℤ)
    → Chosen k chosen these → length pyramid ≡ start (suc k)
    → rows_from k (quarters_renewed k chosen pyramid) ≡ renewed k these (rows_from k pyramid)
rows_renewed zero chosen these pyramid same e = unfold quarters_renewed renewed in refl
rows_renewed (suc k) chosen these pyramid same e =
    let long = lent_long k chosen pyramid e in
    up_renewed k chosen pyramid e these same
    (length_renewed k (over_chosen chosen) (lent k chosen pyramid e) long)
    (rows_renewed k (over_chosen chosen) (over_these these) (lent k chosen pyramid e)
    (over_chosen_lem k chosen these same) long)
