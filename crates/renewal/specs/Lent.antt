-- The renewal by itself: which pyramids it is made on (`then_small`, `made`), and that it leaves the others
-- (`left_alone`).
use Rattle.std.specs.Prelude.{◌≡◌, Bool, true, not, ◌&&◌, ℕ, zero, suc, ◌+◌, ◌-◌, ◌*◌, ◌^◌, ◌≤◌, ◌<◌, T, leb, ltb}
use Rattle.std.specs.Prelude.{eqb, length, take, ℤ, pos, negsuc, neg_ℤ}
use Rattle.std.proofs.Math.Path.{sym, ap, ap₂}
use Rattle.std.proofs.Common.{◌∙◌, arith, add-one, length-take-le, get_or-take, pow_mono, SFits, to_z, of_z, to_z-of_z}
use Rattle.std.proofs.Math.Bool.{false}
use mathlib.Core.List.{List, ◌++◌}
use Rattle.std.proofs.Math.Decide.{ℕ_discrete, dec_lt}
use Rattle.std.proofs.Math.ListN.{get_or, drop, get_or-eq_default}
use Rattle.std.specs.Int.Signed.{le_z}
use Rattle.std.specs.Int.{w64}
use Rattle.definition.specs.Pyramid.{start, needed, place_in, row_at, column_at, entry}
use Rattle.definition.specs.Quarters.{interleaved, row_of, column_of, quarter_entry, rows_from, as_rows, as_quarters}
use Rattle.definition.specs.ByQuarters.{renewal_by_quarters}
use Rattle.definition.specs.Refusals.{power_of}
use Rattle.definition.specs.Renewal.{is_near, renewed, is_small, entries_small, renewable, renewal_of}
use Rattle.integers.specs.Linear.{zz, ints}
use Rattle.integers.specs.Tests.{tests, T_true, T_and, and_T, T_four, four_T, same_test}
use Rattle.integers.specs.Tests.{all_to_none, all_to_suc, all_to_at, all_to_all}
use Rattle.integers.specs.Loops.{held, failed}
use Rattle.std.specs.List.{list_all}
use Rattle.std.proofs.lemmas.List.Folds.{list_all_more}
use Rattle.refusals.specs.Powers.{power_small, side_pow}
use Rattle.quadtree.specs.Levels.{start_thrice, start_suc, start_mono, place_lt, place_row_column, row_lt, column_lt}
use Rattle.layouts.specs.Interleaved.{interleaved_lt, interleaved_of, row_of_lt, column_of_lt}
use Rattle.layouts.specs.Relaid.{rows_entry, length_rows, quarters_back}
use Rattle.layouts.specs.Lent.{rows_length, rows_take, rows_drop, rows_taken, as_quarters_part, quarters_rows}
use Rattle.places.specs.declared.Parts.{Parts}
use Rattle.places.specs.Parts.{parts_around, AroundAsked}
use Rattle.pyramid.specs.PyramidPart.{Within, Whole, SmallPyramid}
use Rattle.pyramid.specs.Small.{zero_within}
use Rattle.renewal.specs.OverPlaces.{RenewAsked}

module _ (z : ℤ) (fits : SFits w64 z) where
  abbrev least : Bool
  least = le_z (neg_ℤ (pos (2 ^ 40))) z

  abbrev most : Bool
  most = le_z z (pos (2 ^ 40))

  abbrev not_below : Bool
  not_below = le_z (negsuc 1099511627775) (to_z w64 (of_z w64 z))

  pub too_low : not_below ≡ false → not_below ≡ is_small z
  unfolding is_small
  too_low e =
      let low = rw (to_z-of_z fits) at e in
      e ∙ same_test false (least && most) (λ t. absurd t)
      (λ t. let u = (T_and least most t).0 in absurd (omega ints))

  pub not_low : not_below ≡ true → le_z (to_z w64 (of_z w64 z)) (pos 1099511627776) ≡ is_small z
  unfolding is_small
  not_low e =
      let high = rw (to_z-of_z fits) at e in
      rw (to_z-of_z fits)
      (same_test most (least && most) (λ t. and_T least most (simp zz (omega ints)) t) (λ t. (T_and least most t).1))

-- the whole test, of the entries that it reads
take_small : (n : ℕ) (l : List ℤ) → n ≤ length l → list_all is_small (take n l) ≡ entries_small n l
unfolding entries_small
take_small zero l h = sym (all_to_none (λ i. is_small (get_or l i (pos 0))))
take_small (suc n) l h =
    let more : list_all is_small (take (n + 1) l) ≡ (list_all is_small (take n l) && is_small (get_or l n (pos 0))) =
    list_all_more is_small l n (pos 0) (omega arith) in
    rw add-one at more
    ∙ rw (take_small n l (omega arith)) (sym (all_to_suc n (λ i. is_small (get_or l i (pos 0)))))

within_small : (z : ℤ) → T (is_small z) → Within (2 ^ 40) z
unfolding is_small
within_small z t =
    let u = T_and (le_z (neg_ℤ (pos (2 ^ 40))) z) (le_z z (pos (2 ^ 40))) t in
    let v = u.0 in
    let w = u.1 in
    record { low = simp zz (omega ints); high = simp zz (omega ints) }

-- ---- the test reads a pyramid in either layout
-- what holds at every place of every level holds at every place
by_levels : (P : ℕ → Type 0) (r : ℕ) → ((k i : ℕ) → k ≤ r → i < 2 ^ k * 2 ^ k → P (start k + i))
    → (n : ℕ) → n < start (suc r) → P n
by_levels P zero h n lt = rw (← at) (h 0 0 (omega arith) (omega arith))
  where
    at : start 0 + 0 ≡ n
    at = omega (arith, start_suc 0, start_thrice 0)
by_levels P (suc r) h n lt =
    go (dec_lt n (start (suc r))) (λ l. by_levels P r (λ k i le. h k i (omega arith)) n l)
  where
    go : Dec (n < start (suc r)) → (n < start (suc r) → P n) → P n
    go (yes l) ih = ih l
    go (no l) ih =
        let at : start (suc r) + (n - start (suc r)) ≡ n = omega arith in
        rw at at (h (suc r) (n - start (suc r)) (omega arith) (omega (arith, start_suc (suc r))))

module _ (r : ℕ) (pyramid : List ℤ) (long : needed r ≤ length pyramid) where
  abbrev small_in : List ℤ → ℕ → Type 0
  small_in l n = T (is_small (get_or l n (pos 0)))

  -- row after row, the entry at place i of level k is that at the place of its row and column; and back
  rows_place : (k i : ℕ) → k ≤ r → i < 2 ^ k * 2 ^ k
      → get_or (rows_from r pyramid) (start k + i) (pos 0)
      ≡ get_or pyramid (start k + interleaved k (row_at k i) (column_at k i)) (pos 0)
  unfolding entry quarter_entry
  rows_place k i le lt =
      ap (λ (n : ℕ). get_or (rows_from r pyramid) (start k + n) (pos 0)) (sym (place_row_column k i))
      ∙ rows_entry r pyramid k (row_at k i) (column_at k i) le (row_lt k i lt) (column_lt k i)

  place_rows : (k i : ℕ) → k ≤ r → i < 2 ^ k * 2 ^ k
      → get_or pyramid (start k + i) (pos 0)
      ≡ get_or (rows_from r pyramid) (start k + place_in k (row_of k i) (column_of k i)) (pos 0)
  unfolding entry quarter_entry
  place_rows k i le lt =
      ap (λ (n : ℕ). get_or pyramid (start k + n) (pos 0)) (sym (interleaved_of k i lt))
      ∙ sym (rows_entry r pyramid k (row_of k i) (column_of k i) le (row_of_lt k i) (column_of_lt k i))

  in_needed : (k i : ℕ) → k ≤ r → i < 2 ^ k * 2 ^ k → start k + i < needed r
  in_needed k i le lt = omega (arith, start_suc k, start_mono (suc k) (suc r) (omega arith))

  as_rows_at : (n : ℕ) → n < needed r → get_or (as_rows r pyramid) n (pos 0) ≡ get_or (rows_from r pyramid) n (pos 0)
  as_rows_at n lt =
      sym (get_or-take (needed r) (as_rows r pyramid) n (pos 0) lt)
      ∙ ap (λ (l : List ℤ). get_or l n (pos 0)) (rows_take r pyramid long)

  rows_small : T (entries_small (needed r) pyramid) → T (entries_small (needed r) (as_rows r pyramid))
  unfolding entries_small
  rows_small t =
      all_to_all (needed r) (λ n. is_small (get_or (as_rows r pyramid) n (pos 0)))
      (by_levels (small_in (as_rows r pyramid)) r (λ k i le lt.
      rw (as_rows_at (start k + i) (in_needed k i le lt), rows_place k i le lt)
      (all_to_at (needed r) (λ n. is_small (get_or pyramid n (pos 0))) t _
      (in_needed k _ le (interleaved_lt k (row_at k i) (column_at k i))))))

  small_rows : T (entries_small (needed r) (as_rows r pyramid)) → T (entries_small (needed r) pyramid)
  unfolding entries_small
  small_rows t =
      all_to_all (needed r) (λ n. is_small (get_or pyramid n (pos 0)))
      (by_levels (small_in pyramid) r (λ k i le lt.
      let at = in_needed k _ le (place_lt k (row_of k i) (column_of k i) (row_of_lt k i) (column_of_lt k i)) in
      rw (place_rows k i le lt, ← as_rows_at _ at)
      (all_to_at (needed r) (λ n. is_small (get_or (as_rows r pyramid) n (pos 0))) t _ at)))

-- ---- what the test says
module _ (side row column : ℕ) (pyramid : List ℤ) where
  abbrev r : ℕ
  r = power_of side

  abbrev map_there : Bool
  map_there = not (eqb r 0) && leb (needed r) (length pyramid) && ltb row side && ltb column side

  record Fitting : Type 0 where
    power : 0 < r
    long : needed r ≤ length pyramid
    above : row < side
    left : column < side
    small : T (entries_small (needed r) pyramid)

  fitting : T (renewable side row column pyramid) → Fitting
  unfolding renewable
  fitting t =
      let u = T_and map_there (entries_small (needed r) pyramid) t in
      let v = T_four (not (eqb r 0)) (leb (needed r) (length pyramid)) (ltb row side) (ltb column side) u.0 in
      record { power = omega tests; long = omega tests; above = omega tests; left = omega tests; small = u.1 }

  fits_all : Fitting → T (renewable side row column pyramid)
  unfolding renewable
  fits_all h =
      and_T map_there (entries_small (needed r) pyramid)
      (four_T (not (eqb r 0)) (leb (needed r) (length pyramid)) (ltb row side) (ltb column side)
      (omega (tests, h.power)) (omega (tests, h.long)) (omega (tests, h.above)) (omega (tests, h.left)))
      h.small

  -- ---- as the code goes: each test that fails, and the last one
  unfit : (Fitting → ⊥) → false ≡ renewable side row column pyramid
  unfit h = same_test false (renewable side row column pyramid) (λ t. absurd t) (λ t. absurd (h (fitting t)))

  module _ {p : ℕ} (ep : p ≡ r) where
    pub no_side : p ≡ 0 → false ≡ renewable side row column pyramid
    no_side e = unfit (λ h. omega (arith, h.power))

    pub too_short : {n : ℕ} → n ≡ needed p → length pyramid < n → false ≡ renewable side row column pyramid
    too_short e lt = unfit (λ h. omega (arith, h.long, ap needed ep))

    pub off_row : side ≤ row → false ≡ renewable side row column pyramid
    off_row le = unfit (λ h. omega (arith, h.above))

    pub off_column : side ≤ column → false ≡ renewable side row column pyramid
    off_column le = unfit (λ h. omega (arith, h.left))

    pub then_small : (p ≡ 0 → ⊥) → {n : ℕ} → n ≡ needed p → n ≤ length pyramid → row < side → column < side → {b : Bool}
        → b ≡ list_all is_small (take n pyramid) → b ≡ renewable side row column pyramid
    then_small some {n} en long above left {b} eb =
        let e : b ≡ entries_small n pyramid = eb ∙ take_small n pyramid long in
        let en' : n ≡ needed r = en ∙ ap needed ep in
        same_test b (renewable side row column pyramid)
        (λ t. fits_all (record {
          power = positive some;
          long = omega arith;
          above = above;
          left = left;
          small = rw (← en', ← e) t;
        }))
        (λ t. rw (e, en') (fitting t).small)
      where
        positive : (p ≡ 0 → ⊥) → 0 < r
        positive f = go (ℕ_discrete r 0)
          where
            go : Dec (r ≡ 0) → 0 < r
            go (yes z) = absurd (f (ep ∙ z))
            go (no z) = omega arith

-- the same test in either layout
module _ (side row column : ℕ) (pyramid : List ℤ) where
  abbrev shown : List ℤ
  shown = as_rows (power_of side) pyramid

  renewable_rows : renewable side row column shown ≡ renewable side row column pyramid
  renewable_rows =
      same_test (renewable side row column shown) (renewable side row column pyramid)
      (λ t. fits_all side row column pyramid (to (fitting side row column shown t)))
      (λ t. fits_all side row column shown (from (fitting side row column pyramid t)))
    where
      same : length shown ≡ length pyramid
      same = rows_length (power_of side) pyramid

      to : Fitting side row column shown → Fitting side row column pyramid
      to h =
          let long : needed (power_of side) ≤ length pyramid = omega (arith, h.long, same) in
          record {
            power = h.power;
            long = long;
            above = h.above;
            left = h.left;
            small = small_rows (power_of side) pyramid long h.small;
          }

      from : Fitting side row column pyramid → Fitting side row column shown
      from h =
          record {
            power = h.power;
            long = omega (arith, h.long, same);
            above = h.above;
            left = h.left;
            small = rows_small (power_of side) pyramid h.long h.small;
          }

-- the definition's two cases
module _ (side row column : ℕ) (l : List ℤ) where
  not_made : renewable side row column l ≡ false → renewal_of side row column l ≡ (false, l)
  unfolding renewal_of
  not_made e = rw (renewal_of, e)

  is_made : renewable side row column l ≡ true
      → renewal_of side row column l
      ≡ (
        true,
        renewed (power_of side) (is_near row column) (take (needed (power_of side)) l)
            ++ drop (needed (power_of side)) l,
      )
  unfolding renewal_of
  is_made e = rw (renewal_of, e)

-- ---- where the code finds it so, or not
module _ (side row column : ℕ) (pyramid : List ℤ) where
  abbrev turned : Bool × List ℤ → Bool × List ℤ
  turned out = (out.0, as_quarters (power_of side) out.1)

  pub left_alone : {b : Bool} → b ≡ renewable side row column pyramid → not b ≡ true
      → (false, pyramid) ≡ renewal_by_quarters side row column pyramid
  unfolding renewal_by_quarters
  left_alone e f =
      let lent = as_rows (power_of side) pyramid in
      ap (λ (p : List ℤ). (false, p)) (sym (quarters_rows (power_of side) pyramid))
      ∙ sym (ap turned (not_made side row column lent (renewable_rows side row column pyramid ∙ failed e f)))

  module _ {p n : ℕ} (ep : p ≡ power_of side) (en : n ≡ needed p)
      {b : Bool} (eb : b ≡ renewable side row column pyramid) (f : not b ≡ false) where
    found : Fitting side row column pyramid
    found = fitting side row column pyramid (T_true _ (held eb f))

    n_is : n ≡ needed (power_of side)
    n_is = en ∙ ap needed ep

    pub part_in : n ≤ length pyramid
    part_in = omega (arith, n_is, found.long)

    pub length_part : n ≡ length (take n pyramid)
    length_part = sym (length-take-le n pyramid part_in)

    part_whole : Whole (take n pyramid) p
    part_whole = record { most = power_small side ep; long = sym length_part ∙ en ∙ ap start (sym (add-one p)) }

    row_on_map : row < 2 ^ p
    row_on_map = omega (arith, found.above, side_pow side found.power, ap (λ (k : ℕ). 2 ^ k) ep)

    column_on_map : column < 2 ^ p
    column_on_map = omega (arith, found.left, side_pow side found.power, ap (λ (k : ℕ). 2 ^ k) ep)

    small_at : (i : ℕ) → Dec (i < n) → Within (2 ^ 40) (get_or (take n pyramid) i (pos 0))
    small_at i (yes lt) =
        rw (get_or-take n pyramid i (pos 0) lt)
        (within_small (get_or pyramid i (pos 0))
        (all_to_at (needed (power_of side)) (λ j. is_small (get_or pyramid j (pos 0)))
        (unfold entries_small in found.small) i (rw n_is at lt)))
    small_at i (no ge) =
        rw (get_or-eq_default (take n pyramid) (pos 0) {n = i} (omega (arith, length_part))) (zero_within (2 ^ 40))

    part_small : SmallPyramid (take n pyramid)
    part_small = record { small = λ i. small_at i (dec_lt i n) }

    -- the parts around the cell, and all that the renewal asks
    pub around_asked : {length_side : ℕ} → length_side ≡ 2 ^ p → AroundAsked length_side row column
    around_asked es =
        rw es
        (record {
          most = pow_mono {i = p} {j = 8} (power_small side ep);
          above = row_on_map;
          left = column_on_map;
        })

    pub renew_asked : {length_side : ℕ} {parts : Parts} → length_side ≡ 2 ^ p
        → parts ≡ parts_around length_side row column → RenewAsked (take n pyramid) p parts row column
    renew_asked es eq =
        record {
          whole = part_whole;
          small = part_small;
          some = omega (arith, ep, found.power);
          above = row_on_map;
          left = column_on_map;
          parts_are = rw es at eq;
        }

    -- the part as it comes back, and the rest
    module _ (z : List ℤ) (ez : length z ≡ length (take n pyramid))
        (e : rows_from p z ≡ renewed p (is_near row column) (rows_from p (take n pyramid))) where
      abbrev power : ℕ
      power = power_of side

      part_is : renewed power (is_near row column) (take (needed power) (as_rows power pyramid)) ≡ rows_from power z
      part_is =
          ap (renewed power (is_near row column))
          (rows_take power pyramid found.long ∙ sym (rows_taken power pyramid))
          ∙ sym (rw (n_is, ep) at e)

      pub made : (true, z ++ drop n pyramid) ≡ renewal_by_quarters side row column pyramid
      unfolding renewal_by_quarters
      made =
          sym (ap turned (is_made side row column (as_rows power pyramid)
          (renewable_rows side row column pyramid ∙ held eb f)
          ∙ ap (λ (l : List ℤ). (true, l)) (ap₂ ◌++◌ part_is (rows_drop power pyramid)))
          ∙ ap (λ (l : List ℤ). (true, l))
          (as_quarters_part power (rows_from power z) (drop (needed power) pyramid) (length_rows power z)
          ∙ ap₂ ◌++◌ (quarters_back power z (ez ∙ sym length_part ∙ n_is))
          (ap (λ (m : ℕ). drop m pyramid) (sym n_is))))
