-- Why the code of the descent meets the definition, on the pyramid written row after row: the sum with its tie
-- (`better_is`), the one that is taken (`taken_is`), one level down (`next_asked`), and the cell back from its
-- number (`cell_is`).
use Rattle.std.specs.Prelude.{◌≡◌, Bool, true, false, cond, List, length, take, ℤ, pos, ◌+ℤ◌}
use Rattle.std.proofs.Math.Path.{refl, sym, ap}
use Rattle.std.proofs.Common.{ap₂, ◌∙◌, add-one, pow_mono, take_all, to_z-of_z}
use Prim.Native.Nat.{ℕ, zero, suc, ◌+◌, ◌*◌, ◌-◌, ◌/◌, ◌%◌, ◌^◌, ◌≤◌, ◌<◌}
use native.Mathlib.Omega.{arith}
use Rattle.std.proofs.Math.Nat.{pow-succ', add-zero}
use Rattle.std.proofs.Math.ListN.{get_or}
use Rattle.std.specs.Int.Signed.{lt_z, le_z}
use Rattle.std.specs.Int.{w64}
use mir.Val.{SFits, bool_byte, to_z, of_z}
use Rattle.definition.specs.Pyramid.{start, needed, place_in, row_at, column_at, entry}
use Rattle.definition.specs.Quarters.{interleaved, quarter_entry, rows_from}
use Rattle.definition.specs.Descent.{candidate, first_of_equals, last_of_equals, of_equals, better, largest, descend}
use Rattle.integers.specs.Linear.{zz, ints}
use Rattle.integers.specs.Tests.{same_test}
use Rattle.integers.specs.Machine.{lt_z_back, words, machine}
use Rattle.quadtree.specs.Levels.{start_thrice, start_suc, start_mono, quadruple, row_place_lem, column_place_lem}
use Rattle.quadtree.specs.Guidance.{equals_fair, largest_quarter}
use Rattle.layouts.specs.Interleaved.{quarter, interleaved_lt}
use Rattle.layouts.specs.Relaid.{rows_entry}
use Rattle.pyramid.specs.PyramidPart.{Within}
use Rattle.descent.specs.declared.Candidate.{Candidate}
use Rattle.descent.specs.Candidates.{
  shown,
  candidate_at,
  better_of,
  largest_of,
  FourAsked,
  Taken,
  DescentAsked,
  number_of,
}

-- ---- the better of two: the best is below the later sum + tie just where the later one is taken
tied : (last : Bool) (best next : ℤ) → lt_z best (next +ℤ pos (bool_byte last)) ≡ of_equals last best next
unfolding of_equals first_of_equals last_of_equals
tied true best next =
    same_test (lt_z best (next +ℤ pos 1)) (le_z best next) (λ t. simp zz (omega (ints, simp zz at t)))
    (λ t. simp zz (omega ints))
tied false best next = let z : (next +ℤ pos 0) ≡ next = simp zz (omega ints) in rw z

-- the sum and the tie as words, and the test
module _ (last : Bool) (best next : Candidate)
    (f : SFits w64 best.sum) (g : SFits w64 next.sum) (small : Within (2 ^ 40) next.sum) where
  abbrev raised : ℤ
  raised = to_z w64 (of_z w64 next.sum) +ℤ to_z w64 (bool_byte last)

  raised_is : raised ≡ next.sum +ℤ pos (bool_byte last)
  raised_is = ap₂ ◌+ℤ◌ (to_z-of_z g) (tie_is last)
    where
      tie_is : (b : Bool) → to_z w64 (bool_byte b) ≡ pos (bool_byte b)
      tie_is true = refl
      tie_is false = refl

  pub raised_fits : SFits w64 raised
  raised_fits = rw raised_is (go last)
    where
      go : (b : Bool) → SFits w64 (next.sum +ℤ pos (bool_byte b))
      go true = simp words (omega (machine, small.low, small.high))
      go false = simp words (omega (machine, small.low, small.high))

  module _ {t : Bool} (e : lt_z (to_z w64 (of_z w64 best.sum)) (to_z w64 (of_z w64 raised)) ≡ t) where
    choice_is : of_equals last best.sum next.sum ≡ t
    choice_is =
        sym (tied last best.sum next.sum) ∙ ap (lt_z best.sum) (sym raised_is) ∙ lt_z_back f raised_fits e

    pub better_is : cond t next best ≡ better_of last best next
    unfolding better_of
    better_is = rw choice_is

-- it is one of the two, and the definition's
better_or : (P : Candidate → Type 0) (last : Bool) (best next : Candidate) → P best → P next
    → P (better_of last best next)
unfolding better_of
better_or P last best next p q = go (of_equals last best.sum next.sum)
  where
    go : (b : Bool) → P (cond b next best)
    go true = q
    go false = p

shown_better : (last : Bool) (a b : ℕ) (best next : Candidate)
    → shown a b (better_of last best next) ≡ better (of_equals last) (shown a b best) (shown a b next)
unfolding shown better_of better
shown_better last a b best next = go (of_equals last best.sum next.sum)
  where
    go : (t : Bool) → shown a b (cond t next best) ≡ cond t (shown a b next) (shown a b best)
    go true = refl
    go false = refl

-- ---- the largest of four
-- it is one of them
pub taken_is : (last : Bool) (pyramid : List ℤ) (first : ℕ) {q : ℕ} → q ≡ (largest_of last pyramid first).quarter
    → Taken last pyramid first q
unfolding largest_of
taken_is last pyramid first e =
    let P : Candidate → Type 0 = λ c. c.quarter < 4 in
    record {
      one =
          rw e
          (better_or P last _ _ (better_or P last _ _ (better_or P last _ _ (omega arith) (omega arith)) (omega arith))
          (omega arith));
      is = e;
    }

-- ---- one level down
start_four : (k : ℕ) → start (suc k) ≡ 4 * start k + 1
start_four k = omega (arith, start_thrice k, start_thrice (suc k), quadruple k)

step : (last : Bool) (rows : List ℤ) (left k a b : ℕ)
    → descend (of_equals last) rows (suc left) k a b
    ≡ descend (of_equals last) rows left (suc k) (largest (of_equals last) (entry rows (suc k)) a b).row
    (largest (of_equals last) (entry rows (suc k)) a b).column
unfolding descend
step last rows left k a b = refl

-- the definition's descent ends at a cell of the map
reached_in : (last : Bool) (rows : List ℤ) (left k r a b : ℕ) → left + k ≡ r → a < 2 ^ k → b < 2 ^ k
    → ((descend (of_equals last) rows left k a b).0 < 2 ^ r) × ((descend (of_equals last) rows left k a b).1 < 2 ^ r)
unfolding descend
reached_in last rows zero k r a b e p q = let z : k ≡ r = omega arith in rw (← z) (p, q)
reached_in last rows (suc left) k r a b e p q =
    let below = entry rows (suc k) in
    let is = largest_quarter (of_equals last) (equals_fair last) below a b in
    let next = largest (of_equals last) below a b in
    reached_in last rows left (suc k) r next.row next.column (omega arith)
    (rw (pow-succ' 2 k) (omega (arith, is.row_high))) (rw (pow-succ' 2 k) (omega (arith, is.column_high)))

module _ {pyramid : List ℤ} {r k at a b : ℕ} (h : DescentAsked pyramid r k at a b) where
  place_lt : at < start (suc k)
  place_lt = omega (arith, h.place, interleaved_lt k a b, start_suc k)

  module _ (more : k < r) where
    -- the four below lie in the pyramid
    below_room : 4 * at + 1 + 3 < length pyramid
    below_room =
        omega (arith, h.whole, place_lt, start_four (suc k), start_mono (suc (suc k)) (suc r) (omega arith))

    -- no number of an entry above the cells is large
    pub few : (a < 128) × (b < 128) × (at < 21845)
    few =
        let w : 2 ^ k ≤ 2 ^ 7 = pow_mono {i = k} {j = 7} (omega (arith, h.most)) in
        let e : start 8 ≡ 21845 = unfold start in refl in
        let u = start_mono (suc k) 8 (omega (arith, h.most)) in
        (omega (arith, h.row), omega (arith, h.column), omega (arith, place_lt))

    module _ (q : ℕ) (lt : q < 4) where
      below_place_lem : 4 * at + 1 + q ≡ start (suc k) + interleaved (suc k) (2 * a + q / 2) (2 * b + q % 2)
      below_place_lem =
          omega (arith, h.place, start_four k, quarter k a b (q / 2) (q % 2) (omega arith) (omega arith))

      below_row : 2 * a + q / 2 < 2 ^ suc k
      below_row = rw (pow-succ' 2 k) (omega (arith, h.row))

      below_column : 2 * b + q % 2 < 2 ^ suc k
      below_column = rw (pow-succ' 2 k) (omega (arith, h.column))

      -- each of the four is an entry to go on from
      below_asked : DescentAsked pyramid r (suc k) (4 * at + 1 + q) (2 * a + q / 2) (2 * b + q % 2)
      below_asked =
          record {
            most = h.most;
            level = omega arith;
            row = below_row;
            column = below_column;
            whole = h.whole;
            small = h.small;
            place = below_place_lem;
          }

      -- and the definition's, on the pyramid row after row
      shown_at : shown a b (candidate_at pyramid (4 * at + 1) q)
          ≡ candidate (entry (rows_from r pyramid) (suc k)) (2 * a + q / 2) (2 * b + q % 2)
      unfolding shown candidate quarter_entry
      shown_at =
          ap (λ (z : ℤ). record { row = 2 * a + q / 2; column = 2 * b + q % 2; sum = z })
          (ap (λ (m : ℕ). get_or pyramid m (pos 0)) below_place_lem
          ∙ sym (rows_entry r pyramid (suc k) (2 * a + q / 2) (2 * b + q % 2) (omega arith) below_row below_column))

    module _ (last : Bool) where
      abbrev below : ℕ → ℕ → ℤ
      below = entry (rows_from r pyramid) (suc k)

      -- the largest is the definition's
      shown_largest : shown a b (largest_of last pyramid (4 * at + 1)) ≡ largest (of_equals last) below a b
      unfolding largest_of largest
      shown_largest =
          rw (
            shown_better,
            shown_better,
            shown_better,
            shown_at 0 (omega arith),
            shown_at 1 (omega arith),
            shown_at 2 (omega arith),
            shown_at 3 (omega arith),
            add-zero (2 * a),
            add-zero (2 * b),
          )

      -- what is left to do from the one taken
      one_down : (q : ℕ) → Taken last pyramid (4 * at + 1) q
          → descend (of_equals last) (rows_from r pyramid) (r - suc k) (suc k) (2 * a + q / 2) (2 * b + q % 2)
          ≡ descend (of_equals last) (rows_from r pyramid) (r - k) k a b
      unfolding shown
      one_down q t =
          let n : r - k ≡ suc (r - suc k) = omega arith in
          rw (n, step last (rows_from r pyramid) (r - suc k) k a b, ← shown_largest, t.is)

-- ---- the calls
-- arrived at a cell
module _ {pyramid : List ℤ} {r k at a b : ℕ} (h : DescentAsked pyramid r k at a b) where
  pub here : (last : Bool) → k ≡ r → (a, b) ≡ descend (of_equals last) (rows_from r pyramid) (r - k) k a b
  unfolding descend
  here last e = let n : r - k ≡ 0 = omega (arith, e) in rw n

  pub number_here : (last : Bool) {side : ℕ} → k ≡ r → side ≡ 2 ^ r
      → a * side + b ≡ number_of r (descend (of_equals last) (rows_from r pyramid) (r - k) k a b)
  number_here last e es = rw (← here last e, es)

  module _ (ne : k ≡ r → ⊥) where
    more : k < r
    more = omega (arith, h.level)

    pub four_asked : {first : ℕ} → first ≤ 4 * at + 1 → FourAsked pyramid first
    four_asked le = record { room = omega (arith, below_room h more); small = h.small }

    -- no number on the way down is large
    pub entry_few : (a < 128) × (b < 128) × (at < 21845) × (k < 8)
    entry_few = let u = few h more in (u.0, u.1, u.2, omega (arith, h.most))

    -- the part lent on is the whole pyramid
    module _ {n : ℕ} (en : n ≡ needed r) where
      part_is : take n pyramid ≡ pyramid
      part_is = take_all n pyramid (omega (arith, en, h.whole))

      module _ {last : Bool} {q : ℕ} (t : Taken last pyramid (4 * at + 1) q) where
        pub next_asked : DescentAsked (take n pyramid) r (k + 1) (4 * at + 1 + q) (2 * a + q / 2) (2 * b + q % 2)
        next_asked = rw (part_is, add-one k) (below_asked h more q t.one)

        pub next_number : {m : ℕ}
            → m
            ≡ number_of r
            (descend (of_equals last) (rows_from r (take n pyramid)) (r - (k + 1)) (k + 1)
            (2 * a + q / 2) (2 * b + q % 2))
            → m ≡ number_of r (descend (of_equals last) (rows_from r pyramid) (r - k) k a b)
        next_number e = rw (part_is, add-one k, one_down h more last q t) at e

  -- back from the number of the cell reached
  module _ (last : Bool) where
    abbrev reached : ℕ × ℕ
    reached = descend (of_equals last) (rows_from r pyramid) (r - k) k a b

    pub cell_is : {n side : ℕ} → side ≡ 2 ^ r → n ≡ number_of r reached → (n / side, n % side) ≡ reached
    unfolding row_at column_at place_in
    cell_is es e =
        let c = reached_in last (rows_from r pyramid) (r - k) k r a b (omega (arith, h.level)) h.row h.column in
        rw (es, e)
        (ap₂ (λ (x y : ℕ). (x, y)) (row_place_lem r reached.0 reached.1 c.1)
        (column_place_lem r reached.0 reached.1 c.1))
