-- The four blocks of a macroblock as the code reads them (`block_is`): their sum, and the one that owes most (`seen`).
use Rattle.std.specs.Prelude.{◌≡◌, Bool, not, cond, List, ℕ, suc, ◌+◌, ◌*◌, ◌-◌, ◌^◌, ◌≤◌, ◌<◌, length, get_or}
use Rattle.std.specs.Prelude.{ℤ, pos, ◌+ℤ◌}
use Rattle.std.proofs.Math.Path.{refl}
use Rattle.std.proofs.Common.{sym, ap, ap₂, ◌∙◌, arith, pow_mono, Fits, SFits, to_z, of_z, to_z-of_z}
use Rattle.std.proofs.Math.Bool.{true, false}
use Rattle.std.proofs.Math.Nat.{add-zero}
use Rattle.std.specs.Int.Signed.{le_z, lt_z}
use Rattle.std.specs.Int.{w64}
use Rattle.definition.specs.Pyramid.{half_dot, start, entry, four}
use Rattle.definition.specs.Quarters.{interleaved, quarter_entry, rows_from}
use Rattle.definition.specs.Descent as definition
use Rattle.definition.specs.Descent.{first_of_equals, candidate, largest}
use Rattle.heads.specs.TwoHeads.{block_sums, macroblock_sum}
use Rattle.integers.specs.Loops.{held, failed}
use Rattle.integers.specs.Machine.{lt_z_back, words, machine}
use Rattle.quadtree.specs.Levels.{start_suc, start_mono}
use Rattle.layouts.specs.Interleaved.{interleaved_lt, interleaved_any}
use Rattle.layouts.specs.Relaid.{rows_entry}
use Rattle.pyramid.specs.PyramidPart.{Within}
use Rattle.pyramid.specs.Four.{FourFit}
use Rattle.macroblock.specs.declared.Block.{Block}
use Rattle.macroblock.specs.FourBlocks.{
  BlockAsked,
  MacroblockAsked,
  SmallSums,
  block_of,
  better_of,
  largest_of,
  Seen,
}

-- ---- one block, read at its place
module _ (p : List ℤ) (r a b : ℕ) (h : BlockAsked p r a b) where
  side_most : 2 ^ (r - 2) ≤ 64
  side_most = pow_mono {i = r - 2} {j = 6} (omega (arith, h.least, h.most))

  few : length p ≤ 87381
  few =
      let e : start 9 ≡ 87381 = unfold start in refl in
      omega (arith, h.whole, start_mono (suc r) 9 (omega (arith, h.most)), e)

  pub column_few : b < 256
  column_few = omega (arith, h.column, side_most)

  module _ (first place : ℕ) (ef : first ≡ start (r - 2)) (ep : place ≡ interleaved 8 a b) where
    place_is : place ≡ interleaved (r - 2) a b
    place_is = ep ∙ interleaved_any (r - 2) a b (omega (arith, h.most)) h.row h.column

    pub block_in : first + place < length p
    block_in =
        omega (
          arith,
          ef,
          place_is,
          h.whole,
          interleaved_lt (r - 2) a b,
          start_suc (r - 2),
          start_mono (suc (r - 2)) (suc r) (omega arith),
        )

    pub at_fits : Fits w64 (first + place)
    at_fits = record { fits = omega (arith, block_in, few) }

    pub at_bytes : Fits w64 ((first + place) * 8)
    at_bytes = record { fits = omega (arith, block_in, few) }

    pub block_is : {z : ℤ} → z ≡ get_or p (first + place) (pos 0)
        → record { row = a; column = b; at = first + place; sum = z } ≡ block_of r (rows_from r p) a b
    unfolding quarter_entry
    block_is ez =
        rw (rows_entry r p (r - 2) a b (omega arith) h.row h.column, ez, ef, place_is)

-- ---- the better of two, and of four
module _ (best next : Block) (f : SFits w64 best.sum) (g : SFits w64 next.sum) where
  pub better_is : {t : Bool} → lt_z (to_z w64 (of_z w64 best.sum)) (to_z w64 (of_z w64 next.sum)) ≡ t
      → cond t next best ≡ better_of best next
  unfolding better_of first_of_equals
  better_is e = rw (lt_z_back f g e)

-- ---- four small numbers: no sum on the way overflows
pub sums_fit : (w x y z : ℤ) → SmallSums w x y z → FourFit w x y z
sums_fit w x y z h =
    let a = h.one in
    let b = h.two in
    let c = h.three in
    let d = h.four in
    record {
      first = simp words (omega machine);
      second = simp words (omega machine);
      third = simp words (omega machine);
      fourth = simp words (omega machine);
      two = simp words (omega machine);
      three = simp words (omega machine);
      all = simp words (omega machine);
    }

-- ---- a macroblock, in a pyramid by quarters
module _ (p : List ℤ) (r a b : ℕ) (h : MacroblockAsked p r a b) where
  abbrev rows : List ℤ
  rows = rows_from r p

  side_few : 2 ^ (r - 2) ≤ 64
  side_few = pow_mono {i = r - 2} {j = 6} (omega (arith, h.least, h.most))

  -- its four blocks, i rows and j columns on
  asked_at : (i j : ℕ) → i ≤ 1 → j ≤ 1 → BlockAsked p r (a + i) (b + j)
  asked_at i j le le' =
      record {
        least = h.least;
        most = h.most;
        row = omega (arith, h.row);
        column = omega (arith, h.column);
        whole = h.whole;
      }

  small_at : (i j : ℕ) → i ≤ 1 → j ≤ 1 → Within (2 ^ 40) (entry rows (r - 2) (a + i) (b + j))
  unfolding quarter_entry
  small_at i j le le' =
      let k = asked_at i j le le' in
      rw (rows_entry r p (r - 2) (a + i) (b + j) (omega arith) k.row k.column) (h.small.small _)

  -- a block of the code stands for a block of the definition, which counts rows and columns from the macroblock's own
  record For (c : Block) (d : definition.Candidate) : Type 0 where
    row : c.row ≡ a + d.row
    column : c.column ≡ b + d.column
    sum : c.sum ≡ d.sum
    place : c.at ≡ start (r - 2) + interleaved (r - 2) c.row c.column

  for_at : (i j : ℕ) → For (block_of r rows (a + i) (b + j)) (candidate (block_sums r rows (a, b)) i j)
  unfolding candidate block_sums
  for_at i j = record { row = refl; column = refl; sum = refl; place = refl }

  for_better : (c c' : Block) (d d' : definition.Candidate) → For c d → For c' d'
      → For (better_of c c') (definition.better first_of_equals d d')
  unfolding better_of definition.better
  for_better c c' d d' x y = rw (ap₂ first_of_equals x.sum y.sum) (go (first_of_equals d.sum d'.sum))
    where
      go : (t : Bool) → For (cond t c' c) (cond t d' d)
      go true = y
      go false = x

  pub sums_small : SmallSums (entry rows (r - 2) a b) (entry rows (r - 2) a (b + 1))
      (entry rows (r - 2) (a + 1) b) (entry rows (r - 2) (a + 1) (b + 1))
  sums_small =
      record {
        one = simp add-zero at (small_at 0 0 (omega arith) (omega arith));
        two = simp add-zero at (small_at 0 1 (omega arith) (omega arith));
        three = simp add-zero at (small_at 1 0 (omega arith) (omega arith));
        four = small_at 1 1 (omega arith) (omega arith);
      }

  -- the four as the code reads them
  module _ (c₀ c₁ c₂ c₃ : Block)
      (e₀ : c₀ ≡ block_of r rows a b) (e₁ : c₁ ≡ block_of r rows a (b + 1))
      (e₂ : c₂ ≡ block_of r rows (a + 1) b) (e₃ : c₃ ≡ block_of r rows (a + 1) (b + 1)) where
    fit : FourFit c₀.sum c₁.sum c₂.sum c₃.sum
    fit = rw (e₀, e₁, e₂, e₃) (sums_fit _ _ _ _ sums_small)

    -- their sums as words
    pub sums_asked : SmallSums (to_z w64 (of_z w64 c₀.sum)) (to_z w64 (of_z w64 c₁.sum))
        (to_z w64 (of_z w64 c₂.sum)) (to_z w64 (of_z w64 c₃.sum))
    sums_asked =
        rw (to_z-of_z fit.first, to_z-of_z fit.second, to_z-of_z fit.third, to_z-of_z fit.fourth)
        (rw (e₀, e₁, e₂, e₃) sums_small)

    for_largest : For (largest_of c₀ c₁ c₂ c₃) (largest first_of_equals (block_sums r rows (a, b)) 0 0)
    unfolding largest_of largest
    for_largest =
        for_better _ _ _ _
        (for_better _ _ _ _
        (for_better _ _ _ _ (rw e₀ (simp add-zero at (for_at 0 0))) (rw e₁ (simp add-zero at (for_at 0 1))))
        (rw e₂ (simp add-zero at (for_at 1 0))))
        (rw e₃ (for_at 1 1))

    whole_sum : c₀.sum +ℤ c₁.sum +ℤ c₂.sum +ℤ c₃.sum ≡ macroblock_sum r rows (a, b)
    unfolding macroblock_sum four block_sums
    whole_sum = rw (e₀, e₁, e₂, e₃, add-zero a, add-zero b)

    -- whether they owe enough, as the code finds it
    module _ {due : Bool}
        (ed : due
        ≡ le_z (pos half_dot)
        (to_z w64 (of_z w64 c₀.sum) +ℤ to_z w64 (of_z w64 c₁.sum)
        +ℤ to_z w64 (of_z w64 c₂.sum) +ℤ to_z w64 (of_z w64 c₃.sum))) where
      due_is : due ≡ le_z (pos half_dot) (macroblock_sum r rows (a, b))
      due_is =
          ed
          ∙ rw (to_z-of_z fit.first, to_z-of_z fit.second, to_z-of_z fit.third, to_z-of_z fit.fourth)
          (ap (le_z (pos half_dot)) whole_sum)

      pub little : not due ≡ true → false ≡ le_z (pos half_dot) (macroblock_sum r rows (a, b))
      little f = sym (failed due_is f)

      pub seen : not due ≡ false → (best : Block) → best ≡ largest_of c₀ c₁ c₂ c₃
          → Seen r rows a b true best.row best.column best.at
      seen f best eb =
          rw eb
          (record {
            due_is = sym (held due_is f);
            row_is = for_largest.row;
            column_is = for_largest.column;
            place_is = for_largest.place;
          })
