-- What the renewal of any pyramid does, entry by entry (`renewed_says`), and again clause by clause.
use Rattle.std.specs.Prelude.{◌≡◌, Bool, true, false, List, length, ℤ}
use Rattle.std.proofs.Math.Path.{refl}
use Rattle.std.proofs.Common.{◌∙◌, length-append, length-drop}
use Prim.Native.Nat.{ℕ, zero, suc, ◌+◌, ◌^◌, ◌<◌}
use native.Mathlib.Omega.{arith}
use Rattle.definition.specs.Pyramid.{start, entry, four}
use Rattle.definition.specs.Renewal.{over_these, renewed}
use Rattle.quadtree.specs.Levels.{start_suc}
use Rattle.quadtree.specs.Pyramids.{entry_drop}
use Rattle.quadtree.specs.Renewal.{
  over_at,
  Renewed,
  finer,
  over,
  coarse,
  coarse_long,
  after,
  up_long,
  after_finer,
  says_sums,
  says_others,
}

module _ (k : ℕ) (these : ℕ → ℕ → Bool) (before : List ℤ) (long : length before ≡ start (suc (suc k))) (up : List ℤ)
    (ih : Renewed k (over k these before long) (coarse k these before long) up) where
  says : Renewed (suc k) these before (after k these before long up ih)
  says =
      record {
        same_length =
            omega (
              arith,
              length-append up (finer k these before long),
              up_long k these before long up ih,
              length-drop (start (suc k)) before,
              long,
              start_suc (suc k),
            );
        cells = λ x y. after_finer k these before long up ih x y ∙ entry_drop before (suc k) x y;
        sums = says_sums k these before long up ih;
        others = says_others k these before long up ih;
      }

-- what the renewal does to any pyramid, right or not (S 12.3)
pub renewed_says : (r : ℕ) (these : ℕ → ℕ → Bool) (before : List ℤ) → length before ≡ start (suc r)
    → Renewed r these before (renewed r these before)
unfolding renewed
renewed_says zero these before long =
    record {
      same_length = refl;
      cells = λ x y. refl;
      sums = λ j k a b e. absurd (omega arith);
      others = λ j k a b e. absurd (omega arith);
    }
renewed_says (suc k) these before long =
    says k these before long _
    (renewed_says k (over_these these) (coarse k these before long) (coarse_long k these before long))

-- ---- what the request asks for, written out clause by clause, each taken from a field
module _ (r : ℕ) (these : ℕ → ℕ → Bool) (before : List ℤ) (long : length before ≡ start (suc r)) where
  abbrev renewal : List ℤ
  renewal = renewed r these before

  says_so : Renewed r these before renewal
  says_so = renewed_says r these before long

  pub renewed_length : length renewal ≡ length before
  renewed_length = says_so.same_length

  pub renewed_cells : (x y : ℕ) → entry renewal r x y ≡ entry before r x y
  renewed_cells = says_so.cells

  -- an entry of level k, at least one level above the cells
  module _ (j k a b : ℕ) (coarser : suc j + k ≡ r) (row : a < 2 ^ k) (column : b < 2 ^ k) where
    pub over_these_lem : over_at (suc j) these a b ≡ true → entry renewal k a b ≡ four (entry renewal (suc k)) a b
    over_these_lem = says_so.sums j k a b coarser row column

    pub not_over_these : over_at (suc j) these a b ≡ false → entry renewal k a b ≡ entry before k a b
    not_over_these = says_so.others j k a b coarser row column
