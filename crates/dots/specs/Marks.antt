-- What a dot does to the serial sheet and the order list of a sheet whose holes are in order (`Ordered`): one cell more
-- is burnt (`burnt_at_lem`), and they stay in order (`ordered'`).
use Rattle.std.specs.Prelude.{◌≡◌, refl, ◌⊎◌, List, ℕ, zero, suc, ◌+◌, ◌*◌, ◌-◌, ◌^◌, ◌≤◌, ◌<◌, length, get_or, set}
use Rattle.std.proofs.Common.{sym, ◌∙◌, inl, inr, add-zero, get_or-set_same, ne_eqb}
use Rattle.std.proofs.Math.Path.{ap}
use native.Mathlib.Omega.{arith}
use Rattle.std.proofs.Math.Decide.{ℕ_discrete}
use Rattle.std.proofs.Math.Seq.{get_or-set_other}
use Rattle.definition.specs.Lists.{sum_to}
use Rattle.definition.specs.Pyramid.{cell_count, cell_number}
use Rattle.definition.specs.Blocks.{burnt, burnt_at}
use Rattle.integers.specs.Sums.{sum_to_bound, sum_to_change}
use Rattle.quadtree.specs.Points.{δ, hit, δδ_same}
use Rattle.quadtree.specs.Levels.{cell_lt, cell_same}

-- ---- a serial is 0, or that of a hole
pub burnt_suc : (n : ℕ) → burnt (suc n) ≡ 1
unfolding burnt
burnt_suc n = rw (ne_eqb (suc n) 0 (λ e. omega arith))

pub burnt_zero : (n : ℕ) → burnt n ≡ 0 → n ≡ 0
burnt_zero zero e = refl
burnt_zero (suc n) e = absurd (omega (arith, burnt_suc n))

pub burnt_le : (n : ℕ) → burnt n ≤ 1
burnt_le zero = unfold burnt in omega arith
burnt_le (suc n) = omega (arith, burnt_suc n)

pub burnt_at_le : (r : ℕ) (serials : List ℕ) (x y : ℕ) → burnt_at r serials x y ≤ 1
unfolding burnt_at
burnt_at_le r serials x y = burnt_le (get_or serials (cell_number r x y) 0)

-- the part of a sound sheet that speaks of serials and order alone (S 2.7, S 4.2, S 4.3, S 4.4)
pub record Ordered (r : ℕ) (serials order : List ℕ) (dots : ℕ) : Type 0 where
  pub in_order : (j : ℕ) → 1 ≤ j → j ≤ dots
      → (get_or order (j - 1) 0 < cell_count r) × (get_or serials (get_or order (j - 1) 0) 0 ≡ j)
  pub count : sum_to (cell_count r) (λ i. burnt (get_or serials i 0)) ≡ dots
  pub unused : (i : ℕ) → dots ≤ i → i < cell_count r → get_or order i 0 ≡ 0

module _ (r : ℕ) (serials order : List ℕ) (dots : ℕ) (serials_long : length serials ≡ cell_count r)
    (order_long : length order ≡ cell_count r)
    (row column : ℕ) (i : row < 2 ^ r) (j : column < 2 ^ r) (fresh : burnt_at r serials row column ≡ 0) where
  abbrev cell : ℕ
  cell = cell_number r row column

  abbrev serials' : List ℕ
  serials' = set serials cell (suc dots)

  abbrev order' : List ℕ
  order' = set order dots cell

  cell_in : cell < cell_count r
  cell_in = cell_lt (2 ^ r) row column i j

  unmarked : get_or serials cell 0 ≡ 0
  unfolding burnt_at
  unmarked = burnt_zero (get_or serials cell 0) fresh

  marked : get_or serials' cell 0 ≡ suc dots
  marked = get_or-set_same serials cell (suc dots) 0 (omega (arith, cell_in))

  -- one cell more is burnt
  pub burnt_at_lem : (x y : ℕ) → x < 2 ^ r → y < 2 ^ r
      → burnt_at r serials' x y ≡ burnt_at r serials x y + δ row x * δ column y
  unfolding burnt_at
  burnt_at_lem x y p q = go (hit row column x y)
    where
      go : ((row ≡ x) × (column ≡ y)) ⊎ (δ row x * δ column y ≡ 0)
          → burnt (get_or serials' (cell_number r x y) 0) ≡ burnt (get_or serials (cell_number r x y) 0) + δ row x
          * δ column y
      go (inl e) = rw (← e.0, ← e.1, marked, δδ_same row column) (omega (arith, burnt_suc dots, fresh))
      go (inr z) =
          rw (
            z,
            get_or-set_other serials cell (cell_number r x y) (suc dots) 0
                (λ e. let k = cell_same (2 ^ r) x y row column q j e in omega
                (arith, δδ_same row column, rw (k.0, k.1) at z)),
          ) (sym (add-zero _))

  module _ (ordered : Ordered r serials order dots) where
    count' : sum_to (cell_count r) (λ m. burnt (get_or serials' m 0)) ≡ suc dots
    unfolding burnt_at
    count' =
        let fresh' : burnt (get_or serials cell 0) ≡ 0 = fresh in
        omega (
          arith,
          sum_to_change (cell_count r) cell (λ m. burnt (get_or serials' m 0)) (λ m. burnt (get_or serials m 0)) cell_in
              (λ m k ne. ap burnt (get_or-set_other serials cell m (suc dots) 0 ne)),
          ordered.count,
          ap burnt marked,
          burnt_suc dots,
          fresh',
        )

    pub room : dots < cell_count r
    room =
        omega (
          arith,
          count',
          sum_to_bound (cell_count r) 1 (λ m. burnt (get_or serials' m 0))
              (λ m k. burnt_le (get_or serials' m 0)),
        )

    pub ordered' : Ordered r serials' order' (suc dots)
    ordered' =
        record {
          in_order = λ k l m. go k l m (ℕ_discrete k (suc dots));
          count = count';
          unused = λ k l m. get_or-set_other order dots k cell 0 (λ e. omega arith) ∙ ordered.unused k (omega arith) m;
        }
      where
        go : (k : ℕ) → 1 ≤ k → k ≤ suc dots → Dec (k ≡ suc dots)
            → (get_or order' (k - 1) 0 < cell_count r) × (get_or serials' (get_or order' (k - 1) 0) 0 ≡ k)
        go k l m (yes e) =
            let z : k - 1 ≡ dots = omega arith in
            rw (z, get_or-set_same order dots cell 0 (omega (arith, room))) (cell_in, marked ∙ sym e)
        go k l m (no e) =
            let old = ordered.in_order k l (omega arith) in
            rw (get_or-set_other order dots (k - 1) cell 0 (λ z. omega arith)) (
              old.0,
              get_or-set_other serials cell (get_or order (k - 1) 0) (suc dots) 0
                  (λ z. omega (arith, old.1, unmarked, ap (λ (c : ℕ). get_or serials c 0) z)) ∙ old.1,
            )
