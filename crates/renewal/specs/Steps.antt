-- Four entries of a level renewed (`place_asked`); one carried up (`carried`).
use Rattle.std.specs.Prelude.{◌≡◌, List, ℕ, ◌+◌, ◌*◌, ◌^◌, ◌≤◌, ◌<◌, set, ℤ, ◌+ℤ◌, ◌-ℤ◌}
use Rattle.std.proofs.Common.{sym, ap, ◌∙◌, arith, SFits, to_z, of_z, to_z-of_z}
use Rattle.std.specs.Int.{w64}
use Rattle.integers.specs.Machine.{words, machine}
use Rattle.pyramid.specs.PyramidPart.{four_at, Within}
use Rattle.pyramid.specs.Four.{within_four}
use Rattle.renewal.specs.OverPlaces.{at, below, over, AtAsked, FourPlaces, CarryAsked}
use Rattle.renewal.specs.Places.{below_changed}

-- ---- four of a level
module _ {p : List ℤ} {nw ne sw se : ℕ} (h : FourPlaces p nw ne sw se) where
  pub place_asked : (x : ℕ) → (h.first ≤ x) × (x < h.end) → AtAsked p x
  place_asked x q =
      record {
        few = omega (arith, h.few);
        four =
            record {
              room = omega (arith, h.room);
              first = h.small (4 * x + 1) (omega (arith, h.apart));
              second = h.small (4 * x + 1 + 1) (omega (arith, h.apart));
              third = h.small (4 * x + 1 + 2) (omega (arith, h.apart));
              fourth = h.small (4 * x + 1 + 2 + 1) (omega (arith, h.apart));
            };
      }

-- ---- one carried up: the numbers as words, and what they come to
within_read : (bound : ℕ) (z : ℤ) → bound ≤ 2 ^ 62 → Within bound z → to_z w64 (of_z w64 z) ≡ z
within_read bound z le h =
    let f : SFits w64 z = simp words (omega (machine, h.low, h.high)) in to_z-of_z f

module _ {p : List ℤ} {i : ℕ} {sum : ℤ} (h : CarryAsked p i sum) {four : ℤ} (e : four ≡ below p (over i)) where
  four_small : Within (4 * 2 ^ 58) four
  unfolding four_at
  four_small =
      let o = 4 * over i + 1 in
      rw e
      (within_four (2 ^ 58) _ _ _ _ (h.small o) (h.small (o + 1)) (h.small (o + 2)) (h.small (o + 2 + 1)))

  four_read : to_z w64 (of_z w64 four) ≡ four
  four_read = within_read (4 * 2 ^ 58) four (omega arith) four_small

  old_read : to_z w64 (of_z w64 (at p i)) ≡ at p i
  old_read = within_read (2 ^ 58) (at p i) (omega arith) (h.small i)

  sum_read : to_z w64 (of_z w64 sum) ≡ sum
  sum_read = within_read (2 ^ 58) sum (omega arith) h.sum_small

  abbrev less : ℤ
  less = to_z w64 (of_z w64 four) -ℤ to_z w64 (of_z w64 (at p i))

  less_is : less ≡ four -ℤ at p i
  less_is = rw (four_read, old_read)

  pub less_fits : SFits w64 less
  less_fits =
      let a = four_small in
      let b = h.small i in
      rw less_is (simp words (omega (machine, a.low, a.high, b.low, b.high)))

  less_read : to_z w64 (of_z w64 less) ≡ four -ℤ at p i
  less_read = to_z-of_z less_fits ∙ less_is

  abbrev total : ℤ
  total = to_z w64 (of_z w64 less) +ℤ to_z w64 (of_z w64 sum)

  total_is : total ≡ four -ℤ at p i +ℤ sum
  total_is = rw (less_read, sum_read)

  pub total_fits : SFits w64 total
  total_fits =
      let a = four_small in
      let b = h.small i in
      let c = h.sum_small in
      rw total_is (simp words (omega (machine, a.low, a.high, b.low, b.high, c.low, c.high)))

  pub sum_kept : set p i (to_z w64 (of_z w64 sum)) ≡ set p i sum
  sum_kept = ap (set p i) sum_read

  pub carried : to_z w64 (of_z w64 total) ≡ below (set p i sum) (over i)
  carried = to_z-of_z total_fits ∙ total_is ∙ rw e (sym (below_changed p i sum h.some h.room))
