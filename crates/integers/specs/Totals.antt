-- What a loop adds up: a sum f 0 + .. + f (n − 1) with a bound, so that the next addend fits. `none` is the loop's
-- start, `turn` one turn of it, `whole` its end. An integer with a bound (`TotalZ`), of which a machine word holds the
-- bits: they fit (`fit`), and the number is read back (`read`).
use Rattle.std.specs.Prelude.{◌≡◌, ℕ, ◌+◌, ◌*◌, ◌^◌, ◌≤◌, ◌<◌, T, ltb, ℤ, pos, nat_abs, ◌+ℤ◌, ◌*ℤ◌, ◌≤ℤ◌}
use Rattle.std.proofs.Common.{add-one, arith, Fits, SFits, to_z, of_z, to_z-of_z}
use Rattle.std.proofs.Math.Nat.{mul-le-mul}
use Rattle.std.specs.Int.Signed.{non_neg}
use Rattle.std.specs.Int.{w64}
use Rattle.definition.specs.Lists.{sum_to}
use Rattle.definition.specs.Survey.{squared}
use Rattle.integers.specs.Linear.{add_is, nat_abs_is, up_or_dn, square_nat_abs, ints}
use Rattle.integers.specs.Machine.{nat_abs_fits, mul_fits, cast_asks64}
use Rattle.integers.specs.Sums.{sum_to_none, sum_to_suc}

-- n is the value, and at most `most`
pub record Total (value most n : ℕ) : Type 0 where
  pub is : n ≡ value
  pub small : n ≤ most

module _ (f : ℕ → ℕ) where
  pub none : (m : ℕ) → Total (sum_to 0 f) (0 * m) 0
  none m = record { is = omega (arith, sum_to_none f); small = omega arith }

  pub turn : (n m : ℕ) {acc v : ℕ} → Total (sum_to n f) (n * m) acc → Total (f n) m v
      → Total (sum_to (n + 1) f) ((n + 1) * m) (acc + v)
  turn n m h k =
      record {
        is = rw (add-one n) (omega (arith, sum_to_suc n f, h.is, k.is));
        small = omega (arith, h.small, k.small);
      }

  -- after `count` turns, with room for `most`
  pub whole : (n m count : ℕ) {most acc : ℕ} → n ≤ count → count ≤ n → count * m ≤ most → Total (sum_to n f) (n * m) acc
      → Total (sum_to count f) most acc
  whole n m count {acc = acc} p q r h =
      let e : n ≡ count = omega arith in
      let t : Total (sum_to count f) (count * m) acc = rw e at h in
      record { is = t.is; small = omega (arith, t.small) }

-- z is the value, and at most `most` in size
pub record TotalZ (value : ℤ) (most : ℕ) (z : ℤ) : Type 0 where
  pub is : z ≡ value
  pub small : nat_abs z ≤ most

nat_abs_add : (x y : ℤ) → nat_abs (x +ℤ y) ≤ nat_abs x + nat_abs y
nat_abs_add x y = omega (arith, add_is x y, nat_abs_is x, nat_abs_is y, nat_abs_is (x +ℤ y), up_or_dn (x +ℤ y))

-- the sum of two
pub add_z : {a b : ℤ} {m n : ℕ} {x y : ℤ} → TotalZ a m x → TotalZ b n y → TotalZ (a +ℤ b) (m + n) (x +ℤ y)
add_z {x = x} {y = y} h k = record { is = rw (h.is, k.is); small = omega (arith, nat_abs_add x y, h.small, k.small) }

module _ {a : ℤ} {m : ℕ} {z : ℤ} (h : TotalZ a m z) (p : m < 2 ^ 63) where
  pub fit : SFits w64 z
  fit = nat_abs_fits z (omega (arith, h.small))

  pub read : TotalZ a m (to_z w64 (of_z w64 z))
  read = rw (to_z-of_z fit) h

-- the square of such a number, taken in machine words
module _ {a : ℤ} {m : ℕ} {z : ℤ} (h : TotalZ a m z) (t : T (ltb (m * m) (2 ^ 63))) where
  pub square_fits : SFits w64 (z *ℤ z)
  square_fits = mul_fits z z m m h.small h.small t

  square_up : pos 0 ≤ℤ (z *ℤ z)
  square_up = rw (square_nat_abs z) (omega ints)

  pub square_cast : T (non_neg (to_z w64 (of_z w64 (z *ℤ z)))) × Fits w64 (nat_abs (to_z w64 (of_z w64 (z *ℤ z))))
  square_cast = cast_asks64 square_fits square_up

  pub square_read : Total (squared a) (m * m) (nat_abs (to_z w64 (of_z w64 (z *ℤ z))))
  unfolding squared
  square_read =
      rw (to_z-of_z square_fits, square_nat_abs z) (record { is = rw h.is; small = mul-le-mul h.small h.small })
