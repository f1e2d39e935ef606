-- Signed machine words: a number that fits its width is read back as itself (`back64`, `of_bits`), what `+`, `*`, `/`,
-- casts and comparisons ask for and give. In proofs of code `simp words (omega machine)` proves a linear need.
--
-- That is as `simp zz (omega ints)` does of integers: `words` turns `SFits w z` too, and `machine` reads from each
-- `SFits w z` that the word's number, `to_z w (of_z w z)`, is z.
use Rattle.std.specs.Prelude.{◌≡◌, ◌↔◌, Bool, true, false, ℕ, suc, ◌+◌, ◌*◌, ◌/◌, ◌≤◌, ◌<◌, ◌^◌, ℤ, pos, negsuc, neg_ℤ}
use Rattle.std.specs.Prelude.{nat_abs, ◌+ℤ◌, ◌*ℤ◌, ◌≤ℤ◌, ◌<ℤ◌, T, ltb}
use Rattle.std.proofs.Common.{sym, ap, ◌∙◌, mul-le-mul, le_trans, le_of_eq, div-le_self, div-mul-le_self}
use Rattle.std.proofs.Common.{le-div_iff_mul-le, arith, ltb→lt, to_z-of_z}
use Rattle.std.specs.Int.Signed.{mag, lt_z, le_z, quot_z, non_neg}
use Rattle.std.specs.Int.{Width, w64}
use mir.Val.{Fits, SFits, hbits, bits, to_z, of_z}
use Rattle.std.proofs.Math.Facts.{to_z_pos, sfits_lit}
use Rattle.definition.specs.Lists.{eq_z}
use Rattle.integers.specs.Tests.{true_T, false_T, eq_eq_z, ne_neq_z, tests}
use Rattle.integers.specs.Linear.{
  up,
  dn,
  up_neg,
  dn_neg,
  add_is,
  eq_up,
  eq_pos_up,
  nat_abs_neg,
  nat_abs_mul,
  rd,
  mk,
  mk_up,
  zz,
  ints,
}

-- ════ a number that fits

pub fit_hi : (w : Width) (z : ℤ) → SFits w z → up z < 2 ^ hbits w
fit_hi w (pos n) f = let h = f.sfits in omega arith
fit_hi w (negsuc n) f = let h = f.sfits in omega arith

pub fit_lo : (w : Width) (z : ℤ) → SFits w z → dn z ≤ 2 ^ hbits w
fit_lo w (pos n) f = let h = f.sfits in omega arith
fit_lo w (negsuc n) f = let h = f.sfits in omega arith

up_fit : (w : Width) (z : ℤ) → up z < 2 ^ hbits w + dn z → dn z ≤ 2 ^ hbits w + up z → SFits w z
up_fit w (pos n) h k = record { sfits = omega arith }
up_fit w (negsuc n) h k = record { sfits = omega arith }

-- a result or an element of 64 bits: what is known of it, as the record
pub ok64 : (z : ℤ) → mag z < 2 ^ 63 → SFits w64 z
ok64 z h = record { sfits = h }

-- a literal: `lit64 (pos 32640) tt`, `lit64 (negsuc 4) tt`
pub lit64 : (z : ℤ) → T (ltb (mag z) (2 ^ 63)) → SFits w64 z
lit64 z t = sfits_lit t

-- ════ what is read back of it

pub back : (w : Width) (z : ℤ) → SFits w z → up (to_z w (of_z w z)) + dn z ≡ up z + dn (to_z w (of_z w z))
back w z f = eq_up (to_z w (of_z w z)) z (to_z-of_z f)

pub back_add : (w : Width) (x y : ℤ) → SFits w (x +ℤ y)
    → up (to_z w (of_z w (x +ℤ y))) + (dn x + dn y) ≡ (up x + up y) + dn (to_z w (of_z w (x +ℤ y)))
back_add w x y f = omega (arith, add_is x y, back w (x +ℤ y) f)

pub back_sub : (w : Width) (x y : ℤ) → SFits w (x +ℤ neg_ℤ y)
    → up (to_z w (of_z w (x +ℤ neg_ℤ y))) + (dn x + up y) ≡ (up x + dn y) + dn (to_z w (of_z w (x +ℤ neg_ℤ y)))
back_sub w x y f = omega (arith, back_add w x (neg_ℤ y) f, up_neg y, dn_neg y)

pub back64 : (z : ℤ) → mag z < 2 ^ 63 → to_z w64 (of_z w64 z) ≡ z
back64 z h = to_z-of_z (ok64 z h)

-- a comparison's flag, said of the numbers themselves; `==` and `!=` compare bits
pub lt_z_back : {w : Width} {a b : ℤ} {t : Bool} → SFits w a → SFits w b → lt_z (to_z w (of_z w a)) (to_z w (of_z w b))
    ≡ t
    → lt_z a b ≡ t
lt_z_back f g e = sym (λ i. lt_z (to_z-of_z f i) (to_z-of_z g i)) ∙ e

pub le_z_back : {w : Width} {a b : ℤ} {t : Bool} → SFits w a → SFits w b → le_z (to_z w (of_z w a)) (to_z w (of_z w b))
    ≡ t
    → le_z a b ≡ t
le_z_back f g e = sym (λ i. le_z (to_z-of_z f i) (to_z-of_z g i)) ∙ e

pub eq_back : {w : Width} {a b : ℤ} → SFits w a → SFits w b → of_z w a ≡ of_z w b → a ≡ b
eq_back {w} f g e = sym (to_z-of_z f) ∙ ap (to_z w) e ∙ to_z-of_z g

pub eq_z_yes : {w : Width} {a b : ℤ} → SFits w a → SFits w b → of_z w a ≡ of_z w b → eq_z a b ≡ true
eq_z_yes {a = a} {b = b} f g e = true_T (eq_z a b) (eq_eq_z a b (eq_back f g e))

pub eq_z_no : {w : Width} {a b : ℤ} → SFits w a → SFits w b → (of_z w a ≡ of_z w b → ⊥) → eq_z a b ≡ false
eq_z_no {w} {a} {b} f g n = false_T (eq_z a b) (ne_neq_z a b (λ e. n (ap (of_z w) e)))

-- ════ products and quotients

pub nat_abs_fits : (z : ℤ) → nat_abs z < 2 ^ 63 → SFits w64 z
nat_abs_fits (pos n) h = record { sfits = h }
nat_abs_fits (negsuc n) h = record { sfits = omega arith }

-- |x| ≤ m and |y| ≤ n: the product fits where m * n does. `mul_fits x y 65280 12 (..) (..) tt`
pub mul_fits : (x y : ℤ) (m n : ℕ) → nat_abs x ≤ m → nat_abs y ≤ n → T (ltb (m * n) (2 ^ 63)) → SFits w64 (x *ℤ y)
mul_fits x y m n h k t = nat_abs_fits (x *ℤ y) (omega (tests, nat_abs_mul x y, mul-le-mul h k))

-- a quotient is no larger in size than its dividend
nat_abs_quot : (x y : ℤ) → nat_abs (quot_z x y) ≤ nat_abs x
nat_abs_quot (pos a) (pos b) = div-le_self a b
nat_abs_quot (pos a) (negsuc b) = le_trans (le_of_eq (nat_abs_neg (pos (a / suc b)))) (div-le_self a (suc b))
nat_abs_quot (negsuc a) (pos b) = le_trans (le_of_eq (nat_abs_neg (pos (suc a / b)))) (div-le_self (suc a) b)
nat_abs_quot (negsuc a) (negsuc b) = div-le_self (suc a) (suc b)

pub quot_fits : (x y : ℤ) (m : ℕ) → nat_abs x ≤ m → T (ltb m (2 ^ 63)) → SFits w64 (quot_z x y)
quot_fits x y m h t = nat_abs_fits (quot_z x y) (omega (tests, nat_abs_quot x y))

-- x * y, x / y and x * y / z of numbers that are not negative
pub mul_up : (x y : ℤ) → pos 0 ≤ℤ x → pos 0 ≤ℤ y → x *ℤ y ≡ pos (up x * up y)
mul_up x y h k = λ i. eq_pos_up x h i *ℤ eq_pos_up y k i

pub quot_up : (x y : ℤ) → pos 0 ≤ℤ x → pos 0 ≤ℤ y → quot_z x y ≡ pos (up x / up y)
quot_up x y h k = λ i. quot_z (eq_pos_up x h i) (eq_pos_up y k i)

pub muldiv : (x y z : ℤ) → pos 0 ≤ℤ x → pos 0 ≤ℤ y → pos 0 ≤ℤ z → quot_z (x *ℤ y) z ≡ pos (up x * up y / up z)
muldiv x y z h k l = λ i. quot_z (mul_up x y h k i) (eq_pos_up z l i)

pub muldiv_fits : (x y z : ℤ) (m n : ℕ) → nat_abs x ≤ m → nat_abs y ≤ n → T (ltb (m * n) (2 ^ 63))
    → SFits w64 (quot_z (x *ℤ y) z)
muldiv_fits x y z m n h k t = quot_fits (x *ℤ y) z (m * n) (le_trans (le_of_eq (nat_abs_mul x y)) (mul-le-mul h k)) t

-- a divisor that is above 0 has bits above 0
pub div_bits : (w : Width) (z : ℤ) → pos 0 <ℤ z → 0 < of_z w z
div_bits w (pos n) h = ltb→lt 0 n h.lt
div_bits w (negsuc n) h = absurd h.lt

-- quotients of naturals are monotone
pub div_mono : {a b : ℕ} (k : ℕ) → 0 < k → a ≤ b → a / k ≤ b / k
div_mono {a} {b} k p h = (le-div_iff_mul-le p).1 (le_trans (div-mul-le_self a k) h)

-- ════ casts

-- `n as i64` of an unsigned n: the number is the bits
pub of_bits : (n : ℕ) → n < 2 ^ 63 → to_z w64 n ≡ pos n
of_bits n h = to_z_pos w64 h

-- `x as u8` and the like of a signed x that is not negative: what the cast asks for, with `64` at u64 and usize, and
-- what it gives
pub cast_asks : (w : Width) {x : ℤ} → SFits w64 x → pos 0 ≤ℤ x → up x < 2 ^ bits w
    → T (non_neg (to_z w64 (of_z w64 x))) × Fits w (nat_abs (to_z w64 (of_z w64 x)))
cast_asks w {x} f h k = rw (to_z-of_z f, eq_pos_up x h) (tt, record { fits = k })

pub cast_asks64 : {x : ℤ} → SFits w64 x → pos 0 ≤ℤ x
    → T (non_neg (to_z w64 (of_z w64 x))) × Fits w64 (nat_abs (to_z w64 (of_z w64 x)))
cast_asks64 {x} f h = cast_asks w64 f h (omega (arith, fit_hi w64 x f))

pub cast_gives : {x : ℤ} → SFits w64 x → pos 0 ≤ℤ x → nat_abs (to_z w64 (of_z w64 x)) ≡ up x
cast_gives {x} f h = ap nat_abs (to_z-of_z f ∙ eq_pos_up x h)

-- ════ the two sets; `FIT` is shut, as `Le` of `zz` is

pub FIT : Width → ℤ → Type 0
FIT w z = SFits w z

pub z_fit : (w : Width) (z : ℤ) → SFits w z ↔ FIT w (rd z)
unfolding FIT rd
z_fit w z = ((λ h. h), (λ h. h))

pub mk_fit : (w : Width) (a b : ℕ) → FIT w (mk a b) ↔ ((a < 2 ^ hbits w + b) × (b ≤ 2 ^ hbits w + a))
unfolding FIT
mk_fit w a b = (
  (λ h. omega (arith, fit_hi w (mk a b) h, fit_lo w (mk a b) h, mk_up a b)),
  (λ h. up_fit w (mk a b) (omega (arith, mk_up a b)) (omega (arith, mk_up a b))),
)

pub ruleset words = (zz, z_fit, mk_fit)

pub ruleset machine = (ints, back_sub, back_add, back)
