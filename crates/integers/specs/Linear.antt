-- Integers by linear arithmetic over naturals: an integer z is `up z − dn z`, two naturals of which one is 0, so that
-- `omega` decides orders and equations of ℤ. `simp zz (omega ints)` proves a linear goal.
--
-- `zz` turns a statement whose sides are sums, differences and multiples by naturals, `ints` reads such facts among the
-- hypotheses, whose sums are unknowns unless `simp zz at h` has turned them. `◌≤ℤ◌` binds tighter than `◌+ℤ◌`.
use Rattle.std.specs.Prelude.{◌≡◌, refl, ◌↔◌, ◌⊎◌, true, false, not, ℕ, zero, suc, ◌+◌, ◌*◌, ◌-◌, ◌≤◌, ◌<◌, min, ℤ, pos}
use Rattle.std.specs.Prelude.{negsuc, neg_ℤ, nat_abs, ◌+ℤ◌, ◌*ℤ◌, ◌≤ℤ◌, ◌<ℤ◌, T, ltb}
use Rattle.std.proofs.Common.{ap, inl, inr, arith}
use Rattle.std.proofs.Math.IntN.{sub_ℕ, *ℤ_comm}
use Rattle.std.specs.Int.Signed.{lt_z, le_z, le_z_yes, lt_z_yes, lt_z_no, clash_ℤ}
use Rattle.std.proofs.Math.Dec.{not_T}
use Rattle.integers.specs.Tests.{T_true, T_false, true_T, false_T, T_or_not, cond_both, tests}

-- ════ the two parts of an integer

abbrev pub up : ℤ → ℕ
up (pos n) = n
up (negsuc n) = 0

abbrev pub dn : ℤ → ℕ
dn (pos n) = 0
dn (negsuc n) = suc n

pub up_or_dn : (z : ℤ) → min (up z) (dn z) ≡ 0
up_or_dn (pos n) = omega arith
up_or_dn (negsuc n) = omega arith

sub_is : (a b : ℕ) → up (sub_ℕ a b) + b ≡ a + dn (sub_ℕ a b)
sub_is a b =
    cond_both (λ z. up z + b ≡ a + dn z) (ltb a b) (negsuc (b - suc a)) (pos (a - b)) (λ t. omega tests)
    (λ t. omega tests)

pub add_is : (x y : ℤ) → up (x +ℤ y) + (dn x + dn y) ≡ (up x + up y) + dn (x +ℤ y)
add_is (pos a) (pos b) = omega arith
add_is (pos a) (negsuc b) = omega (arith, sub_is a (suc b))
add_is (negsuc a) (pos b) = omega (arith, sub_is b (suc a))
add_is (negsuc a) (negsuc b) = omega arith

pub up_neg : (x : ℤ) → up (neg_ℤ x) ≡ dn x
up_neg (pos zero) = refl
up_neg (pos (suc n)) = refl
up_neg (negsuc n) = refl

pub dn_neg : (x : ℤ) → dn (neg_ℤ x) ≡ up x
dn_neg (pos zero) = refl
dn_neg (pos (suc n)) = refl
dn_neg (negsuc n) = refl

-- ════ orders and equations, both ways: `-up` reads a fact, `up-` makes one

pub le_up : (x y : ℤ) → x ≤ℤ y → up x + dn y ≤ up y + dn x
le_up (pos a) (pos b) h = let t = h.le in omega tests
le_up (pos a) (negsuc b) h = absurd h.le
le_up (negsuc a) (pos b) h = omega arith
le_up (negsuc a) (negsuc b) h = let t = h.le in omega tests

pub lt_up : (x y : ℤ) → x <ℤ y → up x + dn y < up y + dn x
lt_up (pos a) (pos b) h = let t = h.lt in omega tests
lt_up (pos a) (negsuc b) h = absurd h.lt
lt_up (negsuc a) (pos b) h = omega arith
lt_up (negsuc a) (negsuc b) h = let t = h.lt in omega tests

pub up_le : (x y : ℤ) → up x + dn y ≤ up y + dn x → x ≤ℤ y
up_le (pos a) (pos b) h = record { le = omega tests }
up_le (pos a) (negsuc b) h = absurd (omega arith)
up_le (negsuc a) (pos b) h = record { le = tt }
up_le (negsuc a) (negsuc b) h = record { le = omega tests }

pub up_lt : (x y : ℤ) → up x + dn y < up y + dn x → x <ℤ y
up_lt (pos a) (pos b) h = record { lt = omega tests }
up_lt (pos a) (negsuc b) h = absurd (omega arith)
up_lt (negsuc a) (pos b) h = record { lt = tt }
up_lt (negsuc a) (negsuc b) h = record { lt = omega tests }

pub eq_up : (x y : ℤ) → x ≡ y → up x + dn y ≡ up y + dn x
eq_up x y e = rw e

pub up_eq : (x y : ℤ) → up x + dn y ≡ up y + dn x → x ≡ y
up_eq (pos a) (pos b) h = ap pos (omega arith)
up_eq (pos a) (negsuc b) h = absurd (omega arith)
up_eq (negsuc a) (pos b) h = absurd (omega arith)
up_eq (negsuc a) (negsuc b) h = ap negsuc (omega arith)

-- a bound from below by the negative of a natural, and an equation whose right side is a sum or a difference
pub neg_le_up : (n : ℕ) (z : ℤ) → neg_ℤ (pos n) ≤ℤ z → dn z ≤ n + up z
neg_le_up n z h = omega (arith, le_up (neg_ℤ (pos n)) z h, up_neg (pos n), dn_neg (pos n))

pub eq_add_up : (r x y : ℤ) → r ≡ x +ℤ y → up r + (dn x + dn y) ≡ (up x + up y) + dn r
eq_add_up r x y e = omega (arith, eq_up r (x +ℤ y) e, add_is x y)

pub eq_sub_up : (r x y : ℤ) → r ≡ x +ℤ neg_ℤ y → up r + (dn x + up y) ≡ (up x + dn y) + dn r
eq_sub_up r x y e = omega (arith, eq_add_up r x (neg_ℤ y) e, up_neg y, dn_neg y)

-- ════ tests: `-up` reads one, as `T` or as an equation with true or false; the kit has `le_z_yes`, `lt_z_yes`,
-- `lt_z_no`, and `h.le`, `h.lt` the other way

pub le_z_no : {x y : ℤ} → T (not (le_z x y)) → y <ℤ x
le_z_no {x = pos a} {y = pos b} t = record { lt = omega tests }
le_z_no {x = pos a} {y = negsuc b} t = record { lt = tt }
le_z_no {x = negsuc a} {y = pos b} t = absurd t
le_z_no {x = negsuc a} {y = negsuc b} t = record { lt = omega tests }

pub not_le_z : (x y : ℤ) → y <ℤ x → T (not (le_z x y))
not_le_z x y h = not_T (le_z x y) (λ t. clash_ℤ h (le_z_yes t))

pub not_lt_z : (x y : ℤ) → y ≤ℤ x → T (not (lt_z x y))
not_lt_z x y h = not_T (lt_z x y) (λ t. clash_ℤ (lt_z_yes t) h)

pub true_le_z : (x y : ℤ) → x ≤ℤ y → le_z x y ≡ true
true_le_z x y h = true_T (le_z x y) h.le

pub false_le_z : (x y : ℤ) → y <ℤ x → le_z x y ≡ false
false_le_z x y h = false_T (le_z x y) (not_le_z x y h)

pub true_lt_z : (x y : ℤ) → x <ℤ y → lt_z x y ≡ true
true_lt_z x y h = true_T (lt_z x y) h.lt

pub false_lt_z : (x y : ℤ) → y ≤ℤ x → lt_z x y ≡ false
false_lt_z x y h = false_T (lt_z x y) (not_lt_z x y h)

pub le_z_up : (x y : ℤ) → T (le_z x y) → up x + dn y ≤ up y + dn x
le_z_up x y t = le_up x y (le_z_yes t)

pub not_le_z_up : (x y : ℤ) → T (not (le_z x y)) → up y + dn x < up x + dn y
not_le_z_up x y t = lt_up y x (le_z_no t)

pub lt_z_up : (x y : ℤ) → T (lt_z x y) → up x + dn y < up y + dn x
lt_z_up x y t = lt_up x y (lt_z_yes t)

pub not_lt_z_up : (x y : ℤ) → T (not (lt_z x y)) → up y + dn x ≤ up x + dn y
not_lt_z_up x y t = le_up y x (lt_z_no t)

pub le_z_true_up : (x y : ℤ) → le_z x y ≡ true → up x + dn y ≤ up y + dn x
le_z_true_up x y e = le_z_up x y (T_true (le_z x y) e)

pub le_z_false_up : (x y : ℤ) → le_z x y ≡ false → up y + dn x < up x + dn y
le_z_false_up x y e = not_le_z_up x y (T_false (le_z x y) e)

pub lt_z_true_up : (x y : ℤ) → lt_z x y ≡ true → up x + dn y < up y + dn x
lt_z_true_up x y e = lt_z_up x y (T_true (lt_z x y) e)

pub lt_z_false_up : (x y : ℤ) → lt_z x y ≡ false → up y + dn x ≤ up x + dn y
lt_z_false_up x y e = not_lt_z_up x y (T_false (lt_z x y) e)

-- any two compare
pub cmp_z : (x y : ℤ) → (x <ℤ y) ⊎ (y ≤ℤ x)
cmp_z x y = go (T_or_not (lt_z x y))
  where
    go : T (lt_z x y) ⊎ T (not (lt_z x y)) → (x <ℤ y) ⊎ (y ≤ℤ x)
    go (inl t) = inl (lt_z_yes t)
    go (inr t) = inr (lt_z_no t)

-- ════ sizes

-- not negative
pub eq_pos_up : (z : ℤ) → pos 0 ≤ℤ z → z ≡ pos (up z)
eq_pos_up (pos n) h = refl
eq_pos_up (negsuc n) h = absurd h.le

pub up_mono : {x y : ℤ} → x ≤ℤ y → up x ≤ up y
up_mono {x} {y} h = omega (arith, le_up x y h, up_or_dn x, up_or_dn y)

pub nat_abs_is : (z : ℤ) → nat_abs z ≡ up z + dn z
nat_abs_is (pos n) = omega arith
nat_abs_is (negsuc n) = omega arith

pub nat_abs_within : (z : ℤ) (n : ℕ) → neg_ℤ (pos n) ≤ℤ z → z ≤ℤ pos n → nat_abs z ≤ n
nat_abs_within z n h k = omega (arith, nat_abs_is z, up_or_dn z, neg_le_up n z h, le_up z (pos n) k)

pub nat_abs_neg : (z : ℤ) → nat_abs (neg_ℤ z) ≡ nat_abs z
nat_abs_neg z = omega (arith, nat_abs_is z, nat_abs_is (neg_ℤ z), up_neg z, dn_neg z)

pub nat_abs_mul : (x y : ℤ) → nat_abs (x *ℤ y) ≡ nat_abs x * nat_abs y
nat_abs_mul (pos a) (pos b) = refl
nat_abs_mul (pos a) (negsuc b) = nat_abs_neg (pos (a * suc b))
nat_abs_mul (negsuc a) (pos b) = nat_abs_neg (pos (suc a * b))
nat_abs_mul (negsuc a) (negsuc b) = refl

pub square_nat_abs : (x : ℤ) → x *ℤ x ≡ pos (nat_abs x * nat_abs x)
square_nat_abs (pos a) = refl
square_nat_abs (negsuc a) = refl

-- ════ the normaliser: `rd` marks what is to be read, `mk a b` is a − b; these are shut, so that no step undoes another

pub mk : ℕ → ℕ → ℤ
mk a b = sub_ℕ a b

unfoldable pub rd : ℤ → ℤ
rd z = z

pub Le : ℤ → ℤ → Type 0
Le a b = a ≤ℤ b

pub Lt : ℤ → ℤ → Type 0
Lt a b = a <ℤ b

pub EQ : ℤ → ℤ → Type 0
EQ a b = a ≡ b

pub z_le : (a b : ℤ) → (a ≤ℤ b) ↔ Le (rd a) (rd b)
unfolding Le rd
z_le a b = ((λ h. h), (λ h. h))

pub z_lt : (a b : ℤ) → (a <ℤ b) ↔ Lt (rd a) (rd b)
unfolding Lt rd
z_lt a b = ((λ h. h), (λ h. h))

pub z_eq : (a b : ℤ) → (a ≡ b) ↔ EQ (rd a) (rd b)
unfolding EQ rd
z_eq a b = ((λ h. h), (λ h. h))

pub z_le_z : (a b : ℤ) → T (le_z a b) ↔ Le (rd a) (rd b)
unfolding Le rd
z_le_z a b = (le_z_yes, (λ h. h.le))

pub z_not_le_z : (a b : ℤ) → T (not (le_z a b)) ↔ Lt (rd b) (rd a)
unfolding Lt rd
z_not_le_z a b = (le_z_no, not_le_z a b)

pub z_lt_z : (a b : ℤ) → T (lt_z a b) ↔ Lt (rd a) (rd b)
unfolding Lt rd
z_lt_z a b = (lt_z_yes, (λ h. h.lt))

pub z_not_lt_z : (a b : ℤ) → T (not (lt_z a b)) ↔ Le (rd b) (rd a)
unfolding Le rd
z_not_lt_z a b = (lt_z_no, not_lt_z a b)

pub z_le_z_true : (a b : ℤ) → (le_z a b ≡ true) ↔ Le (rd a) (rd b)
unfolding Le rd
z_le_z_true a b = ((λ e. le_z_yes (T_true (le_z a b) e)), true_le_z a b)

pub z_le_z_false : (a b : ℤ) → (le_z a b ≡ false) ↔ Lt (rd b) (rd a)
unfolding Lt rd
z_le_z_false a b = ((λ e. le_z_no (T_false (le_z a b) e)), false_le_z a b)

pub z_lt_z_true : (a b : ℤ) → (lt_z a b ≡ true) ↔ Lt (rd a) (rd b)
unfolding Lt rd
z_lt_z_true a b = ((λ e. lt_z_yes (T_true (lt_z a b) e)), true_lt_z a b)

pub z_lt_z_false : (a b : ℤ) → (lt_z a b ≡ false) ↔ Le (rd b) (rd a)
unfolding Le rd
z_lt_z_false a b = ((λ e. lt_z_no (T_false (lt_z a b) e)), false_lt_z a b)

pub rd_add : (a b : ℤ) → rd (a +ℤ b) ≡ rd a +ℤ rd b
unfolding rd
rd_add a b = refl

pub rd_neg : (a : ℤ) → rd (neg_ℤ a) ≡ neg_ℤ (rd a)
unfolding rd
rd_neg a = refl

pub rd_mul : (k : ℕ) (a : ℤ) → rd (pos k *ℤ a) ≡ pos k *ℤ rd a
unfolding rd
rd_mul k a = refl

pub rd_mul_r : (k : ℕ) (a : ℤ) → rd (a *ℤ pos k) ≡ pos k *ℤ rd a
unfolding rd
rd_mul_r k a = *ℤ_comm a (pos k)

pub rd_var : (z : ℤ) → rd z ≡ mk (up z) (dn z)
unfolding rd mk
rd_var z = up_eq z (sub_ℕ (up z) (dn z)) (omega (arith, sub_is (up z) (dn z)))

pub mk_up : (a b : ℕ) → up (mk a b) + b ≡ a + dn (mk a b)
unfolding mk
mk_up a b = sub_is a b

pub mk_add : (a b c d : ℕ) → mk a b +ℤ mk c d ≡ mk (a + c) (b + d)
mk_add a b c d =
    up_eq (mk a b +ℤ mk c d) (mk (a + c) (b + d))
    (omega (arith, mk_up a b, mk_up c d, mk_up (a + c) (b + d), add_is (mk a b) (mk c d)))

pub mk_neg : (a b : ℕ) → neg_ℤ (mk a b) ≡ mk b a
mk_neg a b = up_eq (neg_ℤ (mk a b)) (mk b a) (omega (arith, mk_up a b, mk_up b a, up_neg (mk a b), dn_neg (mk a b)))

mul_is : (k : ℕ) (z : ℤ) → up (pos k *ℤ z) + k * dn z ≡ k * up z + dn (pos k *ℤ z)
mul_is k (pos n) = omega arith
mul_is k (negsuc n) = omega (arith, up_neg (pos (k * suc n)), dn_neg (pos (k * suc n)))

pub mk_mul : (k a b : ℕ) → pos k *ℤ mk a b ≡ mk (k * a) (k * b)
mk_mul k a b =
    up_eq (pos k *ℤ mk a b) (mk (k * a) (k * b))
    (omega (arith, mul_is k (mk a b), mk_up (k * a) (k * b), ap (λ (n : ℕ). k * n) (mk_up a b)))

pub mk_le : (a b c d : ℕ) → Le (mk a b) (mk c d) ↔ (a + d ≤ c + b)
unfolding Le
mk_le a b c d = (
  (λ h. omega (arith, le_up (mk a b) (mk c d) h, mk_up a b, mk_up c d)),
  (λ h. up_le (mk a b) (mk c d) (omega (arith, mk_up a b, mk_up c d))),
)

pub mk_lt : (a b c d : ℕ) → Lt (mk a b) (mk c d) ↔ (a + d < c + b)
unfolding Lt
mk_lt a b c d = (
  (λ h. omega (arith, lt_up (mk a b) (mk c d) h, mk_up a b, mk_up c d)),
  (λ h. up_lt (mk a b) (mk c d) (omega (arith, mk_up a b, mk_up c d))),
)

pub mk_eq : (a b c d : ℕ) → EQ (mk a b) (mk c d) ↔ (a + d ≡ c + b)
unfolding EQ
mk_eq a b c d = (
  (λ h. omega (arith, eq_up (mk a b) (mk c d) h, mk_up a b, mk_up c d)),
  (λ h. up_eq (mk a b) (mk c d) (omega (arith, mk_up a b, mk_up c d))),
)

-- ════ the two sets
pub ruleset zz = (
  z_le,
  z_lt,
  z_le_z,
  z_not_le_z,
  z_lt_z,
  z_not_lt_z,
  z_le_z_true,
  z_le_z_false,
  z_lt_z_true,
  z_lt_z_false,
  z_eq,
  rd_add,
  rd_neg,
  rd_mul,
  rd_mul_r,
  rd_var,
  mk_add,
  mk_neg,
  mk_mul,
  mk_le,
  mk_lt,
  mk_eq,
)

pub ruleset ints = (
  tests,
  neg_le_up,
  le_up,
  lt_up,
  eq_sub_up,
  eq_add_up,
  eq_up,
  le_z_up,
  not_le_z_up,
  lt_z_up,
  not_lt_z_up,
  le_z_true_up,
  le_z_false_up,
  lt_z_true_up,
  lt_z_false_up,
  up_le,
  up_lt,
  up_eq,
)
