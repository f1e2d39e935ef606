-- Tests that compute, as facts: `T b` taken apart and put together (`T_and`, `and_T`), `cond` on a decided test, a test
-- at every place below n (`all_to`, `every_entry`), equality of integers (`eq_z`), and a test as a number (`bit`).
--
-- `omega tests` reads and proves `leb`, `ltb` and `eqb`, as `T b`, `T (not b)`, `b ≡ true` and `b ≡ false`. The kit has
-- `T_not`, `not_T`, `leb→le` and the like in lib.Dec, `ltb-true`, `lt-ltb` and the like in borrow.Author.Tests.
use Rattle.std.specs.Prelude.{◌≡◌, refl, ◌≢◌, ◌⊎◌, Bool, true, false, not, cond, ◌&&◌, ◌||◌, ℕ, zero, suc, ◌+◌, ◌*◌}
use Rattle.std.specs.Prelude.{◌≤◌, ◌<◌, ◌^◌, T, eqb, ℤ, pos, negsuc}
use Rattle.std.proofs.Common.{ap, inl, inr, true≢false, arith, T_not, leb→le, le→leb, ltb→lt, lt→ltb, nltb→le, eqb→eq}
use Rattle.std.proofs.Math.Decide.{ℕ_discrete}
use Rattle.std.proofs.Math.Dec.{not_T, nleb→lt, eqb_refl}
use Rattle.std.proofs.Math.Arith.{lt→nleb, le→nltb}
use borrow.Author.Tests.{
  ltb-true,
  ltb-false,
  leb-true,
  leb-false,
  eqb-true,
  eqb-false,
  lt-ltb,
  le-ltb,
  le-leb,
  lt-leb,
  eq-eqb,
  ne_eqb,
}
use Rattle.std.specs.Int.Signed.{le_z, ≤ℤ_refl}
use Rattle.definition.specs.Lists.{all_to, eq_z}
use Rattle.definition.specs.Sound.{every_entry}

-- ════ a test that holds is true, one that does not is false

pub T_true : (b : Bool) → b ≡ true → T b
T_true b e = rw e tt

pub T_false : (b : Bool) → b ≡ false → T (not b)
T_false b e = rw e tt

pub true_T : (b : Bool) → T b → b ≡ true
true_T true t = refl
true_T false t = absurd t

pub false_T : (b : Bool) → T (not b) → b ≡ false
false_T true t = absurd t
false_T false t = refl

pub T_or_not : (b : Bool) → T b ⊎ T (not b)
T_or_not true = inl tt
T_or_not false = inr tt

-- tests that hold together are the same
pub same_test : (a b : Bool) → (T a → T b) → (T b → T a) → a ≡ b
same_test true true f g = refl
same_test true false f g = absurd (f tt)
same_test false true f g = absurd (g tt)
same_test false false f g = refl

-- ════ and, or

pub and_true : (a : Bool) → a ≡ (a && true)
and_true true = refl
and_true false = refl

pub and_false : (a : Bool) → (a && false) ≡ false
and_false true = refl
and_false false = refl

pub T_and : (a b : Bool) → T (a && b) → T a × T b
T_and true b t = (tt, t)
T_and false b t = absurd t

pub and_T : (a b : Bool) → T a → T b → T (a && b)
and_T true b s t = t
and_T false b s t = s

-- the same of four
pub T_four : (a b c d : Bool) → T (a && b && c && d) → T a × T b × T c × T d
T_four a b c d t =
    let u = T_and (a && b && c) d t in
    let v = T_and (a && b) c u.0 in
    let w = T_and a b v.0 in
    (w.0, w.1, v.1, u.1)

pub four_T : (a b c d : Bool) → T a → T b → T c → T d → T (a && b && c && d)
four_T a b c d s t u v = and_T (a && b && c) d (and_T (a && b) c (and_T a b s t) u) v

pub T_or : (a b : Bool) → T (a || b) → T a ⊎ T b
T_or true b t = inl tt
T_or false b t = inr t

pub or_false : (a b : Bool) → (a || b) ≡ false → (a ≡ false) × (b ≡ false)
or_false true b e = let z : true ≡ false = e in absurd (true≢false z)
or_false false b e = (refl, e)

pub or_T : (a b : Bool) → T a ⊎ T b → T (a || b)
or_T true b s = tt
or_T false b (inl t) = absurd t
or_T false b (inr t) = t

-- ════ equality of naturals; the other tests of naturals are the kit's

pub eq→eqb : (m n : ℕ) → m ≡ n → T (eqb m n)
eq→eqb m n e = rw e (eqb_refl n)

pub neqb→ne : (m n : ℕ) → T (not (eqb m n)) → m ≢ n
neqb→ne m n t e = T_not (eqb m n) t (eq→eqb m n e)

pub ne→neqb : (m n : ℕ) → m ≢ n → T (not (eqb m n))
ne→neqb m n h = not_T (eqb m n) (λ t. h (eqb→eq m n t))

pub ruleset tests = (
  arith,
  leb→le,
  ltb→lt,
  nleb→lt,
  nltb→le,
  eqb→eq,
  neqb→ne,
  leb-true,
  ltb-true,
  leb-false,
  ltb-false,
  eqb-true,
  eqb-false,
  le→leb,
  lt→ltb,
  lt→nleb,
  le→nltb,
  eq→eqb,
  ne→neqb,
  le-leb,
  lt-ltb,
  lt-leb,
  le-ltb,
  eq-eqb,
  ne_eqb,
)

-- ════ cond

module _ {A : Type 0} where
  pub cond_T : (b : Bool) (x y : A) → T b → cond b x y ≡ x
  cond_T true x y t = refl
  cond_T false x y t = absurd t

  pub cond_not : (b : Bool) (x y : A) → T (not b) → cond b x y ≡ y
  cond_not true x y t = absurd t
  cond_not false x y t = refl

  -- what holds of either branch, where it is taken, holds of the result
  pub cond_both : (P : A → Type 0) (b : Bool) (x y : A) → (T b → P x) → (T (not b) → P y) → P (cond b x y)
  cond_both P true x y f g = f tt
  cond_both P false x y f g = g tt

-- ════ at every place

pub all_to_none : (p : ℕ → Bool) → all_to 0 p ≡ true
unfolding all_to
all_to_none p = refl

pub all_to_suc : (n : ℕ) (p : ℕ → Bool) → all_to (suc n) p ≡ (all_to n p && p n)
unfolding all_to
all_to_suc n p = refl

pub all_to_at : (n : ℕ) (p : ℕ → Bool) → T (all_to n p) → (m : ℕ) → m < n → T (p m)
unfolding all_to
all_to_at zero p t m h = absurd (omega arith)
all_to_at (suc n) p t m h = go (ℕ_discrete m n) (all_to_at n p (T_and (all_to n p) (p n) t).0 m)
  where
    go : Dec (m ≡ n) → (m < n → T (p m)) → T (p m)
    go (yes e) ih = rw e (T_and (all_to n p) (p n) t).1
    go (no e) ih = ih (omega arith)

pub all_to_all : (n : ℕ) (p : ℕ → Bool) → ((m : ℕ) → m < n → T (p m)) → T (all_to n p)
unfolding all_to
all_to_all zero p h = tt
all_to_all (suc n) p h = and_T (all_to n p) (p n) (all_to_all n p (λ m k. h m (omega arith))) (h n (omega arith))

-- one place where the test fails
pub not_all_to : (n : ℕ) (p : ℕ → Bool) (m : ℕ) → m < n → T (not (p m)) → T (not (all_to n p))
not_all_to n p m h k = not_T (all_to n p) (λ t. T_not (p m) k (all_to_at n p t m h))

module _ (k : ℕ) (test : ℕ → ℕ → Bool) where
  pub every_entry_at : T (every_entry k test) → (a b : ℕ) → a < 2 ^ k → b < 2 ^ k → T (test a b)
  unfolding every_entry
  every_entry_at t a b h = all_to_at (2 ^ k) (test a) (all_to_at (2 ^ k) (λ a. all_to (2 ^ k) (test a)) t a h) b

  pub every_entry_all : ((a b : ℕ) → a < 2 ^ k → b < 2 ^ k → T (test a b)) → T (every_entry k test)
  unfolding every_entry
  every_entry_all h =
      all_to_all (2 ^ k) (λ a. all_to (2 ^ k) (test a)) (λ a p. all_to_all (2 ^ k) (test a) (λ b. h a b p))

-- ════ equality of integers

le_z_antisymm : (x y : ℤ) → T (le_z x y) → T (le_z y x) → x ≡ y
le_z_antisymm (pos a) (pos b) s t = ap pos (omega tests)
le_z_antisymm (pos a) (negsuc b) s t = absurd s
le_z_antisymm (negsuc a) (pos b) s t = absurd t
le_z_antisymm (negsuc a) (negsuc b) s t = ap negsuc (omega tests)

pub eq_z_eq : (x y : ℤ) → T (eq_z x y) → x ≡ y
unfolding eq_z
eq_z_eq x y t = let u = T_and (le_z x y) (le_z y x) t in le_z_antisymm x y u.0 u.1

pub eq_eq_z : (x y : ℤ) → x ≡ y → T (eq_z x y)
unfolding eq_z
eq_eq_z x y e = rw e (and_T (le_z y y) (le_z y y) (≤ℤ_refl y).le (≤ℤ_refl y).le)

pub neq_z_ne : (x y : ℤ) → T (not (eq_z x y)) → x ≢ y
neq_z_ne x y t e = T_not (eq_z x y) t (eq_eq_z x y e)

pub ne_neq_z : (x y : ℤ) → x ≢ y → T (not (eq_z x y))
ne_neq_z x y h = not_T (eq_z x y) (λ t. h (eq_z_eq x y t))

-- ════ a test as a number: 1 if it holds, else 0

unfoldable pub bit : Bool → ℕ
bit true = 1
bit false = 0

pub bit_true : (b : Bool) → T b → bit b ≡ 1
unfolding bit
bit_true true t = refl
bit_true false t = absurd t

pub bit_false : (b : Bool) → T (not b) → bit b ≡ 0
unfolding bit
bit_false true t = absurd t
bit_false false t = refl

pub bit_le : (b : Bool) → bit b ≤ 1
unfolding bit
bit_le true = omega arith
bit_le false = omega arith

pub T_bit : (b : Bool) → 0 < bit b → T b
unfolding bit
T_bit true h = tt
T_bit false h = absurd (omega arith)

pub bit_not : (b : Bool) → bit (not b) + bit b ≡ 1
unfolding bit
bit_not true = refl
bit_not false = refl

pub bit_and : (a b : Bool) → bit (a && b) ≡ bit a * bit b
unfolding bit
bit_and true b = omega arith
bit_and false b = omega arith

-- a number that counts only where a test holds
pub cond_bit : (b : Bool) (n : ℕ) → cond b n 0 ≡ bit b * n
unfolding bit
cond_bit true n = omega arith
cond_bit false n = omega arith
