-- Sums f 0 + .. + f (n − 1): `sum_to` in naturals, and `sum_z_to` in integers where it is used. A name says how the sum
-- changes with its summands (`add`, `mul`, `ext`, `mono`; with `<` the hypothesis is asked below n only) or with its
-- bound (`none`, `suc`, `split`, `rows`).
use Rattle.std.specs.Prelude.{◌≡◌, refl, ◌≢◌, ℕ, zero, suc, ◌+◌, ◌*◌, ◌≤◌, ◌<◌, ℤ, pos, ◌+ℤ◌, ◌-ℤ◌}
use Rattle.std.proofs.Common.{sym, ap, ◌∙◌, add-zero, add-suc, zero-mul, suc-mul, mul-zero, arith}
use Rattle.std.proofs.Math.Path.{fun_ext}
use Rattle.std.proofs.Math.Decide.{ℕ_discrete}
use Rattle.definition.specs.Lists.{sum_to, sum_z_to}
use Rattle.integers.specs.Linear.{zz}

-- ════ naturals

pub sum_to_none : (f : ℕ → ℕ) → sum_to 0 f ≡ 0
unfolding sum_to
sum_to_none f = refl

pub sum_to_suc : (n : ℕ) (f : ℕ → ℕ) → sum_to (suc n) f ≡ sum_to n f + f n
unfolding sum_to
sum_to_suc n f = refl

pub sum_to_add : (n : ℕ) (f g : ℕ → ℕ) → sum_to n (λ m. f m + g m) ≡ sum_to n f + sum_to n g
unfolding sum_to
sum_to_add zero f g = refl
sum_to_add (suc n) f g = omega (arith, sum_to_add n f g)

pub sum_to_mul : (n k : ℕ) (f : ℕ → ℕ) → sum_to n (λ m. k * f m) ≡ k * sum_to n f
unfolding sum_to
sum_to_mul zero k f = sym (mul-zero k)
sum_to_mul (suc n) k f = omega (arith, sum_to_mul n k f)

pub sum_to_mono< : (n : ℕ) (f g : ℕ → ℕ) → ((m : ℕ) → m < n → f m ≤ g m) → sum_to n f ≤ sum_to n g
unfolding sum_to
sum_to_mono< zero f g h = omega arith
sum_to_mono< (suc n) f g h = omega (arith, sum_to_mono< n f g (λ m k. h m (omega arith)), h n (omega arith))

pub sum_to_mono : (n : ℕ) (f g : ℕ → ℕ) → ((m : ℕ) → f m ≤ g m) → sum_to n f ≤ sum_to n g
sum_to_mono n f g h = sum_to_mono< n f g (λ m k. h m)

pub sum_to_ext< : (n : ℕ) (f g : ℕ → ℕ) → ((m : ℕ) → m < n → f m ≡ g m) → sum_to n f ≡ sum_to n g
unfolding sum_to
sum_to_ext< zero f g h = refl
sum_to_ext< (suc n) f g h = omega (arith, sum_to_ext< n f g (λ m k. h m (omega arith)), h n (omega arith))

pub sum_to_ext : (n : ℕ) (f g : ℕ → ℕ) → ((m : ℕ) → f m ≡ g m) → sum_to n f ≡ sum_to n g
sum_to_ext n f g h = ap (sum_to n) (fun_ext h)

pub sum_to_const : (n k : ℕ) → sum_to n (λ m. k) ≡ n * k
unfolding sum_to
sum_to_const zero k = sym (zero-mul k)
sum_to_const (suc n) k = omega (arith, sum_to_const n k)

pub sum_to_zero : (n : ℕ) (f : ℕ → ℕ) → ((m : ℕ) → m < n → f m ≡ 0) → sum_to n f ≡ 0
sum_to_zero n f h = sum_to_ext< n f (λ m. 0) h ∙ sum_to_const n 0 ∙ mul-zero n

-- at most k at each place
pub sum_to_bound : (n k : ℕ) (f : ℕ → ℕ) → ((m : ℕ) → m < n → f m ≤ k) → sum_to n f ≤ n * k
sum_to_bound n k f h = omega (arith, sum_to_mono< n f (λ m. k) h, sum_to_const n k)

-- two functions that differ at one place only
pub sum_to_change : (n p : ℕ) (f g : ℕ → ℕ) → p < n → ((m : ℕ) → m < n → m ≢ p → f m ≡ g m)
    → sum_to n f + g p ≡ sum_to n g + f p
unfolding sum_to
sum_to_change zero p f g h k = absurd (omega arith)
sum_to_change (suc n) p f g h k = go (ℕ_discrete p n) (λ q. sum_to_change n p f g q (λ m r. k m (omega arith)))
  where
    go : Dec (p ≡ n) → (p < n → sum_to n f + g p ≡ sum_to n g + f p) → sum_to n f + f n + g p ≡ sum_to n g + g n + f p
    go (yes e) ih = rw e (omega (arith, sum_to_ext< n f g (λ m q. k m (omega arith) (omega arith))))
    go (no e) ih = omega (arith, ih (omega arith), k n (omega arith) (omega arith))

-- one term is at most the sum
pub le_sum_to : (n m : ℕ) (f : ℕ → ℕ) → m < n → f m ≤ sum_to n f
unfolding sum_to
le_sum_to zero m f h = absurd (omega arith)
le_sum_to (suc n) m f h = go (ℕ_discrete m n) (le_sum_to n m f)
  where
    go : Dec (m ≡ n) → (m < n → f m ≤ sum_to n f) → f m ≤ sum_to n f + f n
    go (yes e) ih = rw e (omega arith)
    go (no e) ih = omega (arith, ih (omega arith))

pub sum_to_split : (m n : ℕ) (f : ℕ → ℕ) → sum_to (m + n) f ≡ sum_to m f + sum_to n (λ i. f (m + i))
unfolding sum_to
sum_to_split m zero f = rw (add-zero m, add-zero (sum_to m f))
sum_to_split m (suc n) f = rw add-suc (omega (arith, sum_to_split m n f))

-- m rows of n, in one run
pub sum_to_rows : (m n : ℕ) (f : ℕ → ℕ) → sum_to (m * n) f ≡ sum_to m (λ x. sum_to n (λ y. f (x * n + y)))
unfolding sum_to
sum_to_rows zero n f = rw zero-mul
sum_to_rows (suc m) n f = rw suc-mul (omega (arith, sum_to_split (m * n) n f, sum_to_rows m n f))

-- ════ integers

pub sum_z_to_pos : (n : ℕ) (f : ℕ → ℕ) → sum_z_to n (λ m. pos (f m)) ≡ pos (sum_to n f)
unfolding sum_to sum_z_to
sum_z_to_pos zero f = refl
sum_z_to_pos (suc n) f = rw (sum_z_to_pos n f)

pub sum_z_to_add : (n : ℕ) (f g : ℕ → ℤ) → sum_z_to n (λ m. f m +ℤ g m) ≡ sum_z_to n f +ℤ sum_z_to n g
unfolding sum_z_to
sum_z_to_add zero f g = refl
sum_z_to_add (suc n) f g = rw (sum_z_to_add n f g) (simp zz (omega arith))

pub sum_z_to_sub : (n : ℕ) (f g : ℕ → ℤ) → sum_z_to n (λ m. f m -ℤ g m) ≡ sum_z_to n f -ℤ sum_z_to n g
unfolding sum_z_to
sum_z_to_sub zero f g = refl
sum_z_to_sub (suc n) f g = rw (sum_z_to_sub n f g) (simp zz (omega arith))

pub sum_z_to_ext< : (n : ℕ) (f g : ℕ → ℤ) → ((m : ℕ) → m < n → f m ≡ g m) → sum_z_to n f ≡ sum_z_to n g
unfolding sum_z_to
sum_z_to_ext< zero f g h = refl
sum_z_to_ext< (suc n) f g h = rw (sum_z_to_ext< n f g (λ m k. h m (omega arith)), h n (omega arith))

pub sum_z_to_split : (m n : ℕ) (f : ℕ → ℤ) → sum_z_to (m + n) f ≡ sum_z_to m f +ℤ sum_z_to n (λ i. f (m + i))
unfolding sum_z_to
sum_z_to_split m zero f = rw add-zero (simp zz (omega arith))
sum_z_to_split m (suc n) f = rw (add-suc, sum_z_to_split m n f) (simp zz (omega arith))
