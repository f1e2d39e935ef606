-- The function that is 1 at one place, and its sums: a change at one cell changes the sum over a square by as much if
-- the cell lies in the square, and by nothing if not (`area_point`, `seen`).
use Rattle.std.specs.Prelude.{◌≡◌, refl, ◌≢◌, ◌⊎◌, cond, ℕ, zero, suc, ◌+◌, ◌*◌, ◌≤◌, ◌<◌, eqb}
use Rattle.std.proofs.Common.{ap, ◌∙◌, inl, inr, arith, mul_assoc, mul_left_comm, eq-eqb, ne_eqb}
use Rattle.std.proofs.Math.Decide.{ℕ_discrete, dec_lt, dec_le}
use Rattle.definition.specs.Lists.{sum_to}
use Rattle.quadtree.specs.Areas.{In, span, area, area_ext, area_mul, area_product}

-- Kronecker's delta: 1 at c, else 0
unfoldable pub δ : ℕ → ℕ → ℕ
δ c x = cond (eqb c x) 1 0

pub δ_same : (c x : ℕ) → c ≡ x → δ c x ≡ 1
unfolding δ
δ_same c x e = rw (eq-eqb c x e)

pub δ_other : (c x : ℕ) → c ≢ x → δ c x ≡ 0
unfolding δ
δ_other c x e = rw (ne_eqb c x e)

pub δ_le : (c x : ℕ) → δ c x ≤ 1
δ_le c x = go (ℕ_discrete c x)
  where
    go : Dec (c ≡ x) → δ c x ≤ 1
    go (yes e) = omega (arith, δ_same c x e)
    go (no e) = omega (arith, δ_other c x e)

-- a product with a point's function reads the other factor at the point only
pub δ_at : (c x : ℕ) (f : ℕ → ℕ) → δ c x * f x ≡ δ c x * f c
δ_at c x f = go (ℕ_discrete c x)
  where
    go : Dec (c ≡ x) → δ c x * f x ≡ δ c x * f c
    go (yes e) = rw (← e)
    go (no e) = rw (δ_other c x e) (omega arith)

-- n places from p on hold c once, or not at all
sum_out : (p c n : ℕ) → (c < p) ⊎ (p + n ≤ c) → sum_to n (λ x. δ c (p + x)) ≡ 0
unfolding sum_to
sum_out p c zero h = refl
sum_out p c (suc n) (inl h) = omega (arith, sum_out p c n (inl h), δ_other c (p + n) (λ e. omega arith))
sum_out p c (suc n) (inr h) = omega (arith, sum_out p c n (inr (omega arith)), δ_other c (p + n) (λ e. omega arith))

sum_in : (p c n : ℕ) → In p n c → sum_to n (λ x. δ c (p + x)) ≡ 1
unfolding sum_to
sum_in p c zero i = absurd (omega arith)
sum_in p c (suc n) i = go (ℕ_discrete c (p + n)) (sum_in p c n)
  where
    go : Dec (c ≡ p + n) → (In p n c → sum_to n (λ x. δ c (p + x)) ≡ 1) → sum_to n (λ x. δ c (p + x)) + δ c (p + n) ≡ 1
    go (yes e) ih = omega (arith, sum_out p c n (inr (omega arith)), δ_same c (p + n) e)
    go (no e) ih = omega (arith, ih (omega arith), δ_other c (p + n) e)

pub span_in : (p n c : ℕ) → In p n c → span p n (δ c) ≡ 1
unfolding span
span_in p n c i = sum_in p c n i

pub span_out : (p n c : ℕ) → (c < p) ⊎ (p + n ≤ c) → span p n (δ c) ≡ 0
unfolding span
span_out p n c h = sum_out p c n h

pub in_or_out : (p n c : ℕ) → In p n c ⊎ ((c < p) ⊎ (p + n ≤ c))
in_or_out p n c = go (dec_le p c) (dec_lt c (p + n))
  where
    go : Dec (p ≤ c) → Dec (c < p + n) → In p n c ⊎ ((c < p) ⊎ (p + n ≤ c))
    go (yes h) (yes k) = inl (h, k)
    go (yes h) (no k) = inr (inr (omega arith))
    go (no h) k = inr (inl (omega arith))

pub area_point : (p q n : ℕ) (f : ℕ → ℕ → ℕ) (r c : ℕ)
    → area p q n (λ x y. δ r x * δ c y * f x y) ≡ f r c * (span p n (δ r) * span q n (δ c))
area_point p q n f r c =
    area_ext p q n _ _ (λ x y i j. at x y) ∙ area_mul p q n (f r c) (λ x y. δ r x * δ c y)
    ∙ ap (λ (k : ℕ). f r c * k) (area_product p q n (δ r) (δ c))
  where
    at : (x y : ℕ) → δ r x * δ c y * f x y ≡ f r c * (δ r x * δ c y)
    at x y =
        let e : δ c y * f x y ≡ δ c y * f x c = δ_at c y (f x) in
        let d : δ r x * f x c ≡ δ r x * f r c = δ_at r x (λ z. f z c) in
        mul_assoc (δ r x) (δ c y) (f x y) ∙ ap (λ (k : ℕ). δ r x * k) e ∙ mul_left_comm (δ r x) (δ c y) (f x c)
        ∙ ap (λ (k : ℕ). δ c y * k) d ∙ omega arith

-- A cell lies in a square, and a sum over the square meets it once; or it doesn't, and the sum doesn't meet it.
pub data Seen (p q n r c : ℕ) : Type 0 where
  inside : In p n r → In q n c → span p n (δ r) * span q n (δ c) ≡ 1 → Seen p q n r c
  outside : span p n (δ r) * span q n (δ c) ≡ 0 → Seen p q n r c

pub seen : (p q n r c : ℕ) → Seen p q n r c
seen p q n r c = go (in_or_out p n r) (in_or_out q n c)
  where
    go : In p n r ⊎ ((r < p) ⊎ (p + n ≤ r)) → In q n c ⊎ ((c < q) ⊎ (q + n ≤ c)) → Seen p q n r c
    go (inl i) (inl j) = inside i j (rw (span_in p n r i, span_in q n c j))
    go (inl i) (inr j) = outside (rw (span_out q n c j) (omega arith))
    go (inr i) j = outside (rw (span_out p n r i) (omega arith))

-- two cells are one, or the point's function is 0 at the other
pub hit : (r c x y : ℕ) → ((r ≡ x) × (c ≡ y)) ⊎ (δ r x * δ c y ≡ 0)
hit r c x y = go (ℕ_discrete r x) (ℕ_discrete c y)
  where
    go : Dec (r ≡ x) → Dec (c ≡ y) → ((r ≡ x) × (c ≡ y)) ⊎ (δ r x * δ c y ≡ 0)
    go (yes h) (yes k) = inl (h, k)
    go (yes h) (no k) = inr (rw (δ_other c y k) (omega arith))
    go (no h) k = inr (rw (δ_other r x h) (omega arith))

pub δδ_same : (r c : ℕ) → δ r r * δ c c ≡ 1
δδ_same r c = rw (δ_same r r refl, δ_same c c refl)
