-- A number put into a list: those behind it move up by one (`put_is`).
use Rattle.std.specs.Prelude.{◌≡◌, refl, List, [], ◌∷◌, ◌++◌, ℕ, zero, suc, ◌+◌, ◌-◌, ◌≤◌, ◌<◌, length, set, take, drop}
use Rattle.std.specs.List.{copy_within}
use Rattle.std.proofs.Common.{ap, arith, add-one}

-- the place behind a front, when the rest is put together anew
put_behind : (l a b : List ℕ) (p x : ℕ) → p < length l
    → set (take (suc p) l ++ a ++ b) p x ≡ take p l ++ x ∷ (a ++ b)
put_behind [] a b p x h = absurd (omega arith)
put_behind (y ∷ ys) a b zero x h = refl
put_behind (y ∷ ys) a b (suc p) x h = ap (λ (l : List ℕ). y ∷ l) (put_behind ys a b p x (omega arith))

-- `moved` is the list whose places from p to n − 1 were copied up by one
pub put_is : (l : List ℕ) (p n x : ℕ) {moved : List ℕ} → p ≤ n → n < length l → moved ≡ copy_within l p n (p + 1)
    → set moved p x ≡ take p l ++ x ∷ (take (n - p) (drop p l) ++ drop (n + 1) l)
put_is l p n x h lt e =
    let at : suc p + (n - p) ≡ n + 1 = omega arith in
    rw (e, add-one p, at) (put_behind l (take (n - p) (drop p l)) (drop (n + 1) l) p x (omega arith))
