-- A part `&mut l[a..]`, lent and back (`tail_lent`, `tail_back`); and the bound a level up (`room_above`).
use Rattle.std.specs.Prelude.{◌≡◌, List, ◌++◌, ℕ, suc, ◌*◌, ◌-◌, ◌^◌, ◌≤◌, ◌<◌, length, take, drop}
use Rattle.std.proofs.Common.{ap, ◌∙◌, append-nil, arith, length-drop, drop_of_length-le, take_all}
use Rattle.quadtree.specs.Levels.{quadruple}

-- ---- a part `&mut l[a..]`, lent and back
module _ {A : Type 0} (a : ℕ) (l : List A) where
  pub tail_lent : take (length l - a) (drop a l) ≡ drop a l
  tail_lent = take_all (length l - a) (drop a l) (omega (arith, length-drop a l))

  pub tail_back : (e : List A) → take a l ++ (e ++ drop (length l - a) (drop a l)) ≡ take a l ++ e
  tail_back e = simp (drop_of_length-le (drop a l) {i = length l - a} (omega (arith, length-drop a l)), append-nil)

-- ---- a level up there are four times fewer entries, which may be four times as large
pub room_above : (bound k : ℕ) → 0 < k → bound * (2 ^ k * 2 ^ k) ≤ 2 ^ 60
    → 4 * bound * (2 ^ (k - 1) * 2 ^ (k - 1)) ≤ 2 ^ 60
room_above bound k some h =
    let z : k ≡ suc (k - 1) = omega arith in
    let q : 2 ^ k * 2 ^ k ≡ 4 * (2 ^ (k - 1) * 2 ^ (k - 1)) =
    ap (λ (n : ℕ). 2 ^ n * 2 ^ n) z ∙ quadruple (k - 1) in
    omega (arith, rw q at h)
