-- The rim of a macroblock: what is next to a clear row of it, and on the map, is one of its rows (`near_in`).
use Rattle.std.specs.Prelude.{◌≡◌, ◌⊎◌, not, ◌||◌, T, eqb}
use Rattle.std.proofs.Common.{inl, inr, eqb→eq}
use Prim.Native.Nat.{ℕ, ◌+◌, ◌*◌, ◌^◌, ◌≤◌, ◌<◌}
use native.Mathlib.Omega.{arith}
use Rattle.std.proofs.Math.Decide.{ℕ_discrete}
use Rattle.heads.specs.TwoHeads.{clear}
use Rattle.integers.specs.Tests.{T_and, T_or, neqb→ne}
use Rattle.quadtree.specs.Areas.{In}

clear_is : (r a x : ℕ) → T (clear r a x) → ((x ≡ 4 * a) → a ≡ 0) × ((x ≡ 4 * a + 7) → 4 * a + 8 ≡ 2 ^ r)
unfolding clear
clear_is r a x t =
    let u = T_and (not (eqb x (4 * a)) || eqb a 0) (not (eqb x (4 * a + 7)) || eqb (4 * a + 8) (2 ^ r)) t in (
      first (T_or (not (eqb x (4 * a))) (eqb a 0) u.0),
      last (T_or (not (eqb x (4 * a + 7))) (eqb (4 * a + 8) (2 ^ r)) u.1),
    )
  where
    first : T (not (eqb x (4 * a))) ⊎ T (eqb a 0) → (x ≡ 4 * a) → a ≡ 0
    first (inl n) e = absurd (neqb→ne x (4 * a) n e)
    first (inr y) e = eqb→eq a 0 y

    last : T (not (eqb x (4 * a + 7))) ⊎ T (eqb (4 * a + 8) (2 ^ r)) → (x ≡ 4 * a + 7) → 4 * a + 8 ≡ 2 ^ r
    last (inl n) e = absurd (neqb→ne x (4 * a + 7) n e)
    last (inr y) e = eqb→eq (4 * a + 8) (2 ^ r) y

-- what is next to a clear row of the macroblock, and on the map, is one of its rows
pub near_in : (r a x z : ℕ) → In (4 * a) 8 x → T (clear r a x) → z < 2 ^ r → x ≤ z + 1 → z ≤ x + 1 → In (4 * a) 8 z
near_in r a x z i t lt p q = go (ℕ_discrete x (4 * a)) (ℕ_discrete x (4 * a + 7))
  where
    go : Dec (x ≡ 4 * a) → Dec (x ≡ 4 * a + 7) → In (4 * a) 8 z
    go (yes e) d = omega (arith, (clear_is r a x t).0 e)
    go (no n) (yes e) = omega (arith, (clear_is r a x t).1 e)
    go (no n) (no k) = omega arith
