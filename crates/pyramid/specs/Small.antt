-- Entries that are all within a bound: of a part of a list (`take_within`), of two lists one behind the other
-- (`append_within`), and of the four below an entry (`four_small`).
use Rattle.std.specs.Prelude.{◌≡◌, List, [], ◌∷◌, ◌++◌, get_or, take, ℤ, pos}
use Prim.Native.Nat.{ℕ, zero, suc, ◌+◌, ◌*◌, ◌^◌, ◌<◌}
use Rattle.std.proofs.Common.{arith}
use Rattle.std.proofs.Math.Nat.{pow-succ'}
use Rattle.definition.specs.Pyramid.{four}
use Rattle.integers.specs.Linear.{zz}
use Rattle.pyramid.specs.PyramidPart.{Within}
use Rattle.pyramid.specs.Four.{within_four}

module _ (bound : ℕ) where
  pub zero_within : Within bound (pos 0)
  zero_within = record { low = simp zz (omega arith); high = simp zz (omega arith) }

  pub take_within : (n : ℕ) (l : List ℤ) → ((i : ℕ) → Within bound (get_or l i (pos 0)))
      → (i : ℕ) → Within bound (get_or (take n l) i (pos 0))
  take_within zero l h i = zero_within
  take_within (suc n) [] h i = h i
  take_within (suc n) (x ∷ xs) h zero = h 0
  take_within (suc n) (x ∷ xs) h (suc i) = take_within n xs (λ j. h (suc j)) i

  pub append_within : (xs ys : List ℤ) → ((i : ℕ) → Within bound (get_or xs i (pos 0)))
      → ((i : ℕ) → Within bound (get_or ys i (pos 0))) → (i : ℕ) → Within bound (get_or (xs ++ ys) i (pos 0))
  append_within [] ys h k i = k i
  append_within (x ∷ xs) ys h k zero = h 0
  append_within (x ∷ xs) ys h k (suc i) = append_within xs ys (λ j. h (suc j)) k i

  -- the sum of the four below an entry of level k
  pub four_small : (k : ℕ) (below : ℕ → ℕ → ℤ)
      → ((x y : ℕ) → x < 2 ^ suc k → y < 2 ^ suc k → Within bound (below x y))
      → (a b : ℕ) → a < 2 ^ k → b < 2 ^ k → Within (4 * bound) (four below a b)
  unfolding four
  four_small k below h a b p q =
      let two : 2 ^ suc k ≡ 2 * 2 ^ k = pow-succ' 2 k in
      within_four bound _ _ _ _
      (h (2 * a) (2 * b) (omega arith) (omega arith)) (h (2 * a) (2 * b + 1) (omega arith) (omega arith))
      (h (2 * a + 1) (2 * b) (omega arith) (omega arith)) (h (2 * a + 1) (2 * b + 1) (omega arith) (omega arith))
