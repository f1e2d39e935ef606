-- Loops that test place after place and return false at the first where the test fails: `none` is the start, `turn` one
-- turn, `fails` the end at such a place, `passes` the end past the last one.
use Rattle.std.specs.Prelude.{◌≡◌, Bool, true, false, not, ℕ, ◌+◌, ◌≤◌, ◌<◌}
use Rattle.std.proofs.Common.{sym, ◌∙◌, add-one, arith}
use Rattle.definition.specs.Lists.{all_to}
use Rattle.integers.specs.Tests.{T_false, false_T, all_to_none, all_to_suc, not_all_to}

-- a test b of which the code has a for its value, and branches on `!a`
pub held : {a b : Bool} → a ≡ b → not a ≡ false → b ≡ true
held {a = true} e f = sym e
held {a = false} e f = sym e ∙ sym f

pub failed : {a b : Bool} → a ≡ b → not a ≡ true → b ≡ false
failed {a = true} e f = sym e ∙ sym f
failed {a = false} e f = sym e

-- a whole test is the test p at each of n places
pub record Every (whole : Bool) (p : ℕ → Bool) (n : ℕ) : Type 0 where
  pub is : whole ≡ all_to n p

-- the first i of n places hold
pub record Held (p : ℕ → Bool) (n i : ℕ) : Type 0 where
  pub most : i ≤ n
  pub so_far : all_to i p ≡ true

module _ {p : ℕ → Bool} {n : ℕ} where
  pub none : Held p n 0
  none = record { most = omega arith; so_far = all_to_none p }

  pub turn : {i : ℕ} {b : Bool} → Held p n i → i < n → b ≡ p i → not b ≡ false → Held p n (i + 1)
  turn {i} h lt e t = record { most = omega arith; so_far = rw (add-one i, all_to_suc i p, h.so_far) (held e t) }

  pub fails : {whole : Bool} {i : ℕ} {b : Bool} → Held p n i → Every whole p n → i < n → b ≡ p i → not b ≡ true
      → false ≡ whole
  fails {i = i} h w lt e f = sym (w.is ∙ false_T (all_to n p) (not_all_to n p i lt (T_false (p i) (failed e f))))

  pub passes : {whole : Bool} {i : ℕ} → Held p n i → Every whole p n → n ≤ i → true ≡ whole
  passes {i = i} h w le = let e : i ≡ n = omega (arith, h.most) in sym (w.is ∙ rw e at h.so_far)
