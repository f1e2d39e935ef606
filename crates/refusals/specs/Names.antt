-- The names of stages are 1 to 8 (`at_least_one`, `at_most_eight`, `one_to_eight`).
use Rattle.std.specs.Prelude.{◌≡◌, refl, Bool, true, false, ◌&&◌, ℕ, ◌≤◌, leb}
use Rattle.std.proofs.Common.{sym, true≢false}
use borrow.Author.Tests.{leb-true, le-leb}
use Rattle.definition.specs.Checkpoints.{is_name}

pub both : (a b : Bool) → (a && b) ≡ true → (a ≡ true) × (b ≡ true)
both true true e = (refl, refl)
both true false e = absurd (true≢false (sym e))
both false b e = absurd (true≢false (sym e))

module _ (name : ℕ) (e : is_name name ≡ true) where
  pub at_least_one : 1 ≤ name
  unfolding is_name
  at_least_one = leb-true 1 name (both (leb 1 name) (leb name 8) e).0

  pub at_most_eight : name ≤ 8
  unfolding is_name
  at_most_eight = leb-true name 8 (both (leb 1 name) (leb name 8) e).1

-- and these are names (S 2.11)
pub one_to_eight : (name : ℕ) → 1 ≤ name → name ≤ 8 → is_name name ≡ true
unfolding is_name
one_to_eight name low high = rw (le-leb 1 name low, le-leb name 8 high)
