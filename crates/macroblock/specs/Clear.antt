-- The rim, as the code tests it (`clear_first`, `clear_last`, `clear_inside`).
use Rattle.std.specs.Prelude.{◌≡◌, Bool, not, ◌&&◌, ◌||◌, ℕ, ◌+◌, ◌*◌, ◌^◌}
use Rattle.std.proofs.Math.Path.{refl}
use Rattle.std.proofs.Math.Bool.{true, false}
use Rattle.std.proofs.Common.{arith}
use Rattle.std.proofs.Math.Dec.{eqb}
use borrow.Author.Tests.{eq-eqb, ne_eqb}
use Rattle.heads.specs.TwoHeads.{clear}

module _ (r a x : ℕ) where
  pub clear_first : x ≡ 4 * a → eqb a 0 ≡ clear r a x
  unfolding clear
  clear_first e = rw (eq-eqb x (4 * a) e, ne_eqb x (4 * a + 7) (λ f. omega arith)) (both (eqb a 0))
    where
      both : (b : Bool) → b ≡ ((not true || b) && (not false || eqb (4 * a + 8) (2 ^ r)))
      both true = refl
      both false = refl

  pub clear_last : (side : ℕ) → side ≡ 2 ^ r → (x ≡ 4 * a → ⊥) → x ≡ 4 * a + 7 → eqb (4 * a + 8) side ≡ clear r a x
  unfolding clear
  clear_last side es ne e = rw (ne_eqb x (4 * a) ne, eq-eqb x (4 * a + 7) e, es)

  pub clear_inside : (x ≡ 4 * a → ⊥) → (x ≡ 4 * a + 7 → ⊥) → true ≡ clear r a x
  unfolding clear
  clear_inside ne nf = rw (ne_eqb x (4 * a) ne, ne_eqb x (4 * a + 7) nf)
