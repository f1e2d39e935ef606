-- The tests of a name (`name_is`, `name_not`), and what follows from there being a way back to one (`name_kept`,
-- `kept_within`).
use Rattle.std.specs.Prelude.{◌≡◌, refl, Bool}
use Rattle.std.proofs.Common.{sym, ◌∙◌, true≢false}
use Rattle.std.proofs.Math.Bool.{true, false}
use Prim.Native.Nat.{ℕ, zero, suc, ◌-◌, ◌≤◌}
use native.Mathlib.Omega.{arith}
use Rattle.std.proofs.Math.Dec.{leb}
use borrow.Author.Tests.{leb-true}
use Rattle.definition.specs.Checkpoints.{is_name, kept_at, can_restore}
use Rattle.definition.specs.declared.Checkpoints.{Checkpoints}
use Rattle.refusals.specs.Names.{both}

-- what the code's test told
module _ (name : ℕ) {b : Bool} (e : b ≡ is_name name) where
  pub name_is : b ≡ true → is_name name ≡ true
  name_is yes' = sym e ∙ yes'

  pub name_not : b ≡ false → is_name name ≡ false
  name_not no' = sym e ∙ no'

-- ---- whether there is a way back to a name; n is what the code has read under it
module _ (checkpoints : Checkpoints) (name total : ℕ) where
  pub no_name : is_name name ≡ false → false ≡ can_restore checkpoints name total
  unfolding can_restore
  no_name e = rw e

  module _ (is : is_name name ≡ true) {n : ℕ} (en : n ≡ kept_at checkpoints name) where
    pub name_empty : n ≡ 0 → false ≡ can_restore checkpoints name total
    unfolding can_restore
    name_empty z = rw (is, ← en, z, can_restore)

    pub name_kept : (n ≡ 0 → ⊥) → leb (n - 1) total ≡ can_restore checkpoints name total
    unfolding can_restore
    name_kept some = go n en some
      where
        go : (m : ℕ) → m ≡ kept_at checkpoints name → (m ≡ 0 → ⊥)
            → leb (m - 1) total ≡ can_restore checkpoints name total
        go zero e h = absurd (h refl)
        go (suc d) e h = let z : suc d - 1 ≡ d = omega arith in rw (is, ← e, can_restore, z)

  -- what follows from there being one
  pub kept_within : can_restore checkpoints name total ≡ true
      → (is_name name ≡ true) × (1 ≤ kept_at checkpoints name) × (kept_at checkpoints name - 1 ≤ total)
  unfolding can_restore
  kept_within e =
      let h = both (is_name name) _ e in
      let k = go (kept_at checkpoints name) h.1 in
      (h.0, k.0, k.1)
    where
      go : (m : ℕ) → elim m [ zero ↦ false | suc dots ↦ leb dots total ] ≡ true
          → (1 ≤ m) × (m - 1 ≤ total)
      go zero z = absurd (true≢false (sym z))
      go (suc d) z = (omega arith, omega (arith, leb-true d total z))
