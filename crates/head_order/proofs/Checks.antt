-- The checks of the call are Load's, with 14 behind 1: what is not refused (`heads_none`), where it is refused as Load
-- is (`heads_load`), and where with 14 (`heads_small`).
use Rattle.std.specs.Prelude.{◌≡◌, ◌≢◌, ◌⊎◌, ◌↔◌, Bool, ℕ, ◌≤◌, ◌<◌, ltb, eqb}
use Rattle.std.proofs.Common.{sym, ◌∙◌, inl, inr, arith, pow_mono}
use Rattle.std.proofs.Math.Decide.{dec_le}
use borrow.Author.Tests.{lt-ltb, le-ltb, ltb-false, eqb-false, eq-eqb, ne_eqb}
use Rattle.definition.specs.Refusals.{power_of, lowest}
use Rattle.definition.specs.Load.{load_refusal}
use Rattle.heads.specs.TwoHeads.{two_heads_refusal}
use Rattle.refusals.specs.Lowest.{lowest_here, lowest_past, lowest_none}
use Rattle.refusals.specs.Powers.{side_pow}
use Rattle.head_order.proofs.LargeSides.{side_large}

-- the sides from 16 on are the powers from 4 on
pub power_large : (side : ℕ) → 0 < power_of side → 16 ≤ side → 4 ≤ power_of side
power_large side some h = go (dec_le 4 (power_of side))
  where
    go : Dec (4 ≤ power_of side) → 4 ≤ power_of side
    go (yes d) = d
    go (no d) = absurd (omega (arith, side_pow side some, pow_mono {i = power_of side} {j = 3} (omega arith)))

module _ (side knit greys pyramid serials order : ℕ) (low : Bool) where
  abbrev heads : ℕ
  heads = two_heads_refusal side knit greys pyramid serials order low

  abbrev load : ℕ
  load = load_refusal (power_of side) knit greys pyramid serials order low

  heads_unknown : power_of side ≡ 0 → heads ≡ load
  unfolding two_heads_refusal load_refusal lowest
  heads_unknown e = rw (eq-eqb (power_of side) 0 e)

  heads_large : 16 ≤ side → heads ≡ load
  unfolding two_heads_refusal load_refusal lowest
  heads_large h = rw (le-ltb side 16 h)

  pub heads_load : (power_of side ≡ 0) ⊎ (16 ≤ side) → heads ≡ load
  heads_load (inl e) = heads_unknown e
  heads_load (inr h) = heads_large h

  -- a side below 16 is told before all but an unknown side (S 5.2)
  pub heads_small : power_of side ≢ 0 → side < 16 → heads ≡ 14
  unfolding two_heads_refusal
  heads_small some h =
      lowest_past 1 (eqb (power_of side) 0) _ (ne_eqb (power_of side) 0 some)
      ∙ lowest_here 14 (ltb side 16) _ (lt-ltb side 16 h)

  none_power : heads ≡ 0 → 4 ≤ power_of side
  unfolding two_heads_refusal
  none_power e =
      let r₁ = lowest_none 1 (eqb (power_of side) 0) _ (omega arith) e in
      let r₂ = lowest_none 14 (ltb side 16) _ (omega arith) r₁.1 in
      power_large side (omega (arith, eqb-false (power_of side) 0 r₁.0)) (ltb-false side 16 r₂.0)

  -- what is accepted: what Load accepts, of side 16 or more (S 13.5)
  pub heads_none : (heads ≡ 0) ↔ ((4 ≤ power_of side) × (load ≡ 0))
  heads_none = (
    λ e. let h = none_power e in (h, sym (heads_large (side_large side h)) ∙ e),
    λ h. heads_large (side_large side h.0) ∙ h.1,
  )
