-- The seven tests together: which of them are asked after which, and what one that fails (`few_no` and so on), or all
-- but the sums (`all_but_sums`), say of the sheet.
use Rattle.std.specs.Prelude.{◌≡◌, refl, Bool, true, false, not, ◌&&◌, ◌||◌, List, ℕ, ◌*◌, ◌^◌, ◌≤◌, ◌<◌, T, length, ℤ}
use Rattle.std.specs.Prelude.{pos, neg_ℤ}
use Rattle.std.proofs.Common.{◌∙◌, arith}
use Rattle.std.proofs.Math.Dec.{eqb}
use Rattle.std.specs.Int.Signed.{le_z, le_z_yes}
use Rattle.definition.specs.Pyramid.{one_dot, cell_count, entry}
use Rattle.definition.specs.Blocks.{burnt_at}
use Rattle.definition.specs.Model.{Halftone}
use Rattle.definition.specs.Sound.{burnt_near, few_dots, numbered, counted, unused, summed, bounded, owing, is_sound}
use Rattle.integers.specs.Tests.{T_true, T_and, every_entry_at, tests, and_true, and_false}
use Rattle.integers.specs.Linear.{neg_le_up, zz, ints}
use Rattle.pyramid.specs.PyramidPart.{Within}
use Rattle.sound.specs.OnePlace.{in_rows, SoundAsked, NumberedAsked, SummedAsked}
use Rattle.sound.specs.Either.{in_rows_lem}
use Rattle.integers.specs.Loops.{held}
use Rattle.dots.specs.Near.{burnt_near_most}

-- ════ what a test that holds tells the next

few : (r dots : ℕ) {b : Bool} → b ≡ few_dots r dots → not b ≡ false → dots ≤ cell_count r
unfolding few_dots
few r dots e f = omega (tests, held e f)

pub numbered_asked : {r pyramid serials order dots : ℕ} {b : Bool} → SoundAsked r pyramid serials order
    → b ≡ few_dots r dots → not b ≡ false → NumberedAsked r serials order dots
numbered_asked {r} {dots = dots} h e f =
    record { most = h.most; cells = h.cells; places = h.places; few = few r dots e f }

-- a residual between the two bounds
cell_within : (z : ℤ) (near : ℕ) → near ≤ 9 → T (le_z z (pos one_dot)) → T (le_z (neg_ℤ (pos (one_dot * near))) z)
    → Within (2 ^ 20) z
cell_within z near h s t =
    record { low = simp zz (omega (ints, neg_le_up (one_dot * near) z (le_z_yes t))); high = simp zz (omega ints) }

module _ (r : ℕ) (pyramid : List ℤ) (serials : List ℕ) where
  cells_within : T (bounded r pyramid serials) → T (owing r pyramid serials) → (x y : ℕ) → x < 2 ^ r → y < 2 ^ r
      → Within (2 ^ 20) (entry pyramid r x y)
  unfolding bounded owing
  cells_within s t x y p q =
      let high = le_z (entry pyramid r x y) (pos one_dot) in
      let spent = eqb (burnt_at r serials x y) 0 || le_z (entry pyramid r x y) (pos 0) in
      cell_within (entry pyramid r x y) (burnt_near r serials x y) (burnt_near_most r serials x y)
      (T_and high spent (every_entry_at r _ s x y p q)).0 (every_entry_at r _ t x y p q)

pub summed_asked : (rows : Bool) (r : ℕ) (pyramid : List ℤ) (serials : List ℕ) {order : ℕ} {b : Bool}
    → SoundAsked r (length pyramid) (length serials) order
    → b ≡ (bounded r (in_rows rows r pyramid) serials && owing r (in_rows rows r pyramid) serials) → not b ≡ false
    → SummedAsked rows pyramid r
summed_asked rows r pyramid serials h e f =
    let cells = in_rows rows r pyramid in
    let t = T_and (bounded r cells serials) (owing r cells serials) (T_true _ (held e f)) in
    record {
      most = h.most;
      whole = h.whole;
      small = λ x y p q.
          rw (← in_rows_lem rows r pyramid r x y (omega arith) p q)
          (cells_within r cells serials t.0 t.1 x y p q);
    }

-- ════ one test fails, or none

-- the two bounds come last in the definition, so they are tested as one
and_assoc : (a b c : Bool) → (a && b && c) ≡ (a && (b && c))
and_assoc true b c = refl
and_assoc false b c = refl

module _ (r : ℕ) (s : Halftone) where
  pub few_no : few_dots r s.dots ≡ false → false ≡ is_sound r s
  unfolding is_sound
  few_no e = rw e

  pub numbered_no : numbered r s.serials s.order s.dots ≡ false → false ≡ is_sound r s
  unfolding is_sound
  numbered_no e = rw (e, and_false)

  pub counted_no : counted r s.serials s.dots ≡ false → false ≡ is_sound r s
  unfolding is_sound
  counted_no e = rw (e, and_false)

  pub unused_no : unused r s.order s.dots ≡ false → false ≡ is_sound r s
  unfolding is_sound
  unused_no e = rw (e, and_false)

  pub cells_no : (bounded r s.pyramid s.serials && owing r s.pyramid s.serials) ≡ false
      → false ≡ is_sound r s
  unfolding is_sound
  cells_no e = rw (and_assoc _ (bounded r s.pyramid s.serials), e, and_false)

  pub all_but_sums : {b : Bool} → few_dots r s.dots ≡ true → numbered r s.serials s.order s.dots ≡ true
      → counted r s.serials s.dots ≡ true → unused r s.order s.dots ≡ true
      → (bounded r s.pyramid s.serials && owing r s.pyramid s.serials) ≡ true
      → b ≡ summed r s.pyramid → b ≡ is_sound r s
  unfolding is_sound
  all_but_sums e₁ e₂ e₃ e₄ e₅ e =
      rw (and_assoc _ (bounded r s.pyramid s.serials), e₁, e₂, e₃, e₄, e₅)
      (e ∙ and_true (summed r s.pyramid))
