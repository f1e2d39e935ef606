-- The tests of serials and order list, at each place (`few_dots_is`, `numbered_every`, `counted_is`, `unused_every`).
use Rattle.std.specs.Prelude.{◌≡◌, List, ℕ, ◌≤◌, leb, eqb, get_or}
use Rattle.std.proofs.Common.{arith}
use Rattle.definition.specs.Blocks.{burnt}
use Rattle.definition.specs.Lists.{sum_to}
use Rattle.definition.specs.Pyramid.{cell_count}
use Rattle.definition.specs.Sound.{few_dots, numbered, counted, unused}
use Rattle.integers.specs.Loops.{Every}
use Rattle.integers.specs.Totals.{Total}
use Rattle.sound.specs.OnePlace.{next_at, free_at}

-- ════ the tests of the definition as tests at each place

module _ (r : ℕ) {cells : ℕ} (e : cells ≡ cell_count r) where
  pub numbered_every : (serials order : List ℕ) (dots : ℕ)
      → Every (numbered r serials order dots) (next_at cells serials order) dots
  unfolding numbered
  numbered_every serials order dots = record { is = rw e }

  pub unused_every : (order : List ℕ) (dots : ℕ) → Every (unused r order dots) (free_at dots order) cells
  unfolding unused
  unused_every order dots = record { is = rw e }

-- ════ a count, and one place

pub few_dots_is : (r dots : ℕ) {cells : ℕ} → cells ≡ cell_count r → leb dots cells ≡ few_dots r dots
unfolding few_dots
few_dots_is r dots e = rw e

pub counted_is : (r : ℕ) (serials : List ℕ) (dots : ℕ) {cells i sum most : ℕ} → cells ≡ cell_count r → i ≤ cells
    → cells ≤ i → Total (sum_to i (λ m. burnt (get_or serials m 0))) most sum → eqb sum dots ≡ counted r serials dots
unfolding counted
counted_is r serials dots {cells} {i} e p q h = let z : i ≡ cell_count r = omega arith in rw (h.is, z)
