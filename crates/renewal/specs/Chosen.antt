-- The places over chosen places: a quarter of each (`over_four`). And the corners of two rows and two columns, from
-- level to level (`corners_up`).
use Rattle.std.specs.Prelude.{◌≡◌, refl, ◌⊎◌, Bool, true, false, ◌||◌, ℕ, suc, ◌+◌, ◌*◌, ◌/◌, ◌%◌, ◌≤◌, ◌<◌, eqb}
use Rattle.std.proofs.Common.{sym, ap, ap₂, ◌∙◌, arith}
use Rattle.std.proofs.Math.Path.{fun_ext}
use Rattle.std.proofs.Math.Logic.{inl, inr}
use Rattle.std.proofs.Math.Nat.{pow-succ'}
use Rattle.std.proofs.Math.Decide.{ℕ_discrete}
use Rattle.std.proofs.Math.Dec.{T}
use Rattle.definition.specs.Pyramid.{start}
use Rattle.definition.specs.Quarters.{interleaved, row_of, column_of}
use Rattle.integers.specs.Tests.{tests, T_or, or_T, same_test}
use Rattle.quadtree.specs.Levels.{start_thrice, start_suc, start_mono, quadruple}
use Rattle.layouts.specs.Interleaved.{interleaved_lt, row_interleaved, column_interleaved}
use Rattle.layouts.specs.Renewed.{over_chosen}
use Rattle.renewal.specs.OverPlaces.{either_of, chosen_of, over, Corners, InLevel}

-- ---- places over places
module _ (p i : ℕ) where
  abbrev is : ℕ → Bool
  is j = eqb j p

  over_to : T (over_chosen is i) → i ≡ p / 4
  unfolding over_chosen
  over_to t = go (T_or (is (4 * i) || is (4 * i + 1) || is (4 * i + 2)) (is (4 * i + 3)) t)
    where
      two : T (is (4 * i)) ⊎ T (is (4 * i + 1)) → i ≡ p / 4
      two (inl t) = omega tests
      two (inr t) = omega tests

      three : T (is (4 * i) || is (4 * i + 1)) ⊎ T (is (4 * i + 2)) → i ≡ p / 4
      three (inl t) = two (T_or (is (4 * i)) (is (4 * i + 1)) t)
      three (inr t) = omega tests

      go : T (is (4 * i) || is (4 * i + 1) || is (4 * i + 2)) ⊎ T (is (4 * i + 3)) → i ≡ p / 4
      go (inl t) = three (T_or (is (4 * i) || is (4 * i + 1)) (is (4 * i + 2)) t)
      go (inr t) = omega tests

  over_from : i ≡ p / 4 → T (over_chosen is i)
  unfolding over_chosen
  over_from e = or_T (is (4 * i) || is (4 * i + 1) || is (4 * i + 2)) (is (4 * i + 3)) (go (ℕ_discrete (p % 4) 3))
    where
      two : p % 4 < 2 → Dec (p % 4 ≡ 1) → T (is (4 * i)) ⊎ T (is (4 * i + 1))
      two h (yes x) = inr (omega tests)
      two h (no x) = inl (omega tests)

      three : p % 4 < 3 → Dec (p % 4 ≡ 2) → T (is (4 * i) || is (4 * i + 1)) ⊎ T (is (4 * i + 2))
      three h (yes x) = inr (omega tests)
      three h (no x) = inl (or_T (is (4 * i)) (is (4 * i + 1)) (two (omega arith) (ℕ_discrete (p % 4) 1)))

      go : Dec (p % 4 ≡ 3) → T (is (4 * i) || is (4 * i + 1) || is (4 * i + 2)) ⊎ T (is (4 * i + 3))
      go (yes x) = inr (omega tests)
      go (no x) =
          inl (or_T (is (4 * i) || is (4 * i + 1)) (is (4 * i + 2)) (three (omega arith) (ℕ_discrete (p % 4) 2)))

  over_one : over_chosen is i ≡ eqb i (p / 4)
  over_one =
      same_test (over_chosen is i) (eqb i (p / 4)) (λ t. let u = over_to t in omega tests)
      (λ t. over_from (omega tests))

or_swap : (p q s t : Bool) → ((p || q) || (s || t)) ≡ ((p || s) || (q || t))
or_swap true q s t = refl
or_swap false true true t = refl
or_swap false true false t = refl
or_swap false false s t = refl

over_or : (f g : ℕ → Bool) (i : ℕ) → over_chosen (λ j. f j || g j) i ≡ (over_chosen f i || over_chosen g i)
unfolding over_chosen
over_or f g i =
    let a = 4 * i in
    ap (λ (t : Bool). t || (f (a + 3) || g (a + 3)))
    (ap (λ (t : Bool). t || (f (a + 2) || g (a + 2))) (or_swap (f a) (g a) (f (a + 1)) (g (a + 1)))
    ∙ or_swap (f a || f (a + 1)) (g a || g (a + 1)) (f (a + 2)) (g (a + 2)))
    ∙ or_swap (f a || f (a + 1) || f (a + 2)) (g a || g (a + 1) || g (a + 2)) (f (a + 3)) (g (a + 3))

over_either : (p q i : ℕ) → over_chosen (either_of p q) i ≡ either_of (p / 4) (q / 4) i
unfolding either_of
over_either p q i = over_or (λ j. eqb j p) (λ j. eqb j q) i ∙ ap₂ ◌||◌ (over_one p i) (over_one q i)

pub over_four : (nw ne sw se : ℕ)
    → over_chosen (chosen_of nw ne sw se) ≡ chosen_of (nw / 4) (ne / 4) (sw / 4) (se / 4)
unfolding chosen_of
over_four nw ne sw se =
    fun_ext (λ i.
    over_or (either_of nw ne) (either_of sw se) i ∙ ap₂ ◌||◌ (over_either nw ne i) (over_either sw se i))

-- ---- corners, by places of the whole pyramid
pub start_four : (k : ℕ) → start (suc k) ≡ 4 * start k + 1
start_four k = omega (arith, start_thrice k, start_thrice (suc k), quadruple k)

pub start_one : (k : ℕ) → 0 < k → 1 ≤ start k
start_one k lt = omega (arith, start_mono 1 k lt, start_thrice 1)

quartered : (k a b : ℕ) → interleaved (suc k) a b / 4 ≡ interleaved k (a / 2) (b / 2)
unfolding interleaved
quartered k a b = omega arith

in_level_lem : (k a b : ℕ) {x : ℕ} → x ≡ start k + interleaved k a b → InLevel k x
in_level_lem k a b e = record { from = omega arith; to = omega (arith, interleaved_lt k a b, start_suc k) }

one_up : (k a b : ℕ) {x : ℕ} → x ≡ start (suc k) + interleaved (suc k) a b
    → over x ≡ start k + interleaved k (a / 2) (b / 2)
one_up k a b e = omega (arith, e, start_four k, quartered k a b)

pub corners_up : (k : ℕ) {nw ne sw se : ℕ} → Corners (suc k) nw ne sw se
    → Corners k (over nw) (over ne) (over sw) (over se)
corners_up k h =
    record {
      top = h.top / 2;
      low = h.low / 2;
      left = h.left / 2;
      right = h.right / 2;
      top_in = omega (arith, h.top_in, pow-succ' 2 k);
      low_in = omega (arith, h.low_in, pow-succ' 2 k);
      left_in = omega (arith, h.left_in, pow-succ' 2 k);
      right_in = omega (arith, h.right_in, pow-succ' 2 k);
      nw_is = one_up k h.top h.left h.nw_is;
      ne_is = one_up k h.top h.right h.ne_is;
      sw_is = one_up k h.low h.left h.sw_is;
      se_is = one_up k h.low h.right h.se_is;
    }

module _ {k nw ne sw se : ℕ} (h : Corners k nw ne sw se) where
  pub nw_at : InLevel k nw
  nw_at = in_level_lem k h.top h.left h.nw_is

  pub ne_at : InLevel k ne
  ne_at = in_level_lem k h.top h.right h.ne_is

  pub sw_at : InLevel k sw
  sw_at = in_level_lem k h.low h.left h.sw_is

  pub se_at : InLevel k se
  se_at = in_level_lem k h.low h.right h.se_is

  -- where the first is the last, all four are one
  module _ (e : nw ≡ se) where
    same_place : interleaved k h.top h.left ≡ interleaved k h.low h.right
    same_place = omega (arith, h.nw_is, h.se_is)

    same_row : h.top ≡ h.low
    same_row =
        sym (row_interleaved k h.top h.left h.top_in) ∙ ap (row_of k) same_place
        ∙ row_interleaved k h.low h.right h.low_in

    same_column : h.left ≡ h.right
    same_column =
        sym (column_interleaved k h.top h.left h.left_in) ∙ ap (column_of k) same_place
        ∙ column_interleaved k h.low h.right h.right_in

    pub joined_ne : ne ≡ nw
    joined_ne = h.ne_is ∙ ap (λ (b : ℕ). start k + interleaved k h.top b) (sym same_column) ∙ sym h.nw_is

    pub joined_sw : sw ≡ nw
    joined_sw = h.sw_is ∙ ap (λ (a : ℕ). start k + interleaved k a h.left) (sym same_row) ∙ sym h.nw_is
