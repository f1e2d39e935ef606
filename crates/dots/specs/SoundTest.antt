-- The computed test of a sound sheet holds just if the seven conditions of a sound sheet do: `sound_iff`, and each way
-- by itself (`test_sound`, `sound_test`).
use Rattle.std.specs.Prelude.{◌≡◌, ◌⊎◌, ◌↔◌, Bool, ◌&&◌, ◌||◌, ltb, eqb, get_or, pos, neg_ℤ, ◌≤ℤ◌}
use Rattle.std.proofs.Common.{◌∙◌, inl, inr, le→leb, lt→ltb}
use Prim.Native.Nat.{ℕ, suc, ◌*◌, ◌-◌, ◌^◌, ◌≤◌, ◌<◌}
use native.Mathlib.Omega.{arith}
use Rattle.std.proofs.Math.Decide.{ℕ_discrete, dec_lt}
use Rattle.std.proofs.Math.Dec.{T, leb→le, ltb→lt, eqb→eq}
use Rattle.std.specs.Int.Signed.{le_z}
use Rattle.definition.specs.Lists.{sum_to, eq_z}
use Rattle.definition.specs.Pyramid.{one_dot, cell_count, entry, four}
use Rattle.definition.specs.Blocks.{burnt, burnt_at}
use Rattle.definition.specs.Model.{Halftone}
use Rattle.definition.specs.Sound.{
  burnt_near,
  every_entry,
  few_dots,
  numbered,
  counted,
  unused,
  summed,
  bounded,
  owing,
  is_sound,
  Sound,
}
use Rattle.integers.specs.Tests.{
  T_and,
  and_T,
  T_or,
  or_T,
  eq→eqb,
  all_to_at,
  all_to_all,
  every_entry_at,
  every_entry_all,
  eq_z_eq,
  eq_eq_z,
}
use Rattle.dots.specs.Marks.{burnt_at_le}

-- a chain of seven tests
all_seven : (a b c d e f g : Bool) → T (a && b && c && d && e && f && g) → T a × T b × T c × T d × T e × T f × T g
all_seven a b c d e f g t =
    let t₆ = T_and (a && b && c && d && e && f) g t in
    let t₅ = T_and (a && b && c && d && e) f t₆.0 in
    let t₄ = T_and (a && b && c && d) e t₅.0 in
    let t₃ = T_and (a && b && c) d t₄.0 in
    let t₂ = T_and (a && b) c t₃.0 in
    let t₁ = T_and a b t₂.0 in
    (t₁.0, t₁.1, t₂.1, t₃.1, t₄.1, t₅.1, t₆.1)

seven_all : (a b c d e f g : Bool) → T a → T b → T c → T d → T e → T f → T g → T (a && b && c && d && e && f && g)
seven_all a b c d e f g t₁ t₂ t₃ t₄ t₅ t₆ t₇ =
    and_T (a && b && c && d && e && f) g
    (and_T (a && b && c && d && e) f
    (and_T (a && b && c && d) e (and_T (a && b && c) d (and_T (a && b) c (and_T a b t₁ t₂) t₃) t₄) t₅) t₆) t₇

module _ (r : ℕ) (s : Halftone) where
  abbrev in_map : ℕ → Bool
  in_map i = ltb (get_or s.order i 0) (cell_count r)

  abbrev is_next : ℕ → Bool
  is_next i = eqb (get_or s.serials (get_or s.order i 0) 0) (suc i)

  abbrev is_free : ℕ → Bool
  is_free i = ltb i s.dots || eqb (get_or s.order i 0) 0

  abbrev is_sum : ℕ → ℕ → ℕ → Bool
  is_sum k a b = eq_z (entry s.pyramid k a b) (four (entry s.pyramid (suc k)) a b)

  abbrev is_low : ℕ → ℕ → Bool
  is_low x y = le_z (entry s.pyramid r x y) (pos one_dot)

  abbrev is_spent : ℕ → ℕ → Bool
  is_spent x y = eqb (burnt_at r s.serials x y) 0 || le_z (entry s.pyramid r x y) (pos 0)

  abbrev is_high : ℕ → ℕ → Bool
  is_high x y = le_z (neg_ℤ (pos (one_dot * burnt_near r s.serials x y))) (entry s.pyramid r x y)

  pub test_sound : T (is_sound r s) → Sound r s
  unfolding is_sound few_dots numbered counted unused summed bounded owing
  test_sound t =
      let u = all_seven (few_dots r s.dots) (numbered r s.serials s.order s.dots)
      (counted r s.serials s.dots) (unused r s.order s.dots) (summed r s.pyramid)
      (bounded r s.pyramid s.serials) (owing r s.pyramid s.serials) t in
      let cells = every_entry_at r (λ x y. is_low x y && is_spent x y) u.5 in
      record {
        few_dots_lem = leb→le s.dots (cell_count r) u.0;
        in_order = λ j h k. order j h k (all_to_at s.dots (λ i. in_map i && is_next i) u.1 (j - 1) (omega arith));
        count = eqb→eq (sum_to (cell_count r) (λ i. burnt (get_or s.serials i 0))) s.dots u.2;
        unused_zero =
            λ i h k. free i h
            (T_or (ltb i s.dots) (eqb (get_or s.order i 0) 0) (all_to_at (cell_count r) is_free u.3 i k));
        sums =
            λ k a b h p q. eq_z_eq (entry s.pyramid k a b) (four (entry s.pyramid (suc k)) a b)
            (every_entry_at k (is_sum k) (all_to_at r (λ m. every_entry m (is_sum m)) u.4 k h) a b p q);
        at_most = λ x y p q. record { le = (T_and (is_low x y) (is_spent x y) (cells x y p q)).0 };
        burnt_at_most =
            λ x y p q e. spent x y e
            (T_or (eqb (burnt_at r s.serials x y) 0) (le_z (entry s.pyramid r x y) (pos 0))
            (T_and (is_low x y) (is_spent x y) (cells x y p q)).1);
        at_least = λ x y p q. record { le = every_entry_at r is_high u.6 x y p q };
      }
    where
      order : (j : ℕ) → 1 ≤ j → j ≤ s.dots → T (in_map (j - 1) && is_next (j - 1))
          → (get_or s.order (j - 1) 0 < cell_count r) × (get_or s.serials (get_or s.order (j - 1) 0) 0 ≡ j)
      order j h k v =
          let w = T_and (in_map (j - 1)) (is_next (j - 1)) v in (
            ltb→lt (get_or s.order (j - 1) 0) (cell_count r) w.0,
            eqb→eq
                (get_or s.serials (get_or s.order (j - 1) 0) 0) (suc (j - 1)) w.1 ∙ omega arith,
          )

      free : (i : ℕ) → s.dots ≤ i → T (ltb i s.dots) ⊎ T (eqb (get_or s.order i 0) 0) → get_or s.order i 0 ≡ 0
      free i h (inl v) = absurd (omega (arith, ltb→lt i s.dots v))
      free i h (inr v) = eqb→eq (get_or s.order i 0) 0 v

      spent : (x y : ℕ) → burnt_at r s.serials x y ≡ 1
          → T (eqb (burnt_at r s.serials x y) 0) ⊎ T (le_z (entry s.pyramid r x y) (pos 0))
          → entry s.pyramid r x y ≤ℤ pos 0
      spent x y e (inl v) = absurd (omega (arith, eqb→eq (burnt_at r s.serials x y) 0 v))
      spent x y e (inr v) = record { le = v }

  pub sound_test : Sound r s → T (is_sound r s)
  unfolding is_sound few_dots numbered counted unused summed bounded owing
  sound_test h =
      seven_all (few_dots r s.dots) (numbered r s.serials s.order s.dots) (counted r s.serials s.dots)
      (unused r s.order s.dots) (summed r s.pyramid) (bounded r s.pyramid s.serials)
      (owing r s.pyramid s.serials)
      (le→leb s.dots (cell_count r) h.few_dots_lem)
      (all_to_all s.dots (λ i. in_map i && is_next i)
      (λ i k. order i (h.in_order (suc i) (omega arith) (omega arith))))
      (eq→eqb (sum_to (cell_count r) (λ i. burnt (get_or s.serials i 0))) s.dots h.count)
      (all_to_all (cell_count r) is_free
      (λ i k. or_T (ltb i s.dots) (eqb (get_or s.order i 0) 0) (free i k (dec_lt i s.dots))))
      (all_to_all r (λ k. every_entry k (is_sum k))
      (λ k l. every_entry_all k (is_sum k)
      (λ a b p q. eq_eq_z (entry s.pyramid k a b) (four (entry s.pyramid (suc k)) a b) (h.sums k a b l p q))))
      (every_entry_all r (λ x y. is_low x y && is_spent x y) (λ x y p q.
      and_T (is_low x y) (is_spent x y) (h.at_most x y p q).le
      (or_T (eqb (burnt_at r s.serials x y) 0) (le_z (entry s.pyramid r x y) (pos 0))
      (spent x y p q (ℕ_discrete (burnt_at r s.serials x y) 0)))))
      (every_entry_all r is_high (λ x y p q. (h.at_least x y p q).le))
    where
      order : (i : ℕ)
          → (get_or s.order (suc i - 1) 0 < cell_count r)
          × (get_or s.serials (get_or s.order (suc i - 1) 0) 0 ≡ suc i)
          → T (in_map i && is_next i)
      order i v =
          let z : suc i - 1 ≡ i = omega arith in
          let w = rw z at v in
          and_T (in_map i) (is_next i) (lt→ltb (get_or s.order i 0) (cell_count r) w.0)
          (eq→eqb (get_or s.serials (get_or s.order i 0) 0) (suc i) w.1)

      free : (i : ℕ) → i < cell_count r → Dec (i < s.dots) → T (ltb i s.dots) ⊎ T (eqb (get_or s.order i 0) 0)
      free i k (yes d) = inl (lt→ltb i s.dots d)
      free i k (no d) = inr (eq→eqb (get_or s.order i 0) 0 (h.unused_zero i (omega arith) k))

      spent : (x y : ℕ) → x < 2 ^ r → y < 2 ^ r → Dec (burnt_at r s.serials x y ≡ 0)
          → T (eqb (burnt_at r s.serials x y) 0) ⊎ T (le_z (entry s.pyramid r x y) (pos 0))
      spent x y p q (yes z) = inl (eq→eqb (burnt_at r s.serials x y) 0 z)
      spent x y p q (no z) = inr (h.burnt_at_most x y p q (omega (arith, burnt_at_le r s.serials x y))).le

  -- the test is the conditions (S 4.1, S 4.2, S 4.3, S 4.4, S 4.5, S 4.6, S 4.7)
  pub sound_iff : T (is_sound r s) ↔ Sound r s
  sound_iff = (test_sound, sound_test)
