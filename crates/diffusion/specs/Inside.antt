-- A cell inside the map (`right_decides`): all nine places around it lie on the map, so that no weight is cut off
-- (`weight_inside`), the weights' sum is known, and each neighbour's place is its row's part and its column's, added
-- (`inside_turn`).
use Rattle.std.specs.Prelude.{◌≡◌, refl, Bool, true, false, List, ltb, length, get_or, set, ℤ, pos, ◌-ℤ◌}
use Rattle.std.proofs.Math.Path.{sym, ap₂}
use Rattle.std.proofs.Common.{ap, ◌∙◌, ◌⊎◌, inl, inr, arith, add-zero, Fits}
use Prim.Native.Nat.{ℕ, zero, suc, ◌+◌, ◌*◌, ◌-◌, ◌/◌, ◌%◌, ◌^◌, ◌≤◌, ◌<◌, min}
use Rattle.std.proofs.Math.Decide.{ℕ_discrete}
use borrow.Author.Tests.{lt-ltb, le-ltb}
use Rattle.std.proofs.lemmas.List.{set-get_or}
use Rattle.std.specs.Int.{w64}
use Rattle.definition.specs.Lists.{sum_to}
use Rattle.definition.specs.Quarters.{interleaved}
use Rattle.definition.specs.Diffusion.{weights_of, places_in_turn, kernel_of, weight_at, diffuse}
use Rattle.integers.specs.Linear.{zz, ints}
use Rattle.integers.specs.Sums.{sum_to_ext<}
use Rattle.integers.specs.Tests.{T_true, T_four, and_false, same_test, tests}
use Rattle.layouts.specs.Interleaved.{interleaved_lt}
use Rattle.layouts.specs.Cells.{rows_level}
use Rattle.places.specs.declared.Parts.{Parts}
use Rattle.places.specs.Parts.{parts_around, place_parts}
use Rattle.diffusion.specs.OneTurn.{is_inside, one_of_three, share_taken, ShareAsked, TakeAsked, InsideAsked}
use Rattle.diffusion.specs.Weights.{turn_nine, weight_on}
use Rattle.diffusion.specs.Shares.{taken_none, taken_some, near_asked, near_stored}
use Rattle.diffusion.specs.Turns.{Turns, turn_asked, turn}

-- ---- whether a cell is inside, as the code finds it

module _ (r row column : ℕ) where
  pub none_there : {side : ℕ} {t : Bool} → side ≡ 2 ^ r → t ≡ false
      → (0 < row × 0 < column × side - 1 ≤ row) ⊎ ((0 < row × column ≤ 0) ⊎ (row ≤ 0)) → t ≡ is_inside r row column
  unfolding is_inside
  none_there e f (inl h) = f ∙ simp (le-ltb (row + 1) (2 ^ r) (omega arith), and_false)
  none_there e f (inr (inl h)) = f ∙ rw (le-ltb 0 column (omega arith), and_false (ltb 0 row))
  none_there e f (inr (inr h)) = f ∙ rw (le-ltb 0 row (omega arith))

  pub right_decides : {side : ℕ} → side ≡ 2 ^ r → 0 < row × 0 < column × row < side - 1
      → ltb column (side - 1) ≡ is_inside r row column
  unfolding is_inside
  right_decides {side} e h =
      rw (lt-ltb 0 row (omega arith), lt-ltb 0 column (omega arith), lt-ltb (row + 1) (2 ^ r) (omega arith))
      (same_test (ltb column (side - 1)) (ltb (column + 1) (2 ^ r)) (λ t. omega tests) (λ t. omega tests))

-- ---- what that says
module _ (r row column : ℕ) (i : is_inside r row column ≡ true) where
  all_near : (1 ≤ row) × (1 ≤ column) × (row + 1 < 2 ^ r) × (column + 1 < 2 ^ r)
  unfolding is_inside
  all_near =
      let t = T_four (ltb 0 row) (ltb 0 column) (ltb (row + 1) (2 ^ r)) (ltb (column + 1) (2 ^ r)) (T_true _ i) in
      (omega tests, omega tests, omega tests, omega tests)

  -- no weight is cut off
  pub weight_inside : (knit n : ℕ) {q w : ℕ} → n < 9 → q ≡ get_or places_in_turn n 4 → w ≡ get_or (weights_of knit) q 0
      → w ≡ weight_at (kernel_of knit) r row column n
  weight_inside knit n lt t ew =
      let a = all_near in
      let k = turn_nine n lt t in
      weight_on knit r row column n t {side = 2 ^ r} refl (λ z. omega arith) (omega arith) (λ z. omega arith)
      (omega arith) ew

  sum_inside : (knit : ℕ)
      → sum_to 9 (weight_at (kernel_of knit) r row column)
      ≡ sum_to 9 (λ n. get_or (weights_of knit) (get_or places_in_turn n 4) 0)
  sum_inside knit = sum_to_ext< 9 _ _ (λ n lt. sym (weight_inside knit n lt refl refl))

  pub sum_plain : 12 ≡ sum_to 9 (weight_at (kernel_of 0) r row column)
  unfolding sum_to weights_of places_in_turn
  sum_plain = sym (sum_inside 0)

  pub sum_ribbed : 4 ≡ sum_to 9 (weight_at (kernel_of 1) r row column)
  unfolding sum_to weights_of places_in_turn
  sum_ribbed = sym (sum_inside 1)

-- ---- one of three, as the code picks it
module _ (x a b c : ℕ) where
  pub three_first : x ≡ 0 → a ≡ one_of_three x a b c
  unfolding one_of_three
  three_first e = rw e

  pub three_second : x ≡ 1 → b ≡ one_of_three x a b c
  unfolding one_of_three
  three_second e = rw e

pub three_third : (x a b c : ℕ) → (x ≡ 0 → ⊥) → (x ≡ 1 → ⊥) → c ≡ one_of_three x a b c
unfolding one_of_three
three_third zero a b c f g = absurd (f refl)
three_third (suc zero) a b c f g = absurd (g refl)
three_third (suc (suc n)) a b c f g = refl

-- the parts of three rows or columns of which none is beyond the map
three_there : (part : ℕ → ℕ) (side here x : ℕ) → 1 ≤ here → here + 1 < side → x < 3
    → one_of_three x (part (here - 1)) (part here) (part (min (here + 1) (side - 1))) ≡ part (here + x - 1)
unfolding one_of_three
three_there part side here zero a b h = ap part (omega arith)
three_there part side here (suc zero) a b h = ap part (omega arith)
three_there part side here (suc (suc n)) a b h = ap part (omega arith)

-- ---- the knits: the weights of any but plain cloth are those of ribbed
ribbed_any : (knit : ℕ) → (knit ≡ 0 → ⊥) → kernel_of 1 ≡ kernel_of knit
unfolding kernel_of weights_of
ribbed_any zero ne = absurd (ne refl)
ribbed_any (suc n) ne = refl

module _ (knit r row column d : ℕ) (cells : List ℤ) {next : List ℤ} where
  pub as_ribbed : (knit ≡ 0 → ⊥) → next ≡ diffuse (kernel_of 1) r row column d 9 cells
      → next ≡ diffuse (kernel_of knit) r row column d 9 cells
  as_ribbed ne q = rw (← ribbed_any knit ne) q

-- nothing taken off an entry leaves the list as it is
nothing_off : (l : List ℤ) (i : ℕ) → set l i (get_or l i (pos 0) -ℤ pos 0) ≡ l
nothing_off l i =
    let z : get_or l i (pos 0) -ℤ pos 0 ≡ get_or l i (pos 0) = simp zz (omega ints) in rw z (set-get_or l i (pos 0))

-- ---- a turn of the spread around a cell inside the map
module _ (cells : List ℤ) (p : Parts) (knit r row column d : ℕ) (h : InsideAsked cells p r row column d) (all : ℕ)
    (part : List ℤ) (sum given n : ℕ) (t : Turns cells knit r row column d all part sum given n) (lt : n < 9)
    (q : ℕ) (eq : q ≡ get_or places_in_turn n 4) (w : ℕ) (ew : w ≡ get_or (weights_of knit) q 0) (until : ℕ)
    (eu : until ≡ d * (sum + w) / all) (x : ℕ)
    (ex : x ≡ one_of_three (q / 3) p.above p.row p.below) (y : ℕ)
    (ey : y ≡ one_of_three (q % 3) p.left p.column p.right) where
  nine : q < 9
  nine = turn_nine n lt eq

  weighs : w ≡ weight_at (kernel_of knit) r row column n
  weighs = weight_inside r row column h.inside knit n lt eq ew

  there : x + y ≡ interleaved 8 (row + q / 3 - 1) (column + q % 3 - 1)
  unfolding parts_around
  there =
      let k = nine in
      let a = all_near r row column h.inside in
      ap₂ ◌+◌
      (ex ∙ rw h.parts (three_there (λ n. interleaved 8 n 0) (2 ^ r) row (q / 3) a.0 a.2 (omega arith)))
      (ey ∙ rw h.parts (three_there (interleaved 8 0) (2 ^ r) column (q % 3) a.1 a.3 (omega arith)))
      ∙ sym (place_parts 8 (row + q / 3 - 1) (column + q % 3 - 1))

  near_row : row + q / 3 - 1 < 2 ^ r
  near_row = let k = nine in omega (arith, all_near r row column h.inside)

  near_column : column + q % 3 - 1 < 2 ^ r
  near_column = omega (arith, all_near r row column h.inside)

  share_asked : ShareAsked part r row column q w (until - given)
  share_asked = turn_asked cells knit r row column d h.asked all part sum given n t lt w weighs until eu q eq

  pub inside_fits : Fits w64 (x + y)
  inside_fits = record { fits = omega (arith, there, interleaved_lt 8 (row + q / 3 - 1) (column + q % 3 - 1)) }

  pub inside_asked : TakeAsked part (x + y) (until - given)
  inside_asked = near_asked share_asked _ _ (x + y) there near_row near_column

  -- a place of weight 0 gives nothing
  no_share : w ≡ 0 → until - given ≡ 0
  no_share z = rw (t.gave, eu, z, add-zero sum) (omega arith)

  unchanged : w ≡ 0 → set part (x + y) (get_or part (x + y) (pos 0) -ℤ pos (until - given)) ≡ part
  unchanged z = rw (no_share z) (nothing_off part (x + y))

  taken : rows_level r (set part (x + y) (get_or part (x + y) (pos 0) -ℤ pos (until - given)))
      ≡ share_taken r row column q w (until - given) (rows_level r part)
  taken = go (ℕ_discrete w 0)
    where
      go : Dec (w ≡ 0)
          → rows_level r (set part (x + y) (get_or part (x + y) (pos 0) -ℤ pos (until - given)))
          ≡ share_taken r row column q w (until - given) (rows_level r part)
      go (yes z) = ap (rows_level r) (unchanged z) ∙ taken_none r row column q w (until - given) (rows_level r part) z
      go (no ne) =
          near_stored share_asked _ _ (x + y) there near_row near_column
          ∙ taken_some r row column q w (until - given) (rows_level r part) ne

  pub inside_turn : (next : List ℤ) → all ≡ sum_to 9 (weight_at (kernel_of knit) r row column)
      → next ≡ set part (x + y) (get_or part (x + y) (pos 0) -ℤ pos (until - given))
      → length next ≡ length part → Turns cells knit r row column d all next (sum + w) until (n + 1)
  inside_turn next ea e k =
      turn cells knit r row column d h.asked all part sum given n t lt w weighs until eu q eq next ea
      (ap (rows_level r) e ∙ taken) k
