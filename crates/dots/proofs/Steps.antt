-- The model's steps on any sound sheet: it stays sound (`steps_sheet`); a step makes a dot just if one is due, and the
-- top then falls by one dot's worth (`due_is`, `next_top`); so n steps make the smaller of n and the dots due
-- (`steps_made`; `StepsMin` goes on).
use Rattle.std.specs.Prelude.{◌≡◌, refl, Bool, true, false, cond, List, ℤ, pos, nat_abs, ◌-ℤ◌, ◌≤ℤ◌, ◌<ℤ◌}
use Rattle.std.proofs.Math.Path.{sym}
use Rattle.std.proofs.Common.{ap, ap₂, ◌∙◌, add-zero, add-suc, zero-mul}
use Prim.Native.Nat.{ℕ, zero, suc, ◌+◌, ◌/◌, ◌^◌, ◌≤◌, ◌<◌, min}
use native.Mathlib.Omega.{arith}
use Rattle.std.specs.Int.Signed.{le_z, lt_z}
use Rattle.definition.specs.Pyramid.{one_dot, half_dot, start, place_in, entry}
use Rattle.definition.specs.Descent.{Choice, choice_of, descend}
use Rattle.definition.specs.Diffusion.{Kernel}
use Rattle.definition.specs.Model.{Halftone, top_of, place_dot, step, steps}
use Rattle.definition.specs.Sound.{Sound}
use Rattle.definition.specs.Renewal.{is_near}
use Rattle.definition.specs.Advance.{dots_due}
use Rattle.integers.specs.Linear.{ints, up, up_or_dn, nat_abs_is}
use Rattle.quadtree.specs.Areas.{area}
use Rattle.quadtree.specs.Residues.{area_z, area_z_ext, area_z_fall}
use Rattle.quadtree.specs.Pyramids.{Summed, entry_area}
use Rattle.quadtree.specs.Guidance.{Fair, choice_fair, Reached, descend_reached}
use Rattle.shares.specs.Kernels.{Fit}
use Rattle.shares.proofs.Outflow.{fall_whole}
use Rattle.dots.specs.Placing.{Sized}
use Rattle.dots.proofs.Kept.{
  sound_summed,
  owed,
  owed_most,
  took,
  after_sized,
  after_sound,
  after_falls,
  after_away,
  after_dots,
}

-- a sound sheet in buffers of just the needed lengths
pub record Sheet (r : ℕ) (s : Halftone) : Type 0 where
  pub sized : Sized r s
  pub sound : Sound r s

-- ---- the top and the dots due
pub top_entry : (pyramid : List ℤ) → top_of pyramid ≡ entry pyramid 0 0 0
unfolding top_of entry start place_in
top_entry pyramid = refl

pub top_area : (r : ℕ) (pyramid : List ℤ) → Summed r pyramid → top_of pyramid ≡ area_z 0 0 (2 ^ r) (entry pyramid r)
top_area r pyramid h =
    top_entry pyramid ∙ simp zero-mul at (entry_area r pyramid h r 0 0 0 (omega arith) (omega arith) (omega arith))

-- a dot at a cell that owes something takes one dot's worth from the top
pub dot_top : (kernel : Kernel) (fit : Fit kernel) (r : ℕ) (big : 2 ≤ 2 ^ r) (s : Halftone) → Sheet r s
    → (row column : ℕ) → row < 2 ^ r → column < 2 ^ r → pos 0 <ℤ entry s.pyramid r row column
    → top_of (place_dot kernel r s (row, column)).pyramid ≡ top_of s.pyramid -ℤ pos one_dot
dot_top kernel fit r big s sheet row column i j due =
    let size = sheet.sized in
    let sound = sheet.sound in
    let took' = took kernel fit r big s size sound row column i j due in
    let after = (place_dot kernel r s (row, column)).pyramid in
    top_area r after (sound_summed (after_sound kernel fit r big s size sound row column i j due))
    ∙ area_z_ext 0 0 (2 ^ r) (entry after r) (λ x y. entry s.pyramid r x y -ℤ pos (took' x y))
    (λ x y p q. after_falls kernel fit r big s size sound row column i j due x y (omega arith) (omega arith))
    ∙ area_z_fall 0 0 (2 ^ r) (entry s.pyramid r) took'
    ∙ ap₂ (λ (z : ℤ) (n : ℕ). z -ℤ pos n) (sym (top_area r s.pyramid (sound_summed sound)))
    (fall_whole kernel r row column fit big i j (owed kernel fit r big s size sound row column i j due)
    (owed_most kernel fit r big s size sound row column i j due))

-- the dots due, without the test (S 3.1)
pub due_is : (t : ℤ) → dots_due t ≡ (up t + half_dot) / one_dot
unfolding dots_due
due_is t = go (lt_z t (pos half_dot)) refl
  where
    go : (b : Bool) → lt_z t (pos half_dot) ≡ b → cond b 0 ((nat_abs t + half_dot) / one_dot)
        ≡ (up t + half_dot) / one_dot
    go true e = omega (ints, up_or_dn t)
    go false e = let z : nat_abs t ≡ up t = omega (ints, nat_abs_is t, up_or_dn t) in rw z

-- one dot's worth less is one dot less due
due_less : (t t' : ℤ) → t' ≡ t -ℤ pos one_dot → pos half_dot ≤ℤ t → suc (dots_due t') ≡ dots_due t
due_less t t' e h = omega (ints, due_is t, due_is t', up_or_dn t, up_or_dn t')

-- ---- one step: a dot at the cell that the walk comes to, or nothing
module _ (kernel : Kernel) (r : ℕ) (s : Halftone) where
  -- the choice of the next serial, and the cell that it leads to
  abbrev pub turn : Choice
  turn = choice_of (suc s.dots)

  abbrev pub target : ℕ × ℕ
  target = descend turn s.pyramid r 0 0 0

  pub step_made : le_z (pos half_dot) (top_of s.pyramid) ≡ true → step kernel r s ≡ place_dot kernel r s target
  unfolding step
  step_made e = rw (e, step)

  -- where none is due a step changes nothing (S 3.9)
  pub step_idle : le_z (pos half_dot) (top_of s.pyramid) ≡ false → step kernel r s ≡ s
  unfolding step
  step_idle e = rw (e, step)

module _ (kernel : Kernel) (fit : Fit kernel) (r : ℕ) (big : 2 ≤ 2 ^ r) where
  -- a dot that is due, on a sound sheet
  module _ (s : Halftone) (sheet : Sheet r s) (due : pos half_dot ≤ℤ top_of s.pyramid) where
    abbrev fair : Fair (turn kernel r s)
    fair = choice_fair (suc s.dots)

    pub reached : Reached (turn kernel r s) fair s.pyramid r r 0 0 0 (target kernel r s).0 (target kernel r s).1
    reached =
        descend_reached (turn kernel r s) fair s.pyramid r (sound_summed sheet.sound) r 0 0 0
        (omega arith) (omega arith) (omega arith)
        (rw (← top_entry s.pyramid) (omega ints))

    pub row_in : (target kernel r s).0 < 2 ^ r
    row_in = omega (arith, reached.row, zero-mul (2 ^ r))

    pub column_in_lem : (target kernel r s).1 < 2 ^ r
    column_in_lem = omega (arith, reached.column, zero-mul (2 ^ r))

    pub owes : pos 0 <ℤ entry s.pyramid r (target kernel r s).0 (target kernel r s).1
    owes =
        reached.due 0 r (target kernel r s).0 (target kernel r s).1 (omega arith) (omega arith) (omega arith)
        (omega arith)

    abbrev pub next : Halftone
    next = place_dot kernel r s (target kernel r s)

    pub next_sheet : Sheet r next
    next_sheet =
        record {
          sized =
              after_sized kernel fit r big s sheet.sized sheet.sound (target kernel r s).0 (target kernel r s).1
              row_in column_in_lem owes;
          sound =
              after_sound kernel fit r big s sheet.sized sheet.sound (target kernel r s).0 (target kernel r s).1
              row_in column_in_lem owes;
        }

    -- what the dot took, over a square of the map and over all of it
    abbrev pub taken : ℕ → ℕ → ℕ
    taken =
        took kernel fit r big s sheet.sized sheet.sound (target kernel r s).0 (target kernel r s).1 row_in
        column_in_lem owes

    pub next_area : (p q n : ℕ) → p + n ≤ 2 ^ r → q + n ≤ 2 ^ r
        → area_z p q n (entry next.pyramid r) ≡ area_z p q n (entry s.pyramid r) -ℤ pos (area p q n taken)
    next_area p q n low wide =
        area_z_ext p q n (entry next.pyramid r) (λ x y. entry s.pyramid r x y -ℤ pos (taken x y))
        (λ x y i j. after_falls kernel fit r big s sheet.sized sheet.sound (target kernel r s).0
        (target kernel r s).1 row_in column_in_lem owes x y (omega arith) (omega arith))
        ∙ area_z_fall p q n (entry s.pyramid r) taken

    pub next_away : (x y : ℕ) → x < 2 ^ r → y < 2 ^ r → is_near (target kernel r s).0 (target kernel r s).1 x y ≡ false
        → entry next.pyramid r x y ≡ entry s.pyramid r x y
    next_away =
        after_away kernel fit r big s sheet.sized sheet.sound (target kernel r s).0 (target kernel r s).1 row_in
        column_in_lem owes

    -- each dot takes just 65,280 from the map (S 3.7)
    pub next_top : top_of next.pyramid ≡ top_of s.pyramid -ℤ pos one_dot
    next_top = dot_top kernel fit r big s sheet (target kernel r s).0 (target kernel r s).1 row_in column_in_lem owes

    pub next_dots : next.dots ≡ suc s.dots
    next_dots =
        after_dots kernel fit r big s sheet.sized sheet.sound (target kernel r s).0 (target kernel r s).1 row_in
        column_in_lem owes

  -- A property of sound sheets that every due dot keeps is kept by steps.
  pub step_keeps : (P : Halftone → Type 0)
      → ((s : Halftone) → Sheet r s → pos half_dot ≤ℤ top_of s.pyramid → P s
      → P (place_dot kernel r s (target kernel r s)))
      → (s : Halftone) → Sheet r s → P s → P (step kernel r s)
  step_keeps P keep s sheet h = go (le_z (pos half_dot) (top_of s.pyramid)) refl
    where
      go : (b : Bool) → le_z (pos half_dot) (top_of s.pyramid) ≡ b → P (step kernel r s)
      go true e = rw (step_made kernel r s e) (keep s sheet (omega ints) h)
      go false e = rw (step_idle kernel r s e) h

  step_sheet : (s : Halftone) → Sheet r s → Sheet r (step kernel r s)
  step_sheet s sheet = step_keeps (Sheet r) (λ s sheet due h. next_sheet s sheet due) s sheet sheet

  pub steps_sheet : (n : ℕ) (s : Halftone) → Sheet r s → Sheet r (steps kernel r n s)
  unfolding steps
  steps_sheet zero s sheet = sheet
  steps_sheet (suc n) s sheet = step_sheet (steps kernel r n s) (steps_sheet n s sheet)

  pub steps_keep : (P : Halftone → Type 0)
      → ((s : Halftone) → Sheet r s → pos half_dot ≤ℤ top_of s.pyramid → P s
      → P (place_dot kernel r s (target kernel r s)))
      → (n : ℕ) (s : Halftone) → Sheet r s → P s → P (steps kernel r n s)
  unfolding steps
  steps_keep P keep zero s sheet h = h
  steps_keep P keep (suc n) s sheet h =
      step_keeps P keep (steps kernel r n s) (steps_sheet n s sheet) (steps_keep P keep n s sheet h)

  -- ---- counting
  -- a step makes a dot exactly if one is due
  step_count : (s : Halftone) → Sheet r s → (step kernel r s).dots ≡ s.dots + min 1 (dots_due (top_of s.pyramid))
  step_count s sheet = go (le_z (pos half_dot) (top_of s.pyramid)) refl
    where
      go : (b : Bool) → le_z (pos half_dot) (top_of s.pyramid) ≡ b
          → (step kernel r s).dots ≡ s.dots + min 1 (dots_due (top_of s.pyramid))
      go true e =
          rw (step_made kernel r s e)
          (omega (ints, next_dots s sheet (omega ints), due_is (top_of s.pyramid), up_or_dn (top_of s.pyramid)))
      go false e =
          rw (step_idle kernel r s e) (omega (ints, due_is (top_of s.pyramid), up_or_dn (top_of s.pyramid)))

  -- the dots made and the dots due are as many as before
  pub steps_due : (n : ℕ) (s : Halftone) → Sheet r s
      → (steps kernel r n s).dots + dots_due (top_of (steps kernel r n s).pyramid) ≡ s.dots
      + dots_due (top_of s.pyramid)
  steps_due n s sheet =
      steps_keep (λ t. t.dots + dots_due (top_of t.pyramid) ≡ s.dots + dots_due (top_of s.pyramid))
      (λ t sheet due h. omega (
        arith,
        next_dots t sheet due,
        due_less (top_of t.pyramid) (top_of (next t sheet due).pyramid)
            (next_top t sheet due) due,
      )) n s sheet refl

  -- n steps make the smaller of n and the dots due (S 3.1, S 7.3)
  pub steps_made : (n : ℕ) (s : Halftone) → Sheet r s
      → (steps kernel r n s).dots ≡ s.dots + min n (dots_due (top_of s.pyramid))
  unfolding steps
  steps_made zero s sheet = omega arith
  steps_made (suc n) s sheet =
      omega (arith, steps_made n s sheet, steps_due n s sheet, step_count (steps kernel r n s) (steps_sheet n s sheet))

pub steps_add : (kernel : Kernel) (r m n : ℕ) (s : Halftone)
    → steps kernel r n (steps kernel r m s) ≡ steps kernel r (m + n) s
unfolding steps
steps_add kernel r m zero s = ap (λ (k : ℕ). steps kernel r k s) (sym (add-zero m))
steps_add kernel r m (suc n) s = rw add-suc (ap (step kernel r) (steps_add kernel r m n s))
