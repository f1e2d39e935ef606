-- One macroblock worked: it reads its own 64 cells only (`wanted_same`, `burns_same`), a cell that it burns is one of
-- them and owes something (`cell_has`, `cell_owes`), no other cell changes (`work_away`, `work_unburnt`), and the sheet
-- stays sound (`work_sheet`). Two macroblocks that share no cell can be worked in either order (`work_swap`).
use Rattle.std.specs.Prelude.{◌≡◌, refl, ◌⊎◌, Bool, true, false, not, ◌&&◌, List, T, leb, ℤ, pos, ◌-ℤ◌, ◌<ℤ◌}
use Rattle.std.proofs.Math.Path.{sym, ap, ap₂}
use Rattle.std.proofs.Common.{◌∙◌, inl, inr, add-zero, pow-add, pow_mono}
use Prim.Native.Nat.{ℕ, suc, ◌+◌, ◌*◌, ◌-◌, ◌^◌, ◌≤◌, ◌<◌}
use native.Mathlib.Omega.{arith}
use Rattle.std.proofs.Math.Dec.{leb→le}
use Rattle.std.specs.Int.Signed.{le_z}
use Rattle.definition.specs.Pyramid.{half_dot, entry}
use Rattle.definition.specs.Blocks.{burnt_at}
use Rattle.definition.specs.Descent.{Candidate, first_of_equals, largest, descend}
use Rattle.definition.specs.Diffusion.{Kernel}
use Rattle.definition.specs.Model.{Halftone, place_dot}
use Rattle.definition.specs.Renewal.{is_near}
use Rattle.heads.specs.TwoHeads.{Macroblock, block_sums, macroblock_sum, wanted, clear, burns, work}
use Rattle.integers.specs.Linear.{zz, ints, up}
use Rattle.integers.specs.Tests.{T_true, false_T, T_and, T_four, T_or_not}
use Rattle.quadtree.specs.Points.{δ, hit}
use Rattle.quadtree.specs.Pyramids.{Summed}
use Rattle.quadtree.specs.Guidance.{first_fair, Quarter, largest_quarter, largest_due, Reached, descend_reached}
use Rattle.shares.specs.Kernels.{Fit}
use Rattle.shares.specs.Neighbours.{fall}
use Rattle.dots.proofs.Kept.{sound_summed, after_sized, after_sound, after_falls, after_away, after_burnt, after_dots}
use Rattle.dots.proofs.Steps.{Sheet}
use Rattle.head_order.specs.Promise.{Has, Fits, Apart}
use Rattle.head_order.proofs.Rim.{near_in}
use Rattle.head_order.proofs.Local.{pyramid_same, largest_same, four_same, entry_same, descend_same}

-- ---- the cells of a macroblock
pub apart_sym : (m n : Macroblock) → Apart m n → Apart n m
apart_sym m n h = record { none = λ x y k l. h.none x y l k }

-- ---- the block taken
-- the one with the largest of its four sums, by row and column, each 0 or 1
abbrev pub best : ℕ → List ℤ → Macroblock → Candidate
best r p m = largest first_of_equals (block_sums r p m) 0 0

pub best_quarter : (r : ℕ) (p : List ℤ) (m : Macroblock)
    → Quarter first_of_equals first_fair (block_sums r p m) 0 0 (best r p m)
best_quarter r p m = largest_quarter first_of_equals first_fair (block_sums r p m) 0 0

pub best_row : (r : ℕ) (p : List ℤ) (m : Macroblock) → (best r p m).row < 2
best_row r p m = (best_quarter r p m).row_high

pub best_column : (r : ℕ) (p : List ℤ) (m : Macroblock) → (best r p m).column < 2
best_column r p m = (best_quarter r p m).column_high

module _ (r : ℕ) (four≤ : 4 ≤ r) where
  levels : 2 + (r - 2) ≡ r
  levels = omega arith

  quads : 2 ^ r ≡ 4 * 2 ^ (r - 2)
  quads = ap (λ (n : ℕ). 2 ^ n) (sym levels) ∙ pow-add 2 2 (r - 2)

  pub big : 2 ≤ 2 ^ r
  big = pow_mono {i = 1} {j = r} (omega arith)

  -- the cells of a macroblock that fits are on the map
  module _ (m : Macroblock) (fits : Fits r m) (x y : ℕ) (has : Has m x y) where
    pub has_row : x < 2 ^ r
    has_row = omega (arith, has.row, fits.row, quads)

    pub has_column : y < 2 ^ r
    has_column = omega (arith, has.column, fits.column, quads)

  -- ---- a macroblock's choice reads its own cells only
  module _ (p q : List ℤ) (s : Summed r p) (t : Summed r q) (m : Macroblock) (fits : Fits r m)
      (agree : (x y : ℕ) → Has m x y → entry p r x y ≡ entry q r x y) where
    block_same : (i j : ℕ) → i < 2 → j < 2 → block_sums r p m i j ≡ block_sums r q m i j
    unfolding block_sums
    block_same i j h k =
        entry_same first_of_equals first_fair r p q s t 2 (r - 2) (m.0 + i) (m.1 + j) levels
        (omega (arith, fits.row)) (omega (arith, fits.column))
        (λ x y u v. agree x y (record { row = omega arith; column = omega arith }))

    best_same : best r p m ≡ best r q m
    best_same = largest_same first_of_equals _ _ 0 0 (λ x y h i j k. block_same x y (omega arith) (omega arith))

    sum_same : macroblock_sum r p m ≡ macroblock_sum r q m
    unfolding macroblock_sum
    sum_same = four_same _ _ 0 0 (λ x y h i j k. block_same x y (omega arith) (omega arith))

    pub wanted_same : wanted r p m ≡ wanted r q m
    unfolding wanted
    wanted_same =
        let row = best_row r p m in
        let column = best_column r p m in
        descend_same first_of_equals first_fair r p q s t 2 (r - 2) (m.0 + (best r p m).row) (m.1 + (best r p m).column)
        levels (omega (arith, row, fits.row)) (omega (arith, column, fits.column))
        (λ x y u v. agree x y (record { row = omega (arith, row); column = omega (arith, column) }))
        ∙ ap (λ (b : Candidate). descend first_of_equals q 2 (r - 2) (m.0 + b.row) (m.1 + b.column)) best_same

    pub burns_same : burns r p m ≡ burns r q m
    unfolding burns
    burns_same =
        ap₂ (λ (z : ℤ) (c : ℕ × ℕ). le_z (pos half_dot) z && clear r m.0 c.0 && clear r m.1 c.1)
        sum_same wanted_same

-- ---- worked or not
pub work_made : (kernel : Kernel) (r : ℕ) (s : Halftone) (m : Macroblock) → burns r s.pyramid m ≡ true
    → work kernel r s m ≡ place_dot kernel r s (wanted r s.pyramid m)
unfolding work
work_made kernel r s m e = rw (e, work)

pub work_idle : (kernel : Kernel) (r : ℕ) (s : Halftone) (m : Macroblock) → burns r s.pyramid m ≡ false
    → work kernel r s m ≡ s
unfolding work
work_idle kernel r s m e = rw (e, work)

-- what burning asks for: half a dot, and a cell that lies clear
pub record Burning (r : ℕ) (p : List ℤ) (m : Macroblock) : Type 0 where
  pub due : T (le_z (pos half_dot) (macroblock_sum r p m))
  pub row_clear : T (clear r m.0 (wanted r p m).0)
  pub column_clear : T (clear r m.1 (wanted r p m).1)

pub burns_is : (r : ℕ) (p : List ℤ) (m : Macroblock) → burns r p m ≡ true → Burning r p m
unfolding burns
burns_is r p m e =
    let a = le_z (pos half_dot) (macroblock_sum r p m) in
    let b = clear r m.0 (wanted r p m).0 in
    let c = clear r m.1 (wanted r p m).1 in
    let u = T_and (a && b) c (T_true (burns r p m) e) in
    let v = T_and a b u.0 in
    record { due = v.0; row_clear = v.1; column_clear = u.1 }

module _ (kernel : Kernel) (fit : Fit kernel) (r : ℕ) (four≤ : 4 ≤ r) where
  -- ---- a macroblock that burns
  module _ (s : Halftone) (sheet : Sheet r s) (m : Macroblock) (fits : Fits r m)
      (burning : burns r s.pyramid m ≡ true) where
    abbrev cell : ℕ × ℕ
    cell = wanted r s.pyramid m

    abbrev block_row : ℕ
    block_row = m.0 + (best r s.pyramid m).row

    abbrev block_column : ℕ
    block_column = m.1 + (best r s.pyramid m).column

    is_burning : Burning r s.pyramid m
    is_burning = burns_is r s.pyramid m burning

    best_owes : pos 0 <ℤ entry s.pyramid (r - 2) block_row block_column
    unfolding macroblock_sum block_sums
    best_owes =
        rw (best_quarter r s.pyramid m).sum_is at
        (largest_due first_of_equals first_fair (block_sums r s.pyramid m) 0 0 (let h = is_burning.due in omega ints))

    reached : Reached first_of_equals first_fair s.pyramid r 2 (r - 2) block_row block_column cell.0 cell.1
    unfolding wanted
    reached =
        descend_reached first_of_equals first_fair s.pyramid r (sound_summed sheet.sound) 2 (r - 2)
        block_row block_column (levels r four≤)
        (omega (arith, best_row r s.pyramid m, fits.row))
        (omega (arith, best_column r s.pyramid m, fits.column))
        best_owes

    pub cell_has : Has m cell.0 cell.1
    cell_has =
        record {
          row = omega (arith, reached.row, best_row r s.pyramid m);
          column = omega (arith, reached.column, best_column r s.pyramid m);
        }

    pub cell_row : cell.0 < 2 ^ r
    cell_row = has_row r four≤ m fits cell.0 cell.1 cell_has

    pub cell_column : cell.1 < 2 ^ r
    cell_column = has_column r four≤ m fits cell.0 cell.1 cell_has

    pub cell_owes : pos 0 <ℤ entry s.pyramid r cell.0 cell.1
    cell_owes =
        reached.due 0 r cell.0 cell.1 (omega arith) (omega arith) (omega arith) (omega arith)

    abbrev pub burned : Halftone
    burned = place_dot kernel r s cell

    pub burned_sheet : Sheet r burned
    burned_sheet =
        record {
          sized =
              after_sized kernel fit r (big r four≤) s sheet.sized sheet.sound cell.0 cell.1
              cell_row cell_column cell_owes;
          sound =
              after_sound kernel fit r (big r four≤) s sheet.sized sheet.sound cell.0 cell.1
              cell_row cell_column cell_owes;
        }

    -- what it takes from cell (x, y)
    abbrev pub lost : ℕ → ℕ → ℕ
    lost x y = fall kernel r cell.0 cell.1 (up (entry s.pyramid r cell.0 cell.1)) x y

    pub burned_falls : (x y : ℕ) → x < 2 ^ r → y < 2 ^ r
        → entry burned.pyramid r x y ≡ entry s.pyramid r x y -ℤ pos (lost x y)
    burned_falls =
        after_falls kernel fit r (big r four≤) s sheet.sized sheet.sound cell.0 cell.1
        cell_row cell_column cell_owes

    pub burned_burnt : (x y : ℕ) → x < 2 ^ r → y < 2 ^ r
        → burnt_at r burned.serials x y ≡ burnt_at r s.serials x y + δ cell.0 x * δ cell.1 y
    burned_burnt =
        after_burnt kernel fit r (big r four≤) s sheet.sized sheet.sound cell.0 cell.1
        cell_row cell_column cell_owes

    pub burned_dots : burned.dots ≡ suc s.dots
    burned_dots =
        after_dots kernel fit r (big r four≤) s sheet.sized sheet.sound cell.0 cell.1
        cell_row cell_column cell_owes

    -- what it spreads stays inside
    near_facts : (x y : ℕ) → T (is_near cell.0 cell.1 x y)
        → (cell.0 ≤ x + 1) × (x ≤ cell.0 + 1) × (cell.1 ≤ y + 1) × (y ≤ cell.1 + 1)
    unfolding is_near
    near_facts x y t =
        let c = cell.0 in
        let d = cell.1 in
        let u = T_four (leb c (x + 1)) (leb x (c + 1)) (leb d (y + 1)) (leb y (d + 1)) t in (
          leb→le c (x + 1) u.0,
          leb→le x (c + 1) u.1,
          leb→le d (y + 1) u.2,
          leb→le y (d + 1) u.3,
        )

    near_has : (x y : ℕ) → x < 2 ^ r → y < 2 ^ r → T (is_near cell.0 cell.1 x y) → Has m x y
    near_has x y p q t =
        let u = near_facts x y t in
        record {
          row = near_in r m.0 cell.0 x cell_has.row is_burning.row_clear p u.0 u.1;
          column = near_in r m.1 cell.1 y cell_has.column is_burning.column_clear q u.2 u.3;
        }

    pub burned_away : (x y : ℕ) → x < 2 ^ r → y < 2 ^ r → (Has m x y → ⊥)
        → entry burned.pyramid r x y ≡ entry s.pyramid r x y
    burned_away x y p q out =
        after_away kernel fit r (big r four≤) s sheet.sized sheet.sound cell.0 cell.1
        cell_row cell_column cell_owes x y p q (far (T_or_not (is_near cell.0 cell.1 x y)))
      where
        far : T (is_near cell.0 cell.1 x y) ⊎ T (not (is_near cell.0 cell.1 x y))
            → is_near cell.0 cell.1 x y ≡ false
        far (inl t) = absurd (out (near_has x y p q t))
        far (inr t) = false_T (is_near cell.0 cell.1 x y) t

    pub burned_unburnt : (x y : ℕ) → x < 2 ^ r → y < 2 ^ r → (Has m x y → ⊥)
        → burnt_at r burned.serials x y ≡ burnt_at r s.serials x y
    burned_unburnt x y p q out = go (hit cell.0 cell.1 x y)
      where
        go : ((cell.0 ≡ x) × (cell.1 ≡ y)) ⊎ (δ cell.0 x * δ cell.1 y ≡ 0)
            → burnt_at r burned.serials x y ≡ burnt_at r s.serials x y
        go (inl e) =
            absurd (out (record { row = omega (arith, cell_has.row); column = omega (arith, cell_has.column) }))
        go (inr z) = burned_burnt x y p q ∙ rw (z, add-zero)

  -- ---- one macroblock worked
  pub work_keeps : (P : Halftone → Type 0) (s : Halftone) (m : Macroblock) → P s
      → (burns r s.pyramid m ≡ true → P (place_dot kernel r s (wanted r s.pyramid m))) → P (work kernel r s m)
  work_keeps P s m h k = go (burns r s.pyramid m) refl
    where
      go : (b : Bool) → burns r s.pyramid m ≡ b → P (work kernel r s m)
      go true e = rw (work_made kernel r s m e) (k e)
      go false e = rw (work_idle kernel r s m e) h

  pub work_sheet : (s : Halftone) → Sheet r s → (m : Macroblock) → Fits r m → Sheet r (work kernel r s m)
  work_sheet s sheet m fits = work_keeps (Sheet r) s m sheet (λ b. burned_sheet s sheet m fits b)

  -- a cell of another macroblock, or of none, keeps its residual and its mark
  module _ (s : Halftone) (sheet : Sheet r s) (m : Macroblock) (fits : Fits r m) (x y : ℕ)
      (p : x < 2 ^ r) (q : y < 2 ^ r) (out : Has m x y → ⊥) where
    pub work_away : entry (work kernel r s m).pyramid r x y ≡ entry s.pyramid r x y
    work_away =
        work_keeps (λ t. entry t.pyramid r x y ≡ entry s.pyramid r x y) s m refl
        (λ b. burned_away s sheet m fits b x y p q out)

    pub work_unburnt : burnt_at r (work kernel r s m).serials x y ≡ burnt_at r s.serials x y
    work_unburnt =
        work_keeps (λ t. burnt_at r t.serials x y ≡ burnt_at r s.serials x y) s m refl
        (λ b. burned_unburnt s sheet m fits b x y p q out)

  -- ---- two macroblocks
  -- sheets that differ in the numbers of their serials alone: the same pyramid, the same burnt cells
  pub record Alike (s t : Halftone) : Type 0 where
    pub first : Sheet r s
    pub second : Sheet r t
    pub pyramid : s.pyramid ≡ t.pyramid
    pub burnt : (x y : ℕ) → x < 2 ^ r → y < 2 ^ r → burnt_at r s.serials x y ≡ burnt_at r t.serials x y
    pub dots : s.dots ≡ t.dots

  pub alike_refl : (s : Halftone) → Sheet r s → Alike s s
  alike_refl s h = record { first = h; second = h; pyramid = refl; burnt = λ x y p q. refl; dots = refl }

  pub alike_trans : (s t u : Halftone) → Alike s t → Alike t u → Alike s u
  alike_trans s t u h k =
      record {
        first = h.first;
        second = k.second;
        pyramid = h.pyramid ∙ k.pyramid;
        burnt = λ x y p q. h.burnt x y p q ∙ k.burnt x y p q;
        dots = h.dots ∙ k.dots;
      }

  -- a macroblock that shares no cell with the one worked finds what it found before
  module _ (s : Halftone) (sheet : Sheet r s) (m n : Macroblock) (fits : Fits r m) (fits' : Fits r n)
      (apart : Apart m n) where
    same_there : (x y : ℕ) → Has n x y → entry (work kernel r s m).pyramid r x y ≡ entry s.pyramid r x y
    same_there x y h =
        work_away s sheet m fits x y (has_row r four≤ n fits' x y h) (has_column r four≤ n fits' x y h)
        (λ k. apart.none x y k h)

    pub later_burns : burns r (work kernel r s m).pyramid n ≡ burns r s.pyramid n
    later_burns =
        burns_same r four≤ _ _ (sound_summed (work_sheet s sheet m fits).sound) (sound_summed sheet.sound)
        n fits' same_there

    pub later_wanted : wanted r (work kernel r s m).pyramid n ≡ wanted r s.pyramid n
    later_wanted =
        wanted_same r four≤ _ _ (sound_summed (work_sheet s sheet m fits).sound) (sound_summed sheet.sound)
        n fits' same_there

  -- where both burn
  module _ (s : Halftone) (sheet : Sheet r s) (m n : Macroblock) (fits : Fits r m) (fits' : Fits r n)
      (apart : Apart m n) (b : burns r s.pyramid m ≡ true) (c : burns r s.pyramid n ≡ true) where
    abbrev c₁ : ℕ × ℕ
    c₁ = wanted r s.pyramid m

    abbrev c₂ : ℕ × ℕ
    c₂ = wanted r s.pyramid n

    sheet_m : Sheet r (place_dot kernel r s c₁)
    sheet_m = burned_sheet s sheet m fits b

    burns_m : burns r (place_dot kernel r s c₁).pyramid n ≡ true
    burns_m = rw (work_made kernel r s m b) at (later_burns s sheet m n fits fits' apart) ∙ c

    wanted_m : wanted r (place_dot kernel r s c₁).pyramid n ≡ c₂
    wanted_m = rw (work_made kernel r s m b) at (later_wanted s sheet m n fits fits' apart)

    abbrev both : Halftone
    both = place_dot kernel r (place_dot kernel r s c₁) c₂

    both_is : work kernel r (work kernel r s m) n ≡ both
    both_is =
        rw (work_made kernel r s m b)
        (work_made kernel r _ n burns_m ∙ ap (place_dot kernel r (place_dot kernel r s c₁)) wanted_m)

    both_sheet : Sheet r both
    both_sheet = rw wanted_m at (burned_sheet _ sheet_m n fits' burns_m)

    -- the second cell owes what it owed before
    owes_same : entry (place_dot kernel r s c₁).pyramid r c₂.0 c₂.1 ≡ entry s.pyramid r c₂.0 c₂.1
    owes_same =
        burned_away s sheet m fits b c₂.0 c₂.1 (cell_row s sheet n fits' c) (cell_column s sheet n fits' c)
        (λ k. apart.none c₂.0 c₂.1 k (cell_has s sheet n fits' c))

    both_falls : (x y : ℕ) → x < 2 ^ r → y < 2 ^ r
        → entry both.pyramid r x y
        ≡ entry s.pyramid r x y -ℤ pos (lost s sheet m fits b x y) -ℤ pos (lost s sheet n fits' c x y)
    both_falls x y p q =
        let h = rw wanted_m at (burned_falls _ sheet_m n fits' burns_m x y p q) in
        (rw owes_same at h)
        ∙ ap (λ (z : ℤ). z -ℤ pos (lost s sheet n fits' c x y)) (burned_falls s sheet m fits b x y p q)

    both_burnt : (x y : ℕ) → x < 2 ^ r → y < 2 ^ r
        → burnt_at r both.serials x y
        ≡ burnt_at r s.serials x y + δ c₁.0 x * δ c₁.1 y + δ c₂.0 x * δ c₂.1 y
    both_burnt x y p q =
        (rw wanted_m at (burned_burnt _ sheet_m n fits' burns_m x y p q))
        ∙ ap (λ (z : ℕ). z + δ c₂.0 x * δ c₂.1 y) (burned_burnt s sheet m fits b x y p q)

    both_dots : both.dots ≡ suc (suc s.dots)
    both_dots = (rw wanted_m at (burned_dots _ sheet_m n fits' burns_m)) ∙ ap suc (burned_dots s sheet m fits b)

  turn : (z : ℤ) (v w : ℕ) → z -ℤ pos v -ℤ pos w ≡ z -ℤ pos w -ℤ pos v
  turn z v w = simp zz (omega arith)

  both_alike : (s : Halftone) (sheet : Sheet r s) (m n : Macroblock) (fits : Fits r m) (fits' : Fits r n)
      (apart : Apart m n) (apart' : Apart n m)
      (a : burns r s.pyramid m ≡ true) (e : burns r s.pyramid n ≡ true)
      → Alike (both s sheet m n fits fits' apart a e) (both s sheet n m fits' fits apart' e a)
  both_alike s sheet m n fits fits' apart apart' a e =
      let f = both_sheet s sheet m n fits fits' apart a e in
      let g = both_sheet s sheet n m fits' fits apart' e a in
      record {
        first = f;
        second = g;
        pyramid =
            pyramid_same r _ _ f.sized.pyramid g.sized.pyramid (sound_summed f.sound)
            (sound_summed g.sound)
            (λ x y p q.
            both_falls s sheet m n fits fits' apart a e x y p q
            ∙ turn (entry s.pyramid r x y) (lost s sheet m fits a x y) (lost s sheet n fits' e x y)
            ∙ sym (both_falls s sheet n m fits' fits apart' e a x y p q));
        burnt = λ x y p q.
            omega (
              arith,
              both_burnt s sheet m n fits fits' apart a e x y p q,
              both_burnt s sheet n m fits' fits apart' e a x y p q,
            );
        dots = both_dots s sheet m n fits fits' apart a e ∙ sym (both_dots s sheet n m fits' fits apart' e a);
      }

  pub work_swap : (s : Halftone) → Sheet r s → (m n : Macroblock) → Fits r m → Fits r n → Apart m n
      → Alike (work kernel r (work kernel r s m) n) (work kernel r (work kernel r s n) m)
  work_swap s sheet m n fits fits' apart = go (burns r s.pyramid m) refl (burns r s.pyramid n) refl
    where
      apart' : Apart n m
      apart' = apart_sym m n apart

      go : (a : Bool) → burns r s.pyramid m ≡ a → (b : Bool) → burns r s.pyramid n ≡ b
          → Alike (work kernel r (work kernel r s m) n) (work kernel r (work kernel r s n) m)
      go false a b e =
          let later = later_burns s sheet n m fits' fits apart' ∙ a in
          rw (work_idle kernel r s m a, work_idle kernel r (work kernel r s n) m later)
          (alike_refl (work kernel r s n) (work_sheet s sheet n fits'))
      go true a false e =
          let later = later_burns s sheet m n fits fits' apart ∙ e in
          rw (work_idle kernel r s n e, work_idle kernel r (work kernel r s m) n later)
          (alike_refl (work kernel r s m) (work_sheet s sheet m fits))
      go true a true e =
          rw (both_is s sheet m n fits fits' apart a e, both_is s sheet n m fits' fits apart' e a)
          (both_alike s sheet m n fits fits' apart apart' a e)

  -- working a macroblock reads no serial
  pub work_alike : (s t : Halftone) → Alike s t → (m : Macroblock) → Fits r m
      → Alike (work kernel r s m) (work kernel r t m)
  work_alike s t h m fits = go (burns r s.pyramid m) refl
    where
      burns_too : burns r s.pyramid m ≡ burns r t.pyramid m
      burns_too = ap (λ (p : List ℤ). burns r p m) h.pyramid

      wanted_too : wanted r s.pyramid m ≡ wanted r t.pyramid m
      wanted_too = ap (λ (p : List ℤ). wanted r p m) h.pyramid

      go : (b : Bool) → burns r s.pyramid m ≡ b → Alike (work kernel r s m) (work kernel r t m)
      go false e = rw (work_idle kernel r s m e, work_idle kernel r t m (sym burns_too ∙ e)) h
      go true e =
          let f = sym burns_too ∙ e in
          rw (work_made kernel r s m e, work_made kernel r t m f)
          (record {
            first = burned_sheet s h.first m fits e;
            second = burned_sheet t h.second m fits f;
            pyramid = unfold place_dot in rw h.pyramid;
            burnt = λ x y p q.
                burned_burnt s h.first m fits e x y p q
                ∙ ap₂ (λ (z : ℕ) (c : ℕ × ℕ). z + δ c.0 x * δ c.1 y) (h.burnt x y p q) wanted_too
                ∙ sym (burned_burnt t h.second m fits f x y p q);
            dots = burned_dots s h.first m fits e ∙ ap suc h.dots ∙ sym (burned_dots t h.second m fits f);
          })
