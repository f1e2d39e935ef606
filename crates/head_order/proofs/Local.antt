-- A walk reads the cells of its own block only (`descend_same`), and so does every entry (`entry_same`). Two pyramids
-- with right sums and the same cells are the same (`pyramid_same`).
use Rattle.std.specs.Prelude.{◌≡◌, List, ◌++◌, length, take, drop, ℤ, pos}
use Rattle.std.proofs.Math.Path.{refl, ap}
use Rattle.std.proofs.Common.{sym, ◌∙◌, arith, length-drop, take-append-drop, ext_get_or, length-take-le}
use Prim.Native.Nat.{ℕ, zero, suc, ◌+◌, ◌*◌, ◌^◌, ◌≤◌, ◌<◌}
use Rattle.std.proofs.Math.Nat.{pow-succ'}
use Rattle.std.proofs.Math.Seq.{get_or-take}
use Rattle.definition.specs.Pyramid.{start, place_in, row_at, column_at, in_level, entry, four, coarser, pyramid_over}
use Rattle.definition.specs.Descent.{Candidate, candidate, Choice, largest, descend}
use Rattle.quadtree.specs.Areas.{In}
use Rattle.quadtree.specs.Residues.{area_z_ext}
use Rattle.quadtree.specs.Levels.{start_suc, start_mono, place_lt, place_row_column, row_lt, column_lt}
use Rattle.quadtree.specs.Pyramids.{Summed, entry_area, entry_drop, length_coarser, level_entry, four_ext}
use Rattle.quadtree.specs.Guidance.{Fair, in_block, largest_quarter}

-- ---- pyramids with the same cells
-- two levels of one length with the same entries
level_same : (k : ℕ) (f g : List ℤ) → length f ≡ 2 ^ k * 2 ^ k → length g ≡ 2 ^ k * 2 ^ k
    → ((a b : ℕ) → a < 2 ^ k → b < 2 ^ k → in_level k f a b ≡ in_level k g a b) → f ≡ g
unfolding in_level
level_same k f g e h same =
    ext_get_or (pos 0) f g (e ∙ sym h)
    (λ i lt.
    let l : i < 2 ^ k * 2 ^ k = omega arith in
    rw (place_row_column k i) at (same (row_at k i) (column_at k i) (row_lt k i l) (column_lt k i)))

-- a pyramid with right sums is the one over its cells
pyramid_whole : (r : ℕ) (p : List ℤ) → length p ≡ start (suc r) → Summed r p → p ≡ pyramid_over r (drop (start r) p)
unfolding pyramid_over start
pyramid_whole zero p e s = refl
pyramid_whole (suc r) p e s =
    sym (take-append-drop (start (suc r)) p)
    ∙ ap (λ (l : List ℤ). l ++ drop (start (suc r)) p)
    (pyramid_whole r above long summed ∙ ap (pyramid_over r) finest)
  where
    above : List ℤ
    above = take (start (suc r)) p

    long : length above ≡ start (suc r)
    long = length-take-le (start (suc r)) p (omega (arith, start_suc (suc r)))

    above_entry : (m a b : ℕ) → m ≤ r → a < 2 ^ m → b < 2 ^ m → entry above m a b ≡ entry p m a b
    above_entry m a b le u v =
        unfold entry in
        get_or-take (start (suc r)) p (start m + place_in m a b) (pos 0)
        (omega (arith, start_suc m, start_mono (suc m) (suc r) (omega arith), place_lt m a b u v))

    summed : Summed r above
    summed =
        record {
          sums = λ m a b lt u v.
              above_entry m a b (omega arith) u v
              ∙ s.sums m a b (omega arith) u v
              ∙ sym (four_ext (2 ^ m) _ _ a b u v (λ x y i j.
              above_entry (suc m) x y lt (rw (pow-succ' 2 m) (omega arith)) (rw (pow-succ' 2 m) (omega arith))));
        }

    finest : drop (start r) above ≡ coarser r (drop (start (suc r)) p)
    finest =
        level_same r _ _ (omega (arith, length-drop (start r) above, long, start_suc r))
        (length_coarser r (drop (start (suc r)) p))
        (λ a b u v.
        entry_drop above r a b
        ∙ above_entry r a b (omega arith) u v
        ∙ s.sums r a b (omega arith) u v
        ∙ four_ext (2 ^ r) _ _ a b u v (λ x y i j. sym (entry_drop p (suc r) x y))
        ∙ sym (unfold coarser in level_entry r (four (in_level (suc r) (drop (start (suc r)) p))) a b u v))

pub pyramid_same : (r : ℕ) (p q : List ℤ) → length p ≡ start (suc r) → length q ≡ start (suc r)
    → Summed r p → Summed r q → ((x y : ℕ) → x < 2 ^ r → y < 2 ^ r → entry p r x y ≡ entry q r x y) → p ≡ q
pyramid_same r p q e f s t same =
    pyramid_whole r p e s
    ∙ ap (pyramid_over r)
    (level_same r _ _ (omega (arith, length-drop (start r) p, start_suc r))
    (omega (arith, length-drop (start r) q, start_suc r))
    (λ x y u v. entry_drop p r x y ∙ same x y u v ∙ sym (entry_drop q r x y)))
    ∙ sym (pyramid_whole r q f t)

-- ---- a walk
-- the largest of four reads these four only
pub largest_same : (takes : Choice) (f g : ℕ → ℕ → ℤ) (a b : ℕ)
    → ((x y : ℕ) → 2 * a ≤ x → x < 2 * a + 2 → 2 * b ≤ y → y < 2 * b + 2 → f x y ≡ g x y)
    → largest takes f a b ≡ largest takes g a b
unfolding largest candidate
largest_same takes f g a b h =
    rw (
      h (2 * a) (2 * b) (omega arith) (omega arith) (omega arith) (omega arith),
      h (2 * a) (2 * b + 1) (omega arith) (omega arith) (omega arith) (omega arith),
      h (2 * a + 1) (2 * b) (omega arith) (omega arith) (omega arith) (omega arith),
      h (2 * a + 1) (2 * b + 1) (omega arith) (omega arith) (omega arith) (omega arith),
    )

-- and so does their sum
pub four_same : (f g : ℕ → ℕ → ℤ) (a b : ℕ)
    → ((x y : ℕ) → 2 * a ≤ x → x < 2 * a + 2 → 2 * b ≤ y → y < 2 * b + 2 → f x y ≡ g x y) → four f a b ≡ four g a b
unfolding four
four_same f g a b h =
    rw (
      h (2 * a) (2 * b) (omega arith) (omega arith) (omega arith) (omega arith),
      h (2 * a) (2 * b + 1) (omega arith) (omega arith) (omega arith) (omega arith),
      h (2 * a + 1) (2 * b) (omega arith) (omega arith) (omega arith) (omega arith),
      h (2 * a + 1) (2 * b + 1) (omega arith) (omega arith) (omega arith) (omega arith),
    )

module _ (takes : Choice) (fair : Fair takes) (r : ℕ) (p q : List ℤ) (s : Summed r p) (t : Summed r q) where
  -- the two pyramids have the same cells in the block of entry (a, b), which is 2^j cells wide
  abbrev SameCells : ℕ → ℕ → ℕ → Type 0
  SameCells j a b =
      (x y : ℕ) → In (a * 2 ^ j) (2 ^ j) x → In (b * 2 ^ j) (2 ^ j) y → entry p r x y ≡ entry q r x y

  pub entry_same : (j k a b : ℕ) → j + k ≡ r → a < 2 ^ k → b < 2 ^ k → SameCells j a b → entry p k a b ≡ entry q k a b
  entry_same j k a b e u v h =
      entry_area r p s j k a b e u v
      ∙ area_z_ext (a * 2 ^ j) (b * 2 ^ j) (2 ^ j) _ _ h
      ∙ sym (entry_area r q t j k a b e u v)

  pub descend_same : (left k a b : ℕ) → left + k ≡ r → a < 2 ^ k → b < 2 ^ k → SameCells left a b
      → descend takes p left k a b ≡ descend takes q left k a b
  unfolding descend
  descend_same zero k a b e u v h = refl
  descend_same (suc left) k a b e u v h =
      let two : 2 ^ suc k ≡ 2 * 2 ^ k = pow-succ' 2 k in
      let f = entry p (suc k) in
      let g = entry q (suc k) in
      let is = largest_quarter takes fair f a b in
      let below : (c d : ℕ) → 2 * a ≤ c → c < 2 * a + 2 → 2 * b ≤ d → d < 2 * b + 2 → SameCells left c d
      = λ c d i j l m x y n o. h x y (in_block left a c x i j n) (in_block left b d y l m o) in
      let same = largest_same takes f g a b (λ c d i j l m.
      entry_same left (suc k) c d (omega arith) (omega arith) (omega arith) (below c d i j l m)) in
      descend_same left (suc k) (largest takes f a b).row (largest takes f a b).column (omega arith)
      (omega (arith, is.row_high)) (omega (arith, is.column_high))
      (below _ _ is.row_low is.row_high is.column_low is.column_high)
      ∙ ap (λ (c : Candidate). descend takes q left (suc k) c.row c.column) same
