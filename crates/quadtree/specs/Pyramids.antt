-- Pyramids whose coarser entries are the sums of their four (`Summed`): every entry is the sum over the block that it
-- covers (`entry_area`). The pyramid over the cells is one (`pyramid_summed`).
use Rattle.std.specs.Prelude.{◌≡◌, List, ◌++◌, ℕ, zero, suc, ◌+◌, ◌*◌, ◌^◌, ◌≤◌, ◌<◌, length, get_or, drop, ℤ, pos}
use Rattle.std.proofs.Common.{sym, ap, ap₂, ◌∙◌, arith, length-append, get_or-append-add, get_or-drop}
use Rattle.std.proofs.Math.Nat.{pow-succ', two-pow-succ}
use Rattle.std.proofs.Math.Decide.{ℕ_discrete}
use Rattle.std.proofs.Math.ListN.{get_or-append}
use Rattle.definition.specs.Pyramid.{
  start,
  place_in,
  row_at,
  column_at,
  level_of,
  in_level,
  entry,
  four,
  coarser,
  pyramid_over,
}
use Rattle.integers.specs.Lists.{length_tabulate, get_d_tabulate}
use Rattle.quadtree.specs.Residues.{area_z, area_z_one, area_z_quarters}
use Rattle.quadtree.specs.Levels.{
  start_suc,
  start_mono,
  start_thrice,
  place_lt,
  row_place_lem,
  column_place_lem,
  twice,
  twice_one,
}

-- ---- one level
pub length_level : (k : ℕ) (f : ℕ → ℕ → ℤ) → length (level_of k f) ≡ 2 ^ k * 2 ^ k
unfolding level_of
length_level k f = length_tabulate 0 (2 ^ k * 2 ^ k) _

pub level_entry : (k : ℕ) (f : ℕ → ℕ → ℤ) (a b : ℕ) → a < 2 ^ k → b < 2 ^ k → in_level k (level_of k f) a b ≡ f a b
unfolding level_of in_level
level_entry k f a b h l =
    get_d_tabulate (2 ^ k * 2 ^ k) (λ i. f (row_at k i) (column_at k i)) (place_in k a b) (pos 0) (place_lt k a b h l)
    ∙ ap₂ f (row_place_lem k a b l) (column_place_lem k a b l)

pub length_coarser : (k : ℕ) (below : List ℤ) → length (coarser k below) ≡ 2 ^ k * 2 ^ k
unfolding coarser
length_coarser k below = length_level k _

-- an entry of level r, in the list from that level on
pub entry_drop : (pyramid : List ℤ) (r a b : ℕ) → in_level r (drop (start r) pyramid) a b ≡ entry pyramid r a b
unfolding in_level entry
entry_drop pyramid r a b = get_or-drop (start r) pyramid (place_in r a b) (pos 0)

-- ---- the pyramid over the cells
pub length_pyramid : (r : ℕ) (cells : List ℤ) → length cells ≡ 2 ^ r * 2 ^ r
    → length (pyramid_over r cells) ≡ start (suc r)
unfolding pyramid_over
length_pyramid zero cells h = h ∙ omega (arith, start_thrice 1)
length_pyramid (suc r) cells h =
    omega (
      arith,
      length-append (pyramid_over r (coarser r cells)) cells,
      length_pyramid r (coarser r cells)
          (length_coarser r cells),
      start_suc (suc r),
    )

-- its level r is the cells
pub pyramid_cells : (r : ℕ) (cells : List ℤ) (a b : ℕ) → entry (pyramid_over r cells) r a b ≡ in_level r cells a b
unfolding entry in_level pyramid_over
pyramid_cells zero cells a b = ap (λ (i : ℕ). get_or cells i (pos 0)) (omega (arith, start_thrice 0))
pyramid_cells (suc r) cells a b =
    ap (λ (i : ℕ). get_or (pyramid_over r (coarser r cells) ++ cells) i (pos 0))
    (omega (arith, length_pyramid r (coarser r cells) (length_coarser r cells)))
    ∙ get_or-append-add (pyramid_over r (coarser r cells)) cells (place_in (suc r) a b) (pos 0)

-- its coarser levels are those of the pyramid over level r − 1
pub pyramid_coarser : (r : ℕ) (cells : List ℤ) (k a b : ℕ) → k ≤ r → a < 2 ^ k → b < 2 ^ k
    → entry (pyramid_over (suc r) cells) k a b ≡ entry (pyramid_over r (coarser r cells)) k a b
unfolding entry pyramid_over
pyramid_coarser r cells k a b h p q =
    get_or-append (pyramid_over r (coarser r cells)) cells (pos 0) (start k + place_in k a b)
    (omega (
      arith,
      length_pyramid r (coarser r cells) (length_coarser r cells),
      place_lt k a b p q,
      start_suc k,
      start_mono (suc k) (suc r) (omega arith),
    ))

-- A pyramid whose entries above level r are the sums of their four (S 2.4).
pub record Summed (r : ℕ) (pyramid : List ℤ) : Type 0 where
  pub sums : (k a b : ℕ) → k < r → a < 2 ^ k → b < 2 ^ k → entry pyramid k a b ≡ four (entry pyramid (suc k)) a b

-- the sum of four reads these four only
pub four_ext : (n : ℕ) (f g : ℕ → ℕ → ℤ) (a b : ℕ) → a < n → b < n → ((x y : ℕ) → x < 2 * n → y < 2 * n → f x y ≡ g x y)
    → four f a b ≡ four g a b
unfolding four
four_ext n f g a b p q h =
    rw (
      h (2 * a) (2 * b) (omega arith) (omega arith),
      h (2 * a) (2 * b + 1) (omega arith) (omega arith),
      h (2 * a + 1)
          (2 * b) (omega arith) (omega arith),
      h (2 * a + 1) (2 * b + 1) (omega arith) (omega arith),
    )

pub pyramid_summed : (r : ℕ) (cells : List ℤ) → Summed r (pyramid_over r cells)
pyramid_summed zero cells = record { sums = λ k a b h p q. absurd (omega arith) }
pyramid_summed (suc r) cells =
    record { sums = λ k a b h p q. go (pyramid_summed r (coarser r cells)) k a b p q (ℕ_discrete k r) h }
  where
    finest : (a b : ℕ) → a < 2 ^ r → b < 2 ^ r → in_level r (coarser r cells) a b ≡ four (in_level (suc r) cells) a b
    finest a b p q = unfold coarser in level_entry r (four (in_level (suc r) cells)) a b p q

    go : Summed r (pyramid_over r (coarser r cells)) → (k a b : ℕ) → a < 2 ^ k → b < 2 ^ k → Dec (k ≡ r) → k < suc r
        → entry (pyramid_over (suc r) cells) k a b ≡ four (entry (pyramid_over (suc r) cells) (suc k)) a b
    go ih k a b p q (yes e) h =
        pyramid_coarser r cells k a b (omega arith) p q
        ∙ rw e (pyramid_cells r (coarser r cells) a b ∙ finest a b (rw e at p) (rw e at q)
        ∙ sym (four_ext (2 ^ r) _ _ a b (rw e at p) (rw e at q) (λ x y u v. pyramid_cells (suc r) cells x y)))
    go ih k a b p q (no e) h =
        pyramid_coarser r cells k a b (omega arith) p q
        ∙ ih.sums k a b (omega arith) p q
        ∙ sym (four_ext (2 ^ k) _ _ a b p q
        (λ x y u v. pyramid_coarser r cells (suc k) x y (omega arith) (rw (pow-succ' 2 k) (omega arith))
        (rw (pow-succ' 2 k) (omega arith))))

-- a block's sum is that of its four quarters
area_z_four : (j : ℕ) (f : ℕ → ℕ → ℤ) (a b : ℕ)
    → area_z (a * 2 ^ suc j) (b * 2 ^ suc j) (2 ^ suc j) f ≡ four (λ x y. area_z (x * 2 ^ j) (y * 2 ^ j) (2 ^ j) f) a b
unfolding four
area_z_four j f a b =
    ap (λ (n : ℕ). area_z (a * 2 ^ suc j) (b * 2 ^ suc j) n f) (two-pow-succ j)
    ∙ area_z_quarters (a * 2 ^ suc j) (b * 2 ^ suc j) (2 ^ j) f
    ∙ rw (twice j a, twice j b, twice_one j a, twice_one j b)

-- Every entry is the sum over its block (S 2.10): j levels above the cells, 2^j by 2^j cells.
pub entry_area : (r : ℕ) (pyramid : List ℤ) → Summed r pyramid → (j k a b : ℕ) → j + k ≡ r → a < 2 ^ k → b < 2 ^ k
    → entry pyramid k a b ≡ area_z (a * 2 ^ j) (b * 2 ^ j) (2 ^ j) (entry pyramid r)
entry_area r pyramid s zero k a b e p q =
    let z : k ≡ r = omega arith in
    rw z (sym (area_z_one (a * 1) (b * 1) (entry pyramid r) ∙ ap₂ (entry pyramid r) (omega arith) (omega arith)))
entry_area r pyramid s (suc j) k a b e p q =
    s.sums k a b (omega arith) p q
    ∙ four_ext (2 ^ k) _ _ a b p q
    (λ x y u v. entry_area r pyramid s j (suc k) x y (omega arith) (rw (pow-succ' 2 k) (omega arith))
    (rw (pow-succ' 2 k) (omega arith)))
    ∙ sym (area_z_four j (entry pyramid r) a b)
