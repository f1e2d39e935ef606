-- The renewal. `renewed_right`: a pyramid that was right before some cells changed is, with the entries over these
-- cells renewed, right everywhere. `Renewed`: what the renewal of any pyramid does, entry by entry.
use Rattle.std.specs.Prelude.{◌≡◌, Bool, true, false, cond, ◌||◌, List, ◌++◌, length, take, drop, ℤ, pos}
use Rattle.std.proofs.Math.Path.{refl, sym, ap}
use Rattle.std.proofs.Common.{◌∙◌, length-append, length-take-le, drop_at}
use Prim.Native.Nat.{ℕ, zero, suc, ◌+◌, ◌*◌, ◌^◌, ◌≤◌, ◌<◌}
use native.Mathlib.Omega.{arith}
use Rattle.std.proofs.Math.Nat.{pow-succ'}
use Rattle.std.proofs.Math.ListN.{get_or, get_or-append}
use Rattle.std.proofs.Math.Seq.{get_or-take, get_or-append-add}
use Rattle.std.proofs.lemmas.List.{take-append-le}
use Rattle.definition.specs.Pyramid.{
  start,
  place_in,
  row_at,
  column_at,
  level_of,
  in_level,
  entry,
  four,
  coarser,
  pyramid_over,
}
use Rattle.definition.specs.Renewal.{over_these, renewed}
use Rattle.integers.specs.Lists.{tabulate_ext}
use Rattle.integers.specs.Tests.{false_T, or_false, cond_both}
use Rattle.quadtree.specs.Levels.{start_suc, start_mono, place_lt, row_lt, column_lt}
use Rattle.quadtree.specs.Pyramids.{length_level, length_coarser, level_entry, Summed, four_ext}

-- levels whose entries agree
pub level_ext : (k : ℕ) (f g : ℕ → ℕ → ℤ) → ((a b : ℕ) → a < 2 ^ k → b < 2 ^ k → f a b ≡ g a b)
    → level_of k f ≡ level_of k g
unfolding level_of
level_ext k f g h =
    tabulate_ext (2 ^ k * 2 ^ k) _ _ (λ i lt. h (row_at k i) (column_at k i) (row_lt k i lt) (column_lt k i))

-- an entry of level k lies before the levels after it
before_level : (k m a b : ℕ) → k < m → a < 2 ^ k → b < 2 ^ k → start k + place_in k a b < start m
before_level k m a b lt p q = omega (arith, start_suc k, start_mono (suc k) m lt, place_lt k a b p q)

-- ---- only what the test says of cells on the map counts
module _ (k : ℕ) (f g : ℕ → ℕ → Bool) (h : (x y : ℕ) → x < 2 ^ suc k → y < 2 ^ suc k → f x y ≡ g x y) where
  over_ext : (a b : ℕ) → a < 2 ^ k → b < 2 ^ k → over_these f a b ≡ over_these g a b
  unfolding over_these
  over_ext a b p q =
      let two : 2 ^ suc k ≡ 2 * 2 ^ k = pow-succ' 2 k in
      rw (
        h (2 * a) (2 * b) (omega arith) (omega arith),
        h (2 * a) (2 * b + 1) (omega arith) (omega arith),
        h
            (2 * a + 1) (2 * b) (omega arith) (omega arith),
        h (2 * a + 1) (2 * b + 1) (omega arith) (omega arith),
      )

pub renewed_ext : (k : ℕ) (f g : ℕ → ℕ → Bool) (pyramid : List ℤ) → ((x y : ℕ) → x < 2 ^ k → y < 2 ^ k → f x y ≡ g x y)
    → renewed k f pyramid ≡ renewed k g pyramid
unfolding renewed
renewed_ext zero f g pyramid h = refl
renewed_ext (suc k) f g pyramid h =
    let cells = drop (start (suc k)) pyramid in
    let level : (ℕ → ℕ → Bool) → ℕ → ℕ
    → ℤ = λ t a b. cond (over_these t a b) (four (in_level (suc k) cells) a b) (entry pyramid k a b) in
    let same : level_of k (level f) ≡ level_of k (level g)
    = level_ext k (level f) (level g)
    (λ a b p q. ap (λ (t : Bool). cond t (four (in_level (suc k) cells) a b) (entry pyramid k a b))
    (over_ext k f g h a b p q)) in
    ap (λ (l : List ℤ). l ++ cells)
    (renewed_ext k (over_these f) (over_these g) (take (start k) pyramid ++ level_of k (level f)) (over_ext k f g h)
    ∙ ap (λ (l : List ℤ). renewed k (over_these g) (take (start k) pyramid ++ l)) same)

-- ---- an entry not over these cells covers none of them
none_of_four : (p q s t : Bool) → (p || q || s || t) ≡ false → (p ≡ false) × (q ≡ false) × (s ≡ false) × (t ≡ false)
none_of_four p q s t e =
    let u = or_false (p || q || s) t e in
    let v = or_false (p || q) s u.0 in
    let w = or_false p q v.0 in
    (w.0, w.1, v.1, u.1)

module _ (these : ℕ → ℕ → Bool) (k : ℕ) (f g : ℕ → ℕ → ℤ)
    (h : (x y : ℕ) → x < 2 ^ suc k → y < 2 ^ suc k → these x y ≡ false → f x y ≡ g x y) where
  four_away : (a b : ℕ) → a < 2 ^ k → b < 2 ^ k → over_these these a b ≡ false → four f a b ≡ four g a b
  unfolding four over_these
  four_away a b p q e =
      let two : 2 ^ suc k ≡ 2 * 2 ^ k = pow-succ' 2 k in
      let u = none_of_four (these (2 * a) (2 * b)) (these (2 * a) (2 * b + 1)) (these (2 * a + 1) (2 * b))
      (these (2 * a + 1) (2 * b + 1)) e in
      rw (
        h (2 * a) (2 * b) (omega arith) (omega arith) u.0,
        h (2 * a) (2 * b + 1) (omega arith) (omega arith) u.1,
        h (2 * a + 1) (2 * b) (omega arith) (omega arith) u.2,
        h (2 * a + 1) (2 * b + 1) (omega arith) (omega arith) u.3,
      )

-- ---- the law
-- `right` has the sums of its cells above level k; `cells` differ from these cells only where the test says so
pub record Changed (k : ℕ) (these : ℕ → ℕ → Bool) (right cells : List ℤ) : Type 0 where
  pub long : length right ≡ start (suc k)
  pub full : length cells ≡ 2 ^ k * 2 ^ k
  pub summed : Summed k right
  pub away : (x y : ℕ) → x < 2 ^ k → y < 2 ^ k → these x y ≡ false → entry right k x y ≡ in_level k cells x y

-- one turn: level k over the cells of level k + 1
module _ (k : ℕ) (these : ℕ → ℕ → Bool) (right cells : List ℤ) (h : Changed (suc k) these right cells) where
  abbrev above : List ℤ
  above = take (start (suc k)) right

  abbrev lent : List ℤ
  lent = above ++ cells

  above_long : length above ≡ start (suc k)
  above_long = length-take-le (start (suc k)) right (omega (arith, h.long, start_suc (suc k)))

  cells_in : drop (start (suc k)) lent ≡ cells
  cells_in = drop_at above cells (start (suc k)) above_long

  above_in : take (start k) lent ≡ take (start k) above
  above_in = take-append-le (start k) above cells (omega (arith, above_long, start_suc k))

  above_entry : (m a b : ℕ) → m ≤ k → a < 2 ^ m → b < 2 ^ m → entry above m a b ≡ entry right m a b
  unfolding entry
  above_entry m a b le p q =
      get_or-take (start (suc k)) right (start m + place_in m a b) (pos 0)
      (before_level m (suc k) a b (omega arith) p q)

  lent_entry : (a b : ℕ) → a < 2 ^ k → b < 2 ^ k → entry lent k a b ≡ entry above k a b
  unfolding entry
  lent_entry a b p q =
      get_or-append above cells (pos 0) (start k + place_in k a b)
      (omega (arith, above_long, before_level k (suc k) a b (omega arith) p q))

  -- where it isn't renewed, it was right
  stays : (a b : ℕ) → a < 2 ^ k → b < 2 ^ k → over_these these a b ≡ false
      → entry above k a b ≡ four (in_level (suc k) cells) a b
  stays a b p q e =
      above_entry k a b (omega arith) p q ∙ h.summed.sums k a b (omega arith) p q
      ∙ four_away these k (entry right (suc k)) (in_level (suc k) cells) h.away a b p q e

  level_right : level_of k (λ a b. cond (over_these these a b) (four (in_level (suc k) cells) a b) (entry lent k a b))
      ≡ coarser k cells
  unfolding coarser
  level_right =
      level_ext k _ _
      (λ a b p q. cond_both (λ z. z ≡ four (in_level (suc k) cells) a b) (over_these these a b) _ _ (λ t. refl)
      (λ t. lent_entry a b p q ∙ stays a b p q (false_T _ t)))

  next : Changed k (over_these these) above (coarser k cells)
  unfolding coarser
  next =
      record {
        long = above_long;
        full = length_coarser k cells;
        summed =
            record {
              sums =
                  λ m a b lt p q. above_entry m a b (omega arith) p q ∙ h.summed.sums m a b (omega arith) p q
                  ∙ sym (four_ext (2 ^ m) _ _ a b p q
                  (λ x y u v. above_entry (suc m) x y lt (rw (pow-succ' 2 m) (omega arith))
                  (rw (pow-succ' 2 m) (omega arith))));
            };
        away = λ a b p q e. stays a b p q e ∙ sym (level_entry k (four (in_level (suc k) cells)) a b p q);
      }

-- a pyramid that was right is right again after the renewal (S 3.8)
pub renewed_right : (k : ℕ) (these : ℕ → ℕ → Bool) (right cells : List ℤ) → Changed k these right cells
    → renewed k these (take (start k) right ++ cells) ≡ pyramid_over k cells
unfolding renewed pyramid_over
renewed_right zero these right cells h = unfold start in refl
renewed_right (suc k) these right cells h =
    rw (cells_in k these right cells h, above_in k these right cells h, level_right k these right cells h)
    (ap (λ (l : List ℤ). l ++ cells)
    (renewed_right k (over_these these) (take (start (suc k)) right) (coarser k cells) (next k these right cells h)))

-- ---- what the request says, entry by entry
-- whether an entry, j levels above these cells, is over one of them
unfoldable pub over_at : ℕ → (ℕ → ℕ → Bool) → ℕ → ℕ → Bool
over_at zero these = these
over_at (suc j) these = over_at j (over_these these)

-- The entries over these cells are again the sums of their four, and no other entry has changed (S 3.8).
pub record Renewed (r : ℕ) (these : ℕ → ℕ → Bool) (before after : List ℤ) : Type 0 where
  pub same_length : length after ≡ length before
  pub cells : (x y : ℕ) → entry after r x y ≡ entry before r x y
  pub sums : (j k a b : ℕ) → suc j + k ≡ r → a < 2 ^ k → b < 2 ^ k → over_at (suc j) these a b ≡ true
      → entry after k a b ≡ four (entry after (suc k)) a b
  pub others : (j k a b : ℕ) → suc j + k ≡ r → a < 2 ^ k → b < 2 ^ k → over_at (suc j) these a b ≡ false
      → entry after k a b ≡ entry before k a b

module _ (k : ℕ) (these : ℕ → ℕ → Bool) (before : List ℤ) (long : length before ≡ start (suc (suc k))) where
  abbrev pub finer : List ℤ
  finer = drop (start (suc k)) before

  abbrev pub over : ℕ → ℕ → Bool
  over = over_these these

  abbrev made : ℕ → ℕ → ℤ
  made a b = cond (over a b) (four (in_level (suc k) finer) a b) (entry before k a b)

  abbrev pub coarse : List ℤ
  coarse = take (start k) before ++ level_of k made

  kept_long : length (take (start k) before) ≡ start k
  kept_long = length-take-le (start k) before (omega (arith, long, start_suc k, start_suc (suc k)))

  pub coarse_long : length coarse ≡ start (suc k)
  coarse_long =
      omega (
        arith,
        length-append (take (start k) before) (level_of k made),
        kept_long,
        length_level k made,
        start_suc k,
      )

  module _ (up : List ℤ) (ih : Renewed k over coarse up) where
    abbrev pub after : List ℤ
    after = up ++ finer

    pub up_long : length up ≡ start (suc k)
    up_long = ih.same_length ∙ coarse_long

    after_up : (m a b : ℕ) → m ≤ k → a < 2 ^ m → b < 2 ^ m → entry after m a b ≡ entry up m a b
    unfolding entry
    after_up m a b le p q =
        get_or-append up finer (pos 0) (start m + place_in m a b)
        (omega (arith, up_long, before_level m (suc k) a b (omega arith) p q))

    pub after_finer : (x y : ℕ) → entry after (suc k) x y ≡ in_level (suc k) finer x y
    unfolding entry in_level
    after_finer x y =
        ap (λ (n : ℕ). get_or after (n + place_in (suc k) x y) (pos 0)) (sym up_long)
        ∙ get_or-append-add up finer (place_in (suc k) x y) (pos 0)

    coarse_made : (a b : ℕ) → a < 2 ^ k → b < 2 ^ k → entry coarse k a b ≡ made a b
    unfolding entry
    coarse_made a b p q =
        ap (λ (n : ℕ). get_or coarse (n + place_in k a b) (pos 0)) (sym kept_long)
        ∙ get_or-append-add (take (start k) before) (level_of k made) (place_in k a b) (pos 0)
        ∙ (unfold in_level in level_entry k made a b p q)

    coarse_above : (m a b : ℕ) → m < k → a < 2 ^ m → b < 2 ^ m → entry coarse m a b ≡ entry before m a b
    unfolding entry
    coarse_above m a b lt p q =
        get_or-append (take (start k) before) (level_of k made) (pos 0) (start m + place_in m a b)
        (omega (arith, kept_long, before_level m k a b lt p q))
        ∙ get_or-take (start k) before (start m + place_in m a b) (pos 0) (before_level m k a b lt p q)

    up_made : (a b : ℕ) → a < 2 ^ k → b < 2 ^ k → entry after k a b ≡ made a b
    up_made a b p q = after_up k a b (omega arith) p q ∙ ih.cells a b ∙ coarse_made a b p q

    pub says_sums : (j m a b : ℕ) → suc j + m ≡ suc k → a < 2 ^ m → b < 2 ^ m → over_at (suc j) these a b ≡ true
        → entry after m a b ≡ four (entry after (suc m)) a b
    unfolding over_at
    says_sums zero m a b e p q t =
        let z : m ≡ k = omega arith in
        rw z (up_made a b (rw z at p) (rw z at q)
        ∙ rw t (sym (four_ext (2 ^ k) _ _ a b (rw z at p) (rw z at q) (λ x y i j. after_finer x y))))
    says_sums (suc j) m a b e p q t =
        let two : 2 ^ suc m ≡ 2 * 2 ^ m = pow-succ' 2 m in
        after_up m a b (omega arith) p q ∙ ih.sums j m a b (omega arith) p q t
        ∙ sym (four_ext (2 ^ m) _ _ a b p q (λ x y i s. after_up (suc m) x y (omega arith) (omega arith) (omega arith)))

    pub says_others : (j m a b : ℕ) → suc j + m ≡ suc k → a < 2 ^ m → b < 2 ^ m → over_at (suc j) these a b ≡ false
        → entry after m a b ≡ entry before m a b
    unfolding over_at
    says_others zero m a b e p q t = let z : m ≡ k = omega arith in rw z (up_made a b (rw z at p) (rw z at q) ∙ rw t)
    says_others (suc j) m a b e p q t =
        after_up m a b (omega arith) p q ∙ ih.others j m a b (omega arith) p q t ∙ coarse_above m a b (omega arith) p q
