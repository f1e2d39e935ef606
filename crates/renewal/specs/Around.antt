-- The cells around one: what is over them is over the corners of their box (`corners_over`, `renewed_around`).
use Rattle.std.specs.Prelude.{◌≡◌, ◌⊎◌, Bool, true, false, cond, leb, take, ℤ}
use Rattle.std.proofs.Math.Path.{refl, sym, ap, ap₂}
use Rattle.std.proofs.Common.{◌∙◌, inl, inr, arith, mul-le-mul, add-one, pow_mono}
use Rattle.std.proofs.Math.Bool.{◌&&◌, ◌||◌}
use mathlib.Core.List.{List, [], ◌++◌, append-nil}
use Prim.Native.Nat.{ℕ, zero, suc, ◌+◌, ◌*◌, ◌-◌, ◌/◌, ◌^◌, ◌≤◌, ◌<◌, min}
use Rattle.std.proofs.Math.Nat.{pow-succ'}
use Rattle.std.proofs.Math.Decide.{ℕ_discrete}
use Rattle.std.proofs.Math.Dec.{T, eqb}
use Rattle.std.proofs.Math.ListN.{length, drop}
use Rattle.std.proofs.Math.Seq.{take_all, drop-length}
use Rattle.definition.specs.Pyramid.{start, level_of, in_level, entry, four}
use Rattle.definition.specs.Quarters.{interleaved, row_of, column_of, rows_from}
use Rattle.definition.specs.Renewal.{is_near, over_these, renewed}
use Rattle.integers.specs.Tests.{tests, T_and, and_T, T_or, or_T, same_test}
use Rattle.quadtree.specs.Levels.{start_thrice, start_mono}
use Rattle.quadtree.specs.Renewal.{level_ext, renewed_ext}
use Rattle.layouts.specs.Interleaved.{interleaved_lt, interleaved_any, row_interleaved, column_interleaved}
use Rattle.layouts.specs.Renewed.{quarters_renewed, Chosen, rows_renewed}
use Rattle.places.specs.declared.Parts.{Parts}
use Rattle.places.specs.Parts.{parts_around, place_parts}
use Rattle.renewal.specs.declared.Four.{Four}
use Rattle.renewal.specs.OverPlaces.{either_of, chosen_of, at_corners, over, made_up, four_made_up}
use Rattle.renewal.specs.OverPlaces.{Corners, Rising, RenewAsked}
use Rattle.renewal.specs.Chosen.{start_four, start_one, over_four, corners_up}
use Rattle.renewal.specs.Made.{all_made}

-- ---- rows, or columns
-- whether x is c or one beside it
abbrev near : ℕ → ℕ → Bool
near c x = leb c (x + 1) && leb x (c + 1)

-- of the rows c − 1 to c + 1 on a map of 2m rows, what is over one of them is over the first or the last
module _ (c m a : ℕ) (p : c < 2 * m) (q : a < m) where
  abbrev either : ℕ → Bool
  either = either_of (c - 1) (min (c + 1) (2 * m - 1))

  over_near : T (near c (2 * a) || near c (2 * a + 1)) → (c ≤ 2 * a + 2) × (2 * a ≤ c + 1)
  over_near t = go (T_or (near c (2 * a)) (near c (2 * a + 1)) t)
    where
      go : T (near c (2 * a)) ⊎ T (near c (2 * a + 1)) → (c ≤ 2 * a + 2) × (2 * a ≤ c + 1)
      go (inl t) = let u = T_and (leb c (2 * a + 1)) (leb (2 * a) (c + 1)) t in (omega tests, omega tests)
      go (inr t) = let u = T_and (leb c (2 * a + 1 + 1)) (leb (2 * a + 1) (c + 1)) t in (omega tests, omega tests)

  near_over : c ≤ 2 * a + 2 → 2 * a ≤ c + 1 → T (near c (2 * a) || near c (2 * a + 1))
  near_over s t = or_T (near c (2 * a)) (near c (2 * a + 1)) (go (ℕ_discrete c (2 * a + 2)))
    where
      go : Dec (c ≡ 2 * a + 2) → T (near c (2 * a)) ⊎ T (near c (2 * a + 1))
      go (yes e) = inr (and_T (leb c (2 * a + 1 + 1)) (leb (2 * a + 1) (c + 1)) (omega tests) (omega tests))
      go (no e) = inl (and_T (leb c (2 * a + 1)) (leb (2 * a) (c + 1)) (omega tests) (omega tests))

  over_either : T (either (2 * a) || either (2 * a + 1)) → (c ≤ 2 * a + 2) × (2 * a ≤ c + 1)
  unfolding either_of
  over_either t = go (T_or (either (2 * a)) (either (2 * a + 1)) t)
    where
      at : (x : ℕ) → (x ≡ 2 * a) ⊎ (x ≡ 2 * a + 1)
          → T (eqb x (c - 1)) ⊎ T (eqb x (min (c + 1) (2 * m - 1))) → (c ≤ 2 * a + 2) × (2 * a ≤ c + 1)
      at x (inl e) (inl t) = (omega tests, omega tests)
      at x (inr e) (inl t) = (omega tests, omega tests)
      at x (inl e) (inr t) = (omega tests, omega tests)
      at x (inr e) (inr t) = (omega tests, omega tests)

      go : T (either (2 * a)) ⊎ T (either (2 * a + 1)) → (c ≤ 2 * a + 2) × (2 * a ≤ c + 1)
      go (inl t) = at (2 * a) (inl refl) (T_or (eqb (2 * a) (c - 1)) (eqb (2 * a) (min (c + 1) (2 * m - 1))) t)
      go (inr t) =
          at (2 * a + 1) (inr refl) (T_or (eqb (2 * a + 1) (c - 1)) (eqb (2 * a + 1) (min (c + 1) (2 * m - 1))) t)

  either_over : c ≤ 2 * a + 2 → 2 * a ≤ c + 1 → T (either (2 * a) || either (2 * a + 1))
  unfolding either_of
  either_over s t =
      or_T (either (2 * a)) (either (2 * a + 1))
      (go (ℕ_discrete (c - 1) (2 * a)) (ℕ_discrete (c - 1) (2 * a + 1)) (ℕ_discrete (c + 1) (2 * a)))
    where
      ends : (x : ℕ) → T (eqb x (c - 1)) ⊎ T (eqb x (min (c + 1) (2 * m - 1))) → T (either x)
      ends x u = or_T (eqb x (c - 1)) (eqb x (min (c + 1) (2 * m - 1))) u

      go : Dec (c - 1 ≡ 2 * a) → Dec (c - 1 ≡ 2 * a + 1) → Dec (c + 1 ≡ 2 * a)
          → T (either (2 * a)) ⊎ T (either (2 * a + 1))
      go (yes e) f g = inl (ends (2 * a) (inl (omega tests)))
      go (no e) (yes f) g = inr (ends (2 * a + 1) (inl (omega tests)))
      go (no e) (no f) (yes g) = inl (ends (2 * a) (inr (omega tests)))
      go (no e) (no f) (no g) = inr (ends (2 * a + 1) (inr (omega tests)))

  same_over : (near c (2 * a) || near c (2 * a + 1)) ≡ (either (2 * a) || either (2 * a + 1))
  same_over =
      same_test _ _ (λ t. let u = over_near t in either_over u.0 u.1)
      (λ t. let u = over_either t in near_over u.0 u.1)

-- ---- and, or
and_assoc : (p q s : Bool) → (p && q && s) ≡ (p && (q && s))
and_assoc true q s = refl
and_assoc false q s = refl

and_either : (p s t : Bool) → ((p && s) || (p && t)) ≡ (p && (s || t))
and_either true s t = refl
and_either false s t = refl

either_and : (p q s : Bool) → ((p && s) || (q && s)) ≡ ((p || q) && s)
either_and true q true = refl
either_and true true false = refl
either_and true false false = refl
either_and false q s = refl

four_products : (p q s t : Bool) → ((p && s) || (p && t) || (q && s) || (q && t)) ≡ ((p || q) && (s || t))
four_products true q true t = refl
four_products true q false true = refl
four_products true true false false = refl
four_products true false false false = refl
four_products false true s t = refl
four_products false false s t = refl

-- ---- both
module _ (row column m : ℕ) (p : row < 2 * m) (q : column < 2 * m) where
  abbrev corners : ℕ → ℕ → Bool
  corners = at_corners (row - 1) (min (row + 1) (2 * m - 1)) (column - 1) (min (column + 1) (2 * m - 1))

  near_both : (x y : ℕ) → is_near row column x y ≡ (near row x && near column y)
  unfolding is_near
  near_both x y = and_assoc (near row x) (leb column (y + 1)) (leb y (column + 1))

  over_corners : (a b : ℕ) → a < m → b < m → over_these (is_near row column) a b ≡ over_these corners a b
  unfolding over_these at_corners
  over_corners a b s t =
      let x = 2 * a in
      let y = 2 * b in
      rw (near_both x y, near_both x (y + 1), near_both (x + 1) y, near_both (x + 1) (y + 1))
      (four_products (near row x) (near row (x + 1)) (near column y) (near column (y + 1))
      ∙ ap₂ ◌&&◌ (same_over row m a p s) (same_over column m b q t)
      ∙ sym (four_products (either row m a p s x) (either row m a p s (x + 1)) (either column m b q t y)
      (either column m b q t (y + 1))))

-- only what the levels above are over counts
renewed_over : (k : ℕ) (f g : ℕ → ℕ → Bool) (pyramid : List ℤ)
    → ((a b : ℕ) → a < 2 ^ k → b < 2 ^ k → over_these f a b ≡ over_these g a b)
    → renewed (suc k) f pyramid ≡ renewed (suc k) g pyramid
unfolding renewed
renewed_over k f g pyramid h =
    let cells = drop (start (suc k)) pyramid in
    let level : (ℕ → ℕ → Bool) → ℕ → ℕ → ℤ =
    λ t a b. cond (over_these t a b) (four (in_level (suc k) cells) a b) (entry pyramid k a b) in
    let same : level_of k (level f) ≡ level_of k (level g) =
    level_ext k (level f) (level g) (λ a b p q.
    ap (λ (t : Bool). cond t (four (in_level (suc k) cells) a b) (entry pyramid k a b)) (h a b p q)) in
    ap (λ (l : List ℤ). l ++ cells)
    (renewed_ext k (over_these f) (over_these g) (take (start k) pyramid ++ level_of k (level f)) h
    ∙ ap (λ (l : List ℤ). renewed k (over_these g) (take (start k) pyramid ++ l)) same)

renewed_near : (r row column : ℕ) (pyramid : List ℤ) → row < 2 ^ r → column < 2 ^ r
    → renewed r (at_corners (row - 1) (min (row + 1) (2 ^ r - 1)) (column - 1) (min (column + 1) (2 ^ r - 1))) pyramid
    ≡ renewed r (is_near row column) pyramid
renewed_near zero row column pyramid p q = unfold renewed in refl
renewed_near (suc k) row column pyramid p q =
    let two : 2 ^ suc k ≡ 2 * 2 ^ k = pow-succ' 2 k in
    sym (renewed_over k _ _ pyramid (λ a b s t.
    rw two (over_corners row column (2 ^ k) (rw two at p) (rw two at q) a b s t)))

-- ---- the places of the corners
same_place : (r a b x y : ℕ) → a < 2 ^ r → b < 2 ^ r → x < 2 ^ r → y < 2 ^ r
    → eqb (interleaved r a b) (interleaved r x y) ≡ (eqb a x && eqb b y)
same_place r a b x y p q s t =
    same_test (eqb (interleaved r a b) (interleaved r x y)) (eqb a x && eqb b y)
    (λ h.
    let e : interleaved r a b ≡ interleaved r x y = omega tests in
    let u : a ≡ x = sym (row_interleaved r a b p) ∙ ap (row_of r) e ∙ row_interleaved r x y s in
    let v : b ≡ y = sym (column_interleaved r a b q) ∙ ap (column_of r) e ∙ column_interleaved r x y t in
    and_T (eqb a x) (eqb b y) (omega tests) (omega tests))
    (λ h.
    let w = T_and (eqb a x) (eqb b y) h in
    let u : a ≡ x = omega tests in
    let v : b ≡ y = omega tests in
    let e : interleaved r a b ≡ interleaved r x y = ap₂ (interleaved r) u v in
    omega tests)

module _ (r top low left right : ℕ) (p : top < 2 ^ r) (q : low < 2 ^ r) (s : left < 2 ^ r) (t : right < 2 ^ r) where
  corners_chosen :
      Chosen r
      (chosen_of (interleaved r top left) (interleaved r top right) (interleaved r low left) (interleaved r low right))
      (at_corners top low left right)
  unfolding chosen_of either_of at_corners
  corners_chosen a b u v =
      rw (same_place r a b top left u v p s, same_place r a b top right u v p t)
      (rw (same_place r a b low left u v q s, same_place r a b low right u v q t)
      (ap₂ ◌||◌ (and_either (eqb a top) (eqb b left) (eqb b right))
      (and_either (eqb a low) (eqb b left) (eqb b right))
      ∙ either_and (eqb a top) (eqb a low) (eqb b left || eqb b right)))

-- ---- as the code names them
room_first : (m : ℕ) → m ≤ 7 → 4 * 2 ^ 40 * (2 ^ m * 2 ^ m) ≤ 2 ^ 58
room_first m le =
    let w : 2 ^ m ≤ 2 ^ 7 = pow_mono {i = m} {j = 7} le in
    let n : 2 ^ m * 2 ^ m ≤ 2 ^ 7 * 2 ^ 7 = mul-le-mul w w in
    omega arith

module _ {pyramid : List ℤ} {r : ℕ} {parts : Parts} {row column : ℕ} (h : RenewAsked pyramid r parts row column)
  where
    abbrev top : ℕ
    top = row - 1

    abbrev low : ℕ
    low = min (row + 1) (2 ^ r - 1)

    abbrev left : ℕ
    left = column - 1

    abbrev right : ℕ
    right = min (column + 1) (2 ^ r - 1)

    above_is : parts.above ≡ interleaved 8 top 0
    above_is = ap (λ (p : Parts). p.above) h.parts_are ∙ unfold parts_around in refl

    below_is : parts.below ≡ interleaved 8 low 0
    below_is = ap (λ (p : Parts). p.below) h.parts_are ∙ unfold parts_around in refl

    left_is : parts.left ≡ interleaved 8 0 left
    left_is = ap (λ (p : Parts). p.left) h.parts_are ∙ unfold parts_around in refl

    right_is : parts.right ≡ interleaved 8 0 right
    right_is = ap (λ (p : Parts). p.right) h.parts_are ∙ unfold parts_around in refl

    -- no number is large, and none is 0
    pub parts_few : {cells : ℕ} → cells ≡ start r
        → (1 ≤ cells) × (cells ≤ 21845) × (parts.above < 65536) × (parts.below < 65536) × (parts.left < 65536)
        × (parts.right < 65536)
    parts_few ec = (
      omega (arith, ec, start_one r h.some),
      omega (arith, ec, start_mono r 8 h.whole.most, start_thrice 8),
      omega (arith, above_is, interleaved_lt 8 top 0),
      omega (arith, below_is, interleaved_lt 8 low 0),
      omega (arith, left_is, interleaved_lt 8 0 left),
      omega (arith, right_is, interleaved_lt 8 0 right),
    )

    pub rises : Rising pyramid (r - 1)
    rises =
        let n : suc (suc (r - 1)) ≡ r + 1 = omega (arith, h.some) in
        record {
          most = omega (arith, h.whole.most);
          room = rw (n, h.whole.long) (omega arith);
          bound = 2 ^ 40;
          small = h.small.small;
          spare = room_first (r - 1) (omega (arith, h.whole.most));
        }

    corner : (a b : ℕ) → a < 2 ^ r → b < 2 ^ r → {cells x y : ℕ} → cells ≡ start r
        → x ≡ interleaved 8 a 0 → y ≡ interleaved 8 0 b → cells + x + y ≡ start r + interleaved r a b
    corner a b l m ec ex ey = omega (arith, ec, ex, ey, place_parts 8 a b, interleaved_any r a b h.whole.most l m)

    module _ {cells : ℕ} (ec : cells ≡ start r) where
      abbrev nw : ℕ
      nw = cells + parts.above + parts.left

      abbrev ne : ℕ
      ne = cells + parts.above + parts.right

      abbrev sw : ℕ
      sw = cells + parts.below + parts.left

      abbrev se : ℕ
      se = cells + parts.below + parts.right

      corners_are : Corners r nw ne sw se
      corners_are =
          record {
            top = top;
            low = low;
            left = left;
            right = right;
            top_in = omega (arith, h.above);
            low_in = omega (arith, h.above);
            left_in = omega (arith, h.left);
            right_in = omega (arith, h.left);
            nw_is = corner top left (omega (arith, h.above)) (omega (arith, h.left)) ec above_is left_is;
            ne_is = corner top right (omega (arith, h.above)) (omega (arith, h.left)) ec above_is right_is;
            sw_is = corner low left (omega (arith, h.above)) (omega (arith, h.left)) ec below_is left_is;
            se_is = corner low right (omega (arith, h.above)) (omega (arith, h.left)) ec below_is right_is;
          }

      over_are : Corners (r - 1) (over nw) (over ne) (over sw) (over se)
      over_are =
          let n : r ≡ suc (r - 1) = omega (arith, h.some) in
          let c : Corners (suc (r - 1)) nw ne sw se = rw n at corners_are in
          corners_up (r - 1) c

      abbrev chosen : ℕ → Bool
      chosen =
          chosen_of (interleaved r top left) (interleaved r top right) (interleaved r low left)
          (interleaved r low right)

      -- a corner's place within the level of the cells, and a quarter of it
      within : (a b : ℕ) {x : ℕ} → x ≡ start r + interleaved r a b → over x - start (r - 1) ≡ interleaved r a b / 4
      within a b ex =
          let n : r ≡ suc (r - 1) = omega (arith, h.some) in
          omega (arith, ex, ap start n, start_four (r - 1))

      renewed_all :
          four_made_up (r - 1) (over nw) (over ne) (over sw) (over se) pyramid ≡ quarters_renewed r chosen pyramid
      unfolding corners_are
      renewed_all =
          let c = corners_are in
          let n : r ≡ suc (r - 1) = omega (arith, h.some) in
          let l : length pyramid ≡ start (suc (suc (r - 1))) =
          h.whole.long ∙ ap start (let m : r + 1 ≡ suc (suc (r - 1)) = omega (arith, h.some) in m) in
          let whole = take_all (start (suc (suc (r - 1)))) pyramid (omega (arith, l)) in
          let up =
          over_four (interleaved r top left) (interleaved r top right) (interleaved r low left)
          (interleaved r low right) in
          rw (
            within top left c.nw_is,
            within top right c.ne_is,
            within low left c.sw_is,
            within low right c.se_is,
          )
          (ap (λ (f : ℕ → Bool). made_up (r - 1) f pyramid) (sym up))
          ∙ sym (all_made (r - 1) chosen pyramid (omega (arith, l)))
          ∙ ap₂ ◌++◌ (ap (quarters_renewed (suc (r - 1)) chosen) whole) (drop_all l)
          ∙ append-nil (quarters_renewed (suc (r - 1)) chosen pyramid)
          ∙ ap (λ (k : ℕ). quarters_renewed k chosen pyramid) (sym n)
        where
          drop_all : length pyramid ≡ start (suc (suc (r - 1))) → drop (start (suc (suc (r - 1)))) pyramid ≡ []
          drop_all l = ap (λ (k : ℕ). drop k pyramid) (sym l) ∙ drop-length pyramid

      renewed_corners : {z : List ℤ} → z ≡ four_made_up (r - 1) (over nw) (over ne) (over sw) (over se) pyramid
          → rows_from r z ≡ renewed r (is_near row column) (rows_from r pyramid)
      renewed_corners ez =
          ap (rows_from r) (ez ∙ renewed_all)
          ∙ rows_renewed r chosen (at_corners top low left right) pyramid
          (corners_chosen r top low left right (omega (arith, h.above)) (omega (arith, h.above))
          (omega (arith, h.left)) (omega (arith, h.left)))
          (h.whole.long ∙ ap start (add-one r))
          ∙ renewed_near r row column (rows_from r pyramid) h.above h.left

      -- the four that the code finds over the corners
      module _ {q : Four} (eq : q ≡ record { nw = over nw; ne = over ne; sw = over sw; se = over se }) where
        pub corners_over : Corners (r - 1) q.nw q.ne q.sw q.se
        corners_over = rw eq over_are

        pub renewed_around : {z : List ℤ} → z ≡ four_made_up (r - 1) q.nw q.ne q.sw q.se pyramid
            → rows_from r z ≡ renewed r (is_near row column) (rows_from r pyramid)
        renewed_around ez = renewed_corners (rw eq at ez)
