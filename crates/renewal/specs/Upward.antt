-- The ways up: four places from level to level until they are one (`Climbing`, `climbed`), and then that one to the top
-- (`Carrying`, `carried_up`).
use Rattle.std.specs.Prelude.{◌≡◌, Bool, List, length, set, ℤ}
use Rattle.std.proofs.Common.{sym, ap, ◌∙◌, le-mul_of_pos_right, mul-pos, pow_pos, length-set}
use Rattle.std.proofs.Math.Path.{ap₂}
use Prim.Native.Nat.{ℕ, suc, ◌+◌, ◌*◌, ◌-◌, ◌/◌, ◌^◌, ◌≤◌, ◌<◌}
use native.Mathlib.Omega.{arith}
use Rattle.std.proofs.Math.Decide.{dec_lt}
use Rattle.definition.specs.Pyramid.{start}
use Rattle.definition.specs.Quarters.{interleaved}
use Rattle.integers.specs.Tests.{cond_both}
use Rattle.quadtree.specs.Levels.{start_thrice, start_suc, start_mono, quadruple}
use Rattle.layouts.specs.Interleaved.{interleaved_lt}
use Rattle.pyramid.specs.PyramidPart.{four_at, Within}
use Rattle.pyramid.specs.Four.{within_four, within_mono}
use Rattle.renewal.specs.declared.Four.{Four}
use Rattle.renewal.specs.OverPlaces.{chosen_of, at, below, over, made, made_up, four_made_up, four_renewed}
use Rattle.renewal.specs.OverPlaces.{AtAsked, FourPlaces, CarryAsked, Corners, Rising, InLevel}
use Rattle.renewal.specs.Chosen.{start_four, start_one, over_four, corners_up, nw_at, ne_at, sw_at, se_at}
use Rattle.renewal.specs.Chosen.{joined_ne, joined_sw}
use Rattle.renewal.specs.Made.{made_long, made_before, made_level, made_after, four_made, one_made}

-- ---- a pyramid that is to be renewed from level k on
module _ {z : List ℤ} {k : ℕ} (h : Rising z k) where
  room_here : start (suc k) ≤ length z
  room_here = omega (arith, h.room, start_suc (suc k))

  bound_few : 4 * h.bound ≤ 2 ^ 58
  bound_few = omega (arith, h.spare, le-mul_of_pos_right (4 * h.bound) (mul-pos (pow_pos k) (pow_pos k)))

  small_here : (i : ℕ) → Within (2 ^ 58) (at z i)
  small_here i = within_mono h.bound (2 ^ 58) _ (omega (arith, bound_few)) (h.small i)

  sum_within : (i : ℕ) → Within (4 * h.bound) (below z i)
  unfolding four_at
  sum_within i =
      let o = 4 * i + 1 in
      within_four h.bound _ _ _ _ (h.small o) (h.small (o + 1)) (h.small (o + 2)) (h.small (o + 2 + 1))

  sum_few : (i : ℕ) → Within (2 ^ 58) (below z i)
  sum_few i = within_mono (4 * h.bound) (2 ^ 58) _ bound_few (sum_within i)

  -- an entry of level k, or of one above it, has four below it
  at_asked : (i : ℕ) → i < start (suc k) → AtAsked z i
  at_asked i lt =
      let small : (j : ℕ) → Within (2 ^ 60) (at z j) =
      λ j. within_mono (2 ^ 58) (2 ^ 60) _ (omega arith) (small_here j) in
      record {
        few = omega (arith, start_mono (suc k) 8 (omega (arith, h.most)), start_thrice 8);
        four =
            record {
              room = omega (arith, h.room, start_four (suc k));
              first = small (4 * i + 1);
              second = small (4 * i + 1 + 1);
              third = small (4 * i + 1 + 2);
              fourth = small (4 * i + 1 + 2 + 1);
            };
      }

  -- with level k made, nothing is large
  module _ (chosen : ℕ → Bool) where
    made_small : (i : ℕ) → Within (4 * h.bound) (at (made k chosen z) i)
    made_small i = outer (dec_lt i (start k))
      where
        old : Within (4 * h.bound) (at z i)
        old = within_mono h.bound (4 * h.bound) _ (omega arith) (h.small i)

        inner : start k ≤ i → Dec (i < start (suc k)) → Within (4 * h.bound) (at (made k chosen z) i)
        inner le (yes m) =
            let j = i - start k in
            let e : start k + j ≡ i = omega arith in
            let lt : j < 2 ^ k * 2 ^ k = omega (arith, start_suc k) in
            rw (← e, made_level k chosen z room_here j lt)
            (cond_both (Within (4 * h.bound)) (chosen j) _ _ (λ t. sum_within (start k + j)) (λ t. rw e old))
        inner le (no m) = rw (made_after k chosen z room_here i (omega arith)) old

        outer : Dec (i < start k) → Within (4 * h.bound) (at (made k chosen z) i)
        outer (yes m) = rw (made_before k chosen z room_here i m) old
        outer (no m) = inner (omega arith) (dec_lt i (start (suc k)))

-- one level further up
rising_on : {z : List ℤ} {m : ℕ} (h : Rising z (suc m)) (chosen : ℕ → Bool) → Rising (made (suc m) chosen z) m
rising_on {z} {m} h chosen =
    record {
      most = omega (arith, h.most);
      room =
          omega (arith, made_long (suc m) chosen z (room_here h), h.room, start_suc (suc (suc m)));
      bound = 4 * h.bound;
      small = made_small h chosen;
      spare = omega (arith, h.spare, ap (λ (n : ℕ). 4 * h.bound * n) (quadruple m));
    }

-- the places over places of level m + 1, within their levels
over_in : {m i : ℕ} → InLevel (suc m) i → InLevel m (over i)
over_in {m} {i} h =
    record {
      from = omega (arith, h.from, start_four m);
      to = omega (arith, h.to, start_four (suc m), start_four m);
    }

over_part : {m i : ℕ} → InLevel (suc m) i → over i - start m ≡ (i - start (suc m)) / 4
over_part {m} {i} h = omega (arith, h.from, start_four m)

module _ (m : ℕ) (z : List ℤ) (nw ne sw se : ℕ) (nw_in : InLevel (suc m) nw) (ne_in : InLevel (suc m) ne)
    (sw_in : InLevel (suc m) sw) (se_in : InLevel (suc m) se) where
  abbrev chosen : ℕ → Bool
  chosen =
      chosen_of (nw - start (suc m)) (ne - start (suc m)) (sw - start (suc m)) (se - start (suc m))

  made_on : four_made_up m (over nw) (over ne) (over sw) (over se) (made (suc m) chosen z)
      ≡ four_made_up (suc m) nw ne sw se z
  unfolding made_up
  made_on =
      rw (over_part nw_in, over_part ne_in, over_part sw_in, over_part se_in)
      (ap (λ (f : ℕ → Bool). made_up m f (made (suc m) chosen z))
      (sym (over_four (nw - start (suc m)) (ne - start (suc m)) (sw - start (suc m)) (se - start (suc m)))))

-- ---- one place, up to the top: z is the pyramid by then, and `sum` the new sum of entry i, not yet stored
pub record Carrying (p : List ℤ) (level place : ℕ) (z : List ℤ) (k i : ℕ) (sum : ℤ) : Type 0 where
  pub rising : Rising z k
  pub inside : InLevel k i
  pub sum_is : sum ≡ below z i
  pub left : four_made_up k i i i i z ≡ four_made_up level place place place place p
  pub long : length z ≡ length p

pub place_asked : {p : List ℤ} {k i : ℕ} → Rising p k → InLevel k i → AtAsked p i
place_asked {i = i} h l = at_asked h i l.to

module _ {p z : List ℤ} {level place k i : ℕ} {sum : ℤ} (g : Carrying p level place z k i sum) where
  sum_here : Within (2 ^ 58) sum
  sum_here = rw g.sum_is (sum_few g.rising i)

  place_room : i < length z
  place_room = omega (arith, g.inside.to, room_here g.rising)

  place_few : i ≤ 21845
  place_few = omega (arith, g.inside.to, start_mono (suc k) 8 (omega (arith, g.rising.most)), start_thrice 8)

  pub top_in : 0 < length z
  top_in = omega (arith, place_room)

  module _ (some : 0 < k) where
    pub place_some : 1 ≤ i
    place_some = omega (arith, g.inside.from, start_one k some)

    pub carry_asked : CarryAsked z i sum
    carry_asked =
        record {
          some = place_some;
          few = omega (arith, place_few);
          room = place_room;
          over_asked = at_asked g.rising (over i) (omega (arith, g.inside.to));
          small = small_here g.rising;
          sum_small = sum_here;
        }

    carry_on : {y : List ℤ} {next : ℤ} → (y ≡ set z i sum) × (next ≡ below (set z i sum) (over i))
        → Carrying p level place y (k - 1) (over i) next
    carry_on {y} q =
        let m = k - 1 in
        let e : k ≡ suc m = omega arith in
        let rising : Rising z (suc m) = rw e at g.rising in
        let inside : InLevel (suc m) i = rw e at g.inside in
        let left : four_made_up (suc m) i i i i z ≡ four_made_up level place place place place p = rw e at g.left in
        let j = i - start (suc m) in
        let stored : y ≡ made (suc m) (chosen_of j j j j) z =
        q.0 ∙ ap (set z i) g.sum_is ∙ one_made (suc m) z (room_here rising) i inside in
        record {
          rising = rw stored (rising_on rising (chosen_of j j j j));
          inside = over_in inside;
          sum_is = q.1 ∙ ap (λ (l : List ℤ). below l (over i)) (sym q.0);
          left = rw stored (made_on m z i i i i inside inside inside inside ∙ left);
          long = rw q.0 (length-set z i sum ∙ g.long);
        }

    -- as the code counts and finds them
    pub carried_on : {y : List ℤ} {next : ℤ} {m j : ℕ} → m ≡ k - 1 → j ≡ over i
        → (y ≡ set z i sum) × (next ≡ below (set z i sum) (over i)) → Carrying p level place y m j next
    carried_on em ej q = rw (em, ej) (carry_on q)

  -- at the top the last sum is stored
  module _ (none : k ≤ 0) where
    pub carried_up : set z 0 sum ≡ four_made_up level place place place place p
    unfolding made_up
    carried_up =
        let e : k ≡ 0 = omega arith in
        let rising : Rising z 0 = rw e at g.rising in
        let inside : InLevel 0 i = rw e at g.inside in
        let left : four_made_up 0 i i i i z ≡ four_made_up level place place place place p = rw e at g.left in
        let top : 0 ≡ i = omega (arith, inside.to, start_thrice 1) in
        ap₂ (set z) top g.sum_is ∙ one_made 0 z (room_here rising) i inside ∙ left

-- ---- four places, until they are one
pub record Climbing (p : List ℤ) (level a b c d : ℕ) (z : List ℤ) (k nw ne sw se : ℕ) : Type 0 where
  pub rising : Rising z k
  pub corners : Corners k nw ne sw se
  pub left : four_made_up k nw ne sw se z ≡ four_made_up level a b c d p
  pub long : length z ≡ length p

module _ {p z : List ℤ} {level a b c d k nw ne sw se : ℕ} (g : Climbing p level a b c d z k nw ne sw se) where
  module _ (apart : nw ≡ se → ⊥) where
    -- what has not joined is below the top
    pub climb_some : 1 ≤ k
    climb_some = go (dec_lt 0 k)
      where
        one : (a b : ℕ) → k ≡ 0 → interleaved k a b ≡ 0
        one a b e = omega (arith, interleaved_lt k a b, ap (λ (n : ℕ). 2 ^ n * 2 ^ n) e)

        go : Dec (0 < k) → 0 < k
        go (yes l) = l
        go (no l) =
            let e : k ≡ 0 = omega arith in
            let h = g.corners in
            absurd (apart (omega (arith, h.nw_is, h.se_is, one h.top h.left e, one h.low h.right e)))

    pub places_some : (1 ≤ nw) × (1 ≤ ne) × (1 ≤ sw) × (1 ≤ se)
    places_some =
        let s = start_one k climb_some in
        let h = g.corners in (
          omega (arith, (nw_at h).from),
          omega (arith, (ne_at h).from),
          omega (arith, (sw_at h).from),
          omega (arith, (se_at h).from),
        )

    pub four_asked : FourPlaces z nw ne sw se
    four_asked =
        let h = g.corners in
        let m = k - 1 in
        record {
          first = start k;
          end = start (suc k);
          few = omega (arith, start_mono (suc k) 8 (omega (arith, g.rising.most)), start_thrice 8);
          apart = omega (arith, start_four k);
          room = omega (arith, g.rising.room, start_four (suc k));
          small = λ i le. within_mono (2 ^ 58) (2 ^ 60) _ (omega arith) (small_here g.rising i);
          nw_in = ((nw_at h).from, (nw_at h).to);
          ne_in = ((ne_at h).from, (ne_at h).to);
          sw_in = ((sw_at h).from, (sw_at h).to);
          se_in = ((se_at h).from, (se_at h).to);
        }

    climb_on : {y : List ℤ} → y ≡ four_renewed z nw ne sw se
        → Climbing p level a b c d y (k - 1) (over nw) (over ne) (over sw) (over se)
    climb_on {y} q =
        let m = k - 1 in
        let e : k ≡ suc m = omega (arith, climb_some) in
        let rising : Rising z (suc m) = rw e at g.rising in
        let h : Corners (suc m) nw ne sw se = rw e at g.corners in
        let left : four_made_up (suc m) nw ne sw se z ≡ four_made_up level a b c d p = rw e at g.left in
        let stored : y ≡ made (suc m) (chosen m z nw ne sw se (nw_at h) (ne_at h) (sw_at h) (se_at h)) z =
        q ∙ four_made (suc m) z (room_here rising) nw ne sw se (nw_at h) (ne_at h) (sw_at h) (se_at h) in
        record {
          rising = rw stored (rising_on rising _);
          corners = corners_up m h;
          left = rw stored (made_on m z nw ne sw se (nw_at h) (ne_at h) (sw_at h) (se_at h) ∙ left);
          long = rw stored (made_long (suc m) _ z (room_here rising) ∙ g.long);
        }

    pub climbed_on : {y : List ℤ} {q : Four} → y ≡ four_renewed z nw ne sw se
        → q ≡ record { nw = over nw; ne = over ne; sw = over sw; se = over se }
        → Climbing p level a b c d y (k - 1) q.nw q.ne q.sw q.se
    climbed_on e eq = rw eq (climb_on e)

  -- joined
  pub climb_rising : Rising z k
  climb_rising = g.rising

  pub climb_inside : InLevel k nw
  climb_inside = nw_at g.corners

  module _ (joined : nw ≡ se) where
    pub climbed : {y : List ℤ} → y ≡ four_made_up k nw nw nw nw z → y ≡ four_made_up level a b c d p
    climbed e =
        let h = g.corners in
        e ∙ rw (joined_ne h joined, joined_sw h joined, ← joined) at g.left
