-- All levels summed up over level k of a part l, from the bottom up (`back_done`). One turn: level k − 1, which begins
-- at `up`, is lent with all after it and comes back filled; then what lies before level k, which begins at `off`, is
-- summed up.
use Rattle.std.specs.Prelude.{◌≡◌, length, get_or, take, drop, ℤ, pos}
use Rattle.std.proofs.Common.{sym, ◌∙◌, le-mul_of_pos_right, mul-pos, mul-le-mul, pow_pos, pow_mono, length-drop}
use Rattle.std.proofs.Common.{length-append, get_or-drop, length-take-le, drop-drop, take_at, drop_at}
use Rattle.std.proofs.Math.Path.{ap, ap₂}
use mathlib.Core.List.{List, ◌++◌, append_assoc}
use Prim.Native.Nat.{ℕ, suc, ◌+◌, ◌*◌, ◌-◌, ◌^◌, ◌≤◌, ◌<◌}
use native.Mathlib.Omega.{arith}
use Rattle.std.proofs.Math.Decide.{dec_lt}
use Rattle.std.proofs.Math.ListN.{get_or-eq_default}
use Rattle.definition.specs.Pyramid.{cell_count, start}
use Rattle.integers.specs.Lists.{length_tabulate, get_d_tabulate}
use Rattle.quadtree.specs.Levels.{start_suc, quadruple}
use Rattle.layouts.specs.Sums.{four_from, coarser_from, quarters_over}
use Rattle.pyramid.specs.PyramidPart.{Within, SumsAsked, Whole, SmallCells}
use Rattle.pyramid.specs.Four.{within_four, within_mono}
use Rattle.pyramid.specs.Small.{zero_within}
use Rattle.pyramid.specs.Turn.{tail_lent, tail_back, room_above}

-- ---- sums stay within four times the bound
length_coarser : (m : ℕ) (cells : List ℤ) → length (coarser_from m cells) ≡ cell_count m
unfolding coarser_from
length_coarser m cells = length_tabulate 0 (cell_count m) (four_from cells)

coarser_within : (m : ℕ) (cells : List ℤ) (bound : ℕ) → ((i : ℕ) → Within bound (get_or cells i (pos 0)))
    → (i : ℕ) → Within (4 * bound) (get_or (coarser_from m cells) i (pos 0))
unfolding coarser_from four_from
coarser_within m cells bound h i = go (dec_lt i (cell_count m))
  where
    go : Dec (i < cell_count m) → Within (4 * bound) (get_or (coarser_from m cells) i (pos 0))
    go (yes lt) =
        rw (get_d_tabulate (cell_count m) (four_from cells) i (pos 0) lt)
        (within_four bound _ _ _ _ (h (4 * i)) (h (4 * i + 1)) (h (4 * i + 2)) (h (4 * i + 3)))
    go (no ge) =
        rw (get_or-eq_default (coarser_from m cells) (pos 0) {n = i} (omega (arith, length_coarser m cells)))
        (zero_within (4 * bound))

-- ---- the turn
module _ (l : List ℤ) (k up : ℕ) (w : Whole l k) (h : SmallCells l k) (some : 0 < k)
    (at_up : up ≡ start (k - 1)) where
  abbrev m : ℕ
  m = k - 1

  start_k : start k ≡ start m + cell_count m
  start_k = let z : k ≡ suc m = omega arith in ap start z ∙ start_suc m

  turn_long : length l ≡ start m + (cell_count m + 4 * cell_count m)
  turn_long =
      let z : k + 1 ≡ suc (suc m) = omega arith in
      w.long ∙ ap start z ∙ omega (arith, start_suc (suc m), start_suc m, quadruple m)

  pub up_in : up ≤ length l
  up_in = omega (arith, turn_long)

  lent_is : take (length l - up) (drop up l) ≡ drop (start m) l
  lent_is = tail_lent up l ∙ ap (λ (n : ℕ). drop n l) at_up

  cells_behind : drop (cell_count m) (drop (start m) l) ≡ drop (start k) l
  cells_behind = drop-drop (cell_count m) (start m) l ∙ ap (λ (n : ℕ). drop n l) (sym start_k)

  small_cells : (i : ℕ) → Within h.bound (get_or (drop (start k) l) i (pos 0))
  small_cells i = rw (get_or-drop (start k) l i (pos 0)) (h.small i)

  pub level_asked : SumsAsked (take (length l - up) (drop up l)) (cell_count (k - 1))
  level_asked =
      let few : h.bound ≤ 2 ^ 60 =
      omega (arith, h.room, le-mul_of_pos_right h.bound (mul-pos (pow_pos k) (pow_pos k))) in
      rw lent_is
      (record {
        some = mul-pos (pow_pos m) (pow_pos m);
        most = let le : 2 ^ m ≤ 128 = pow_mono {i = m} {j = 7} (omega (arith, w.most)) in mul-le-mul le le;
        whole = omega (arith, turn_long, length-drop (start m) l);
        small = λ i.
            within_mono h.bound (2 ^ 60) _ few
            (rw (← get_or-drop (cell_count m) (drop (start m) l) i (pos 0), cells_behind) (small_cells i));
      })

  -- when the level has come back filled
  module _ {e : List ℤ}
      (q : e ≡ coarser_from (k - 1) (drop (cell_count (k - 1)) (take (length l - up) (drop up l)))
      ++ drop (cell_count (k - 1)) (take (length l - up) (drop up l))) where
    abbrev back : List ℤ
    back = take up l ++ (e ++ drop (length l - up) (drop up l))

    abbrev sums : List ℤ
    sums = coarser_from m (drop (start k) l)

    -- what then lies before level k
    abbrev head : List ℤ
    head = take (start m) l ++ sums

    above_long : length (take (start m) l) ≡ start m
    above_long = length-take-le (start m) l (omega (arith, turn_long))

    head_long : length head ≡ start k
    head_long =
        omega (arith, length-append (take (start m) l) sums, above_long, length_coarser m (drop (start k) l), start_k)

    back_split : back ≡ head ++ drop (start k) l
    back_split =
        tail_back up l e
        ∙ rw (q, lent_is, cells_behind, at_up) (sym (append_assoc (take (start m) l) sums (drop (start k) l)))

    module _ (off : ℕ) (at_off : off ≡ start k) where
      pub off_in : off ≤ length back
      off_in = rw back_split (omega (arith, head_long, length-append head (drop (start k) l)))

      pub length_off : off ≡ length (take off back)
      length_off = sym (length-take-le off back off_in)

      take_off : take off back ≡ head
      take_off = ap (take off) back_split ∙ take_at head (drop (start k) l) off (head_long ∙ sym at_off)

      drop_off : drop off back ≡ drop (start k) l
      drop_off = ap (drop off) back_split ∙ drop_at head (drop (start k) l) off (head_long ∙ sym at_off)

      pub next_whole : Whole (take off back) (k - 1)
      next_whole =
          let z : k ≡ k - 1 + 1 = omega arith in
          record { most = omega (arith, w.most); long = ap length take_off ∙ head_long ∙ ap start z }

      ends_so : drop (start m) (take off back) ≡ sums
      ends_so = ap (drop (start m)) take_off ∙ drop_at (take (start m) l) sums (start m) above_long

      pub next_small : SmallCells (take off back) (k - 1)
      next_small =
          record {
            bound = 4 * h.bound;
            small = λ i.
                rw (← get_or-drop (start m) (take off back) i (pos 0), ends_so)
                (coarser_within m (drop (start k) l) h.bound small_cells i);
            room = room_above h.bound k some h.room;
          }

      pub back_done : {z : List ℤ} → z ≡ quarters_over (k - 1) (drop (start (k - 1)) (take off back))
          → z ++ drop off back ≡ quarters_over k (drop (start k) l)
      unfolding quarters_over
      back_done {z} s =
          let n : suc (k - 1) ≡ k = omega arith in
          ap₂ ◌++◌ (s ∙ ap (quarters_over (k - 1)) ends_so) drop_off
          ∙ ap (λ (j : ℕ). quarters_over j (drop (start k) l)) n

pub nothing_above : (l : List ℤ) (k : ℕ) → k ≤ 0 → l ≡ quarters_over k (drop (start k) l)
unfolding quarters_over start
nothing_above l k h = let z : k ≡ 0 = omega arith in rw z
