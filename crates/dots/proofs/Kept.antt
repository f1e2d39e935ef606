-- A dot at a cell of a sound sheet that owes something: the cell is unburnt (`unburnt`, in `Unburnt`) and owes at most
-- one dot (`owed_most`), and the sheet is sound afterwards (`after_sound`).
use Rattle.std.specs.Prelude.{◌≡◌, ◌⊎◌, false, ℕ, suc, ◌+◌, ◌*◌, ◌-◌, ◌^◌, ◌≤◌, ◌<◌, pos, neg_ℤ, ◌-ℤ◌, ◌≤ℤ◌, ◌<ℤ◌}
use Rattle.std.proofs.Math.Path.{refl}
use Rattle.std.proofs.Common.{sym, ap, ap₂, ◌∙◌, inl, inr, arith}
use Rattle.definition.specs.Lists.{sum_to}
use Rattle.definition.specs.Pyramid.{one_dot, entry}
use Rattle.definition.specs.Blocks.{burnt_at}
use Rattle.definition.specs.Diffusion.{Kernel, weight_at}
use Rattle.definition.specs.Model.{Halftone, place_dot}
use Rattle.definition.specs.Sound.{burnt_near, Sound}
use Rattle.definition.specs.Renewal.{is_near}
use Rattle.integers.specs.Linear.{zz, ints, up, up_or_dn, eq_pos_up}
use Rattle.quadtree.specs.Points.{δ, δ_same, hit}
use Rattle.quadtree.specs.Pyramids.{Summed}
use Rattle.shares.specs.Kernels.{Fit}
use Rattle.shares.specs.Neighbours.{spread, fall, fall_away}
use Rattle.shares.proofs.Outflow.{weights_some}
use Rattle.dots.specs.Unburnt.{unburnt}
use Rattle.dots.specs.Placing.{Sized, placed_sized, placed_summed, placed_falls}
use Rattle.dots.specs.Marks.{Ordered, burnt_at_lem, room, ordered'}
use Rattle.dots.specs.Near.{near, burnt_near_is, near_add, spread_near}

pub sound_summed : {r : ℕ} {s : Halftone} → Sound r s → Summed r s.pyramid
sound_summed h = record { sums = h.sums }

sound_ordered : {r : ℕ} {s : Halftone} → Sound r s → Ordered r s.serials s.order s.dots
sound_ordered h = record { in_order = h.in_order; count = h.count; unused = h.unused_zero }

module _ (kernel : Kernel) (fit : Fit kernel) (r : ℕ) (big : 2 ≤ 2 ^ r) (s : Halftone) (sized : Sized r s)
    (sound : Sound r s)
    (row column : ℕ) (i : row < 2 ^ r) (j : column < 2 ^ r) (due : pos 0 <ℤ entry s.pyramid r row column) where
  -- what the cell owes
  abbrev pub owed : ℕ
  owed = up (entry s.pyramid r row column)

  pub owed_is : entry s.pyramid r row column ≡ pos owed
  owed_is = eq_pos_up (entry s.pyramid r row column) (omega ints)

  -- it owes at most one dot (S 3.4)
  pub owed_most : owed ≤ one_dot
  owed_most = omega (ints, sound.at_most row column i j, up_or_dn (entry s.pyramid r row column))

  some : 0 < sum_to 9 (weight_at kernel r row column)
  some = weights_some kernel r row column fit big 0 0 (2 ^ r) (omega arith) (omega arith) (omega arith) (omega arith)

  abbrev pub after : Halftone
  after = place_dot kernel r s (row, column)

  abbrev pub took : ℕ → ℕ → ℕ
  took = fall kernel r row column owed

  pub after_sized : Sized r after
  after_sized = placed_sized kernel r s sized row column owed i j some owed_is owed_most

  -- no residual rises, and the cell's own is then 0 at most
  pub after_falls : (x y : ℕ) → x < 2 ^ r → y < 2 ^ r
      → entry after.pyramid r x y ≡ entry s.pyramid r x y -ℤ pos (took x y)
  after_falls = placed_falls kernel r s sized row column owed i j some owed_is owed_most

  -- away from the cell and its neighbours nothing changes
  pub after_away : (x y : ℕ) → x < 2 ^ r → y < 2 ^ r → is_near row column x y ≡ false
      → entry after.pyramid r x y ≡ entry s.pyramid r x y
  after_away x y p q e =
      after_falls x y p q ∙ rw (fall_away kernel r row column fit.turns owed x y e) (simp zz (omega arith))

  abbrev around : ℕ → ℕ → ℕ
  around = spread kernel r row column (one_dot - owed)

  took_own : (x y : ℕ) → (row ≡ x) × (column ≡ y) → took x y ≡ owed + around x y
  unfolding fall
  took_own x y e = rw (δ_same row x e.0, δ_same column y e.1) (omega arith)

  owed_at : (x y : ℕ) → (row ≡ x) × (column ≡ y) → entry s.pyramid r x y ≡ pos owed
  owed_at x y e = ap₂ (entry s.pyramid r) (sym e.0) (sym e.1) ∙ owed_is

  took_other : (x y : ℕ) → δ row x * δ column y ≡ 0 → took x y ≡ around x y
  unfolding fall
  took_other x y z = rw z (omega arith)

  pub after_burnt : (x y : ℕ) → x < 2 ^ r → y < 2 ^ r
      → burnt_at r after.serials x y ≡ burnt_at r s.serials x y + δ row x * δ column y
  unfolding place_dot
  after_burnt = burnt_at_lem r s.serials s.order s.dots sized.serials sized.order row column i j
      (unburnt kernel fit r big s sized sound row column i j due)

  ordered_after : Ordered r after.serials after.order after.dots
  unfolding place_dot
  ordered_after =
      ordered' r s.serials s.order s.dots sized.serials sized.order row column i j
      (unburnt kernel fit r big s sized sound row column i j due)
      (sound_ordered sound)

  pub after_dots : after.dots ≡ suc s.dots
  unfolding place_dot
  after_dots = refl

  burnt_near_lem : (x y : ℕ)
      → burnt_near r after.serials x y ≡ burnt_near r s.serials x y + near r (λ u v. δ row u * δ column v) x y
  burnt_near_lem x y =
      burnt_near_is r after.serials x y
      ∙ near_add r (burnt_at r after.serials) (burnt_at r s.serials) (λ u v. δ row u * δ column v) x y after_burnt
      ∙ ap (λ (n : ℕ). n + near r (λ u v. δ row u * δ column v) x y) (sym (burnt_near_is r s.serials x y))

  -- the sheet is sound afterwards (S 4.1, S 4.2, S 4.3, S 4.4, S 4.5, S 4.6, S 4.7)
  pub after_sound : Sound r after
  after_sound =
      record {
        few_dots_lem =
            omega (
              arith,
              after_dots,
              room r s.serials s.order s.dots sized.serials sized.order row
                  column i j (unburnt kernel fit r big s sized sound row column i j due) (sound_ordered sound),
            );
        in_order = ordered_after.in_order;
        count = ordered_after.count;
        unused_zero = ordered_after.unused;
        sums = (placed_summed kernel r s sized row column owed i j some owed_is owed_most).sums;
        at_most = λ x y p q. rw (after_falls x y p q) (let h = sound.at_most x y p q in simp zz (omega ints));
        burnt_at_most = λ x y p q e. rw (after_falls x y p q) (spent x y p q e (hit row column x y));
        at_least = λ x y p q. rw (after_falls x y p q) (least x y p q (hit row column x y));
      }
    where
      spent : (x y : ℕ) → x < 2 ^ r → y < 2 ^ r → burnt_at r after.serials x y ≡ 1
          → ((row ≡ x) × (column ≡ y)) ⊎ (δ row x * δ column y ≡ 0)
          → (entry s.pyramid r x y -ℤ pos (took x y)) ≤ℤ pos 0
      spent x y p q e (inl k) = rw (owed_at x y k) (let h = took_own x y k in simp zz (omega ints))
      spent x y p q e (inr z) =
          let h = sound.burnt_at_most x y p q (omega (arith, after_burnt x y p q)) in simp zz (omega ints)

      least : (x y : ℕ) → x < 2 ^ r → y < 2 ^ r → ((row ≡ x) × (column ≡ y)) ⊎ (δ row x * δ column y ≡ 0)
          → neg_ℤ (pos (one_dot * burnt_near r after.serials x y)) ≤ℤ (entry s.pyramid r x y -ℤ pos (took x y))
      least x y p q h = rw (burnt_near_lem x y) (go h)
        where
          close : around x y ≤ one_dot * near r (λ u v. δ row u * δ column v) x y
          close = spread_near kernel fit r row column (one_dot - owed) i j some x y (omega arith)

          go : ((row ≡ x) × (column ≡ y)) ⊎ (δ row x * δ column y ≡ 0)
              → neg_ℤ (pos (one_dot * (burnt_near r s.serials x y + near r (λ u v. δ row u * δ column v) x y)))
              ≤ℤ (entry s.pyramid r x y -ℤ pos (took x y))
          go (inl k) = rw (owed_at x y k) (let e = took_own x y k in let c = close in simp zz (omega ints))
          go (inr z) =
              let e = took_other x y z in
              let m = sound.at_least x y p q in let c = close in simp zz (omega (ints, simp zz at m))
