-- The model's start, on greys that are bytes: a sound sheet (`start_sheet`), with every square's cap and the total
-- (`start_capped`). And what an accepted Load leaves is that start (`loaded_held`).
use Rattle.std.specs.Prelude.{◌≡◌, true, ℕ, zero, suc, ◌+◌, ◌*◌, ◌^◌, ◌≤◌, ◌<◌, length, get_or, take, ℤ}
use Rattle.std.proofs.Math.Path.{refl, ap}
use Rattle.std.proofs.Common.{sym, ◌∙◌, arith, zero-mul, length-take, length-take-le, get_or-take}
use mathlib.Core.List.{List, [], ◌∷◌, ◌++◌}
use Rattle.std.proofs.Math.ListN.{drop, length-replicate, get_or-append}
use Rattle.std.proofs.Math.IntN.{pos}
use Rattle.definition.specs.Answers.{refused}
use Rattle.definition.specs.Pyramid.{cell_count, cell_number, needed, place_in, row_at, column_at, level_of, entry}
use Rattle.definition.specs.Blocks.{grey_at, burnt, burnt_at, grey_sum, grey_total, total_of}
use Rattle.definition.specs.Model.{Halftone, top_of, model_start}
use Rattle.definition.specs.Sound.{Sound}
use Rattle.definition.specs.Refusals.{power_of}
use Rattle.definition.specs.Load.{low_map, load_refusal, loaded, load_of}
use Rattle.definition.specs.Advance.{dots_due}
use Rattle.definition.specs.Quarters.{quarters_from, as_rows, as_quarters}
use Rattle.definition.specs.ByQuarters.{load_by_quarters}
use Rattle.definition.specs.AdvanceList.{held_after_load}
use Rattle.lowering.specs.Low.{low_at, at_low}
use Rattle.integers.specs.Linear.{zz, ints, up_or_dn}
use Rattle.integers.specs.Lists.{get_or_replicate_self, tabulate_ext}
use Rattle.integers.specs.Sums.{sum_to_zero}
use Rattle.refusals.specs.Powers.{side_pow}
use Rattle.refusals.specs.Lowest.{LoadLent, load_none}
use Rattle.quadtree.specs.Areas.{area, area_ext, area_mul, area_zero, block_area}
use Rattle.quadtree.specs.Residues.{area_z, area_z_ext, area_z_pos}
use Rattle.quadtree.specs.Levels.{block_side_lem, cell_lt, place_row_column}
use Rattle.quadtree.specs.Pyramids.{length_level, level_entry, length_pyramid, pyramid_cells, pyramid_summed}
use Rattle.layouts.specs.Lent.{rows_length, rows_drop, as_quarters_part}
use Rattle.dots.specs.Placing.{Sized}
use Rattle.dots.proofs.Kept.{sound_summed}
use Rattle.dots.proofs.Steps.{Sheet, top_area, due_is}
use Rattle.guarantee.specs.PriceList.{Each, Accepted}
use Rattle.guarantee.proofs.Capped.{Capped}
use Rattle.guarantee.proofs.Lent.{held_of}

-- what holds of each element holds at each place, where it holds of the default; and the other way round
pub each_get_or : {A : Type 0} (P : A → Type 0) (l : List A) (d : A)
    → P d → Each P l → (i : ℕ) → P (get_or l i d)
each_get_or P [] d z h i = z
each_get_or P (x ∷ xs) d z h zero = h.0
each_get_or P (x ∷ xs) d z h (suc i) = each_get_or P xs d z h.1 i

pub each_of : {A : Type 0} (P : A → Type 0) (l : List A) (d : A)
    → ((i : ℕ) → i < length l → P (get_or l i d)) → Each P l
each_of P [] d h = tt
each_of P (x ∷ xs) d h = (h 0 (omega arith), each_of P xs d (λ i k. h (suc i) (omega arith)))

pub grey_byte : (greys : List ℕ) → Each (λ grey. grey ≤ 255) greys → (i : ℕ) → get_or greys i 0 ≤ 255
grey_byte greys bytes i = each_get_or (λ grey. grey ≤ 255) greys 0 (omega arith) bytes i

-- the sum of all greys, as a sum over the map
pub total_area : (r : ℕ) (greys : List ℕ) → grey_total r greys ≡ area 0 0 (2 ^ r) (grey_at r greys)
unfolding grey_total grey_sum
total_area r greys = block_area r (grey_at r greys) 0 0 0 ∙ rw (block_side_lem r r 0 (omega arith), zero-mul)

-- its pyramid has the needed length
pub start_long : (r : ℕ) (greys : List ℕ) → length (model_start r greys).pyramid ≡ needed r
unfolding model_start
start_long r greys =
    length_pyramid r (level_of r (λ row column. pos (256 * grey_at r greys row column)))
    (length_level r (λ row column. pos (256 * grey_at r greys row column)))

module _ (r : ℕ) (greys : List ℕ) (bytes : Each (λ grey. grey ≤ 255) greys) where
  abbrev fresh : Halftone
  fresh = model_start r greys

  abbrev cells : List ℤ
  cells = level_of r (λ row column. pos (256 * grey_at r greys row column))

  fresh_entry : (x y : ℕ) → x < 2 ^ r → y < 2 ^ r → entry fresh.pyramid r x y ≡ pos (256 * grey_at r greys x y)
  unfolding model_start
  fresh_entry x y p q =
      pyramid_cells r cells x y ∙ level_entry r (λ row column. pos (256 * grey_at r greys row column)) x y p q

  fresh_burnt : (x y : ℕ) → burnt_at r fresh.serials x y ≡ 0
  unfolding model_start burnt_at burnt
  fresh_burnt x y = ap burnt (get_or_replicate_self (cell_count r) (cell_number r x y) 0)

  grey_le : (x y : ℕ) → grey_at r greys x y ≤ 255
  unfolding grey_at
  grey_le x y = grey_byte greys bytes (cell_number r x y)

  start_sized : Sized r fresh
  unfolding model_start
  start_sized =
      record {
        pyramid = start_long r greys;
        serials = length-replicate (cell_count r) 0;
        order = length-replicate (cell_count r) 0;
      }

  start_sound : Sound r fresh
  unfolding model_start burnt
  start_sound =
      record {
        few_dots_lem = omega arith;
        in_order = λ j h k. absurd (omega arith);
        count = sum_to_zero (cell_count r) _ (λ m k. ap burnt (get_or_replicate_self (cell_count r) m 0));
        unused_zero = λ m h k. get_or_replicate_self (cell_count r) m 0;
        sums = (pyramid_summed r cells).sums;
        at_most = λ x y p q. rw (fresh_entry x y p q) (omega (ints, grey_le x y));
        burnt_at_most = λ x y p q e. absurd (omega (arith, fresh_burnt x y, e));
        at_least = λ x y p q. rw (fresh_entry x y p q) (simp zz (omega arith));
      }

  pub start_sheet : Sheet r fresh
  start_sheet = record { sized = start_sized; sound = start_sound }

  -- no cell is burnt, and the residuals are 256 × grey
  fresh_residue : (p q n : ℕ) → p + n ≤ 2 ^ r → q + n ≤ 2 ^ r
      → area_z p q n (entry fresh.pyramid r) ≡ pos (256 * area p q n (grey_at r greys))
  fresh_residue p q n low wide =
      area_z_ext p q n _ (λ x y. pos (256 * grey_at r greys x y))
      (λ x y i j. fresh_entry x y (omega arith) (omega arith))
      ∙ area_z_pos p q n (λ x y. 256 * grey_at r greys x y)
      ∙ ap pos (area_mul p q n 256 (grey_at r greys))

  fresh_area : (p q n : ℕ) → area p q n (burnt_at r fresh.serials) ≡ 0
  fresh_area p q n = area_ext p q n _ (λ x y. 0) (λ x y i j. fresh_burnt x y) ∙ area_zero p q n

  pub start_dots : fresh.dots ≡ 0
  unfolding model_start
  start_dots = refl

  pub start_capped : Capped r greys fresh
  start_capped =
      record {
        flow = λ p q n low wide. rw (fresh_residue p q n low wide, fresh_area p q n) (simp zz (omega arith));
        cap = λ j k a b e u v. omega (arith, fresh_area (a * 2 ^ j) (b * 2 ^ j) (2 ^ j));
        total =
            rw (
              start_dots,
              top_area r fresh.pyramid (sound_summed start_sound),
              fresh_residue 0 0 (2 ^ r)
                  (omega arith) (omega arith),
              total_area r greys,
            )
            (simp zz (omega arith));
      }

  -- at the start, the dots due are the total (S 15.3)
  pub start_due : fresh.dots + dots_due (top_of fresh.pyramid) ≡ total_of (grey_total r greys)
  start_due =
      let t = top_of fresh.pyramid in
      let h = start_capped.total in
      omega (ints, due_is t, up_or_dn t, start_dots, simp zz at h)

-- ---- what lies behind the map's greys does not matter
module _ (r : ℕ) (values rest : List ℕ) (enough : cell_count r ≤ length values) where
  grey_front : (x y : ℕ) → cell_number r x y < cell_count r → grey_at r (values ++ rest) x y ≡ grey_at r values x y
  unfolding grey_at
  grey_front x y h = get_or-append values rest 0 (cell_number r x y) (omega arith)

  -- what the model's start has at place i of the cells
  abbrev residual : List ℕ → ℕ → ℤ
  residual greys i = pos (256 * grey_at r greys (row_at r i) (column_at r i))

  pub start_front : model_start r (values ++ rest) ≡ model_start r values
  unfolding model_start level_of place_in
  start_front =
      rw
      (tabulate_ext (cell_count r) (residual (values ++ rest)) (residual values)
      (λ i h.
      ap (λ (g : ℕ). pos (256 * g))
      (grey_front (row_at r i) (column_at r i) (omega (arith, place_row_column r i)))))

  pub total_front : grey_total r (values ++ rest) ≡ grey_total r values
  total_front =
      total_area r (values ++ rest)
      ∙ area_ext 0 0 (2 ^ r) _ _ (λ x y u v. grey_front x y (cell_lt (2 ^ r) x y (omega arith) (omega arith)))
      ∙ sym (total_area r values)

-- ---- low greys: each cell of the map has at most 240, and the other way round
pub low_map_at : (r : ℕ) (greys : List ℕ) → low_map r greys ≡ true → cell_count r ≤ length greys
    → (i : ℕ) → i < cell_count r → get_or greys i 0 ≤ 240
unfolding low_map
low_map_at r greys e enough i h =
    rw (get_or-take (cell_count r) greys i 0 h) at
    (low_at (take (cell_count r) greys) e i (omega (arith, length-take-le (cell_count r) greys enough)))

pub at_low_map : (r : ℕ) (greys : List ℕ) → ((i : ℕ) → i < cell_count r → get_or greys i 0 ≤ 240)
    → low_map r greys ≡ true
unfolding low_map
at_low_map r greys low =
    at_low (take (cell_count r) greys)
    (λ i h.
    let k : i < cell_count r = omega (arith, length-take (cell_count r) greys) in
    rw (get_or-take (cell_count r) greys i 0 k) (low i k))

-- ---- Load
-- what an accepted Load was lent
pub record Loaded (side knit : ℕ) (greys : List ℕ) (pyramid : List ℤ) (serials order : List ℕ) : Type 0 where
  pub none : load_refusal (power_of side) knit (length greys) (length pyramid) (length serials) (length order)
      (low_map (power_of side) greys) ≡ 0
  pub lent : LoadLent (power_of side) knit (length greys) (length pyramid) (length serials) (length order)
  pub low : low_map (power_of side) greys ≡ true
  pub side_is : side ≡ 2 ^ power_of side

module _ (side knit : ℕ) (greys : List ℕ) (pyramid : List ℤ) (serials order : List ℕ) where
  abbrev refusal : ℕ
  refusal =
      load_refusal (power_of side) knit (length greys) (length pyramid) (length serials) (length order)
      (low_map (power_of side) greys)

  pub accepted_loaded : Accepted side knit greys pyramid serials order → Loaded side knit greys pyramid serials order
  accepted_loaded h =
      let z = go refusal refl in
      let l = (load_none (power_of side) knit (length greys) (length pyramid) (length serials) (length order)
      (low_map (power_of side) greys)).0 z in
      record { none = z; lent = l.0; low = l.1; side_is = side_pow side l.0.power }
    where
      said_no : (n : ℕ) → refusal ≡ suc n
          → (load_by_quarters side knit greys pyramid serials order).said ≡ refused (suc n)
      said_no n e = unfold load_by_quarters load_of in rw (rows_length (power_of side) pyramid, e, load_of)

      go : (k : ℕ) → refusal ≡ k → refusal ≡ 0
      go zero e = e
      go (suc n) e = let s = said_no n e in let t = h.said in let z : ◌≡◌ {A = ℕ} 0 1 = cc in absurd (omega arith)

  -- it leaves the model's start (S 3.9) in front of what lay past the needed lengths (S 2.9)
  pub loaded_held : Loaded side knit greys pyramid serials order → held_after_load side knit greys pyramid serials order
      ≡ held_of knit (power_of side) (model_start (power_of side) greys) (drop (needed (power_of side)) pyramid)
      (drop (cell_count (power_of side)) serials) (drop (cell_count (power_of side)) order)
  unfolding held_after_load load_by_quarters load_of loaded model_start
  loaded_held h =
      let r = power_of side in
      let fresh = model_start r greys in
      let by_quarters : as_quarters r (fresh.pyramid ++ drop (needed r) (as_rows r pyramid))
      ≡ quarters_from r fresh.pyramid ++ drop (needed r) pyramid
      = ap (λ (l : List ℤ). as_quarters r (fresh.pyramid ++ l)) (rows_drop r pyramid)
      ∙ as_quarters_part r fresh.pyramid (drop (needed r) pyramid) (start_long r greys) in
      rw (rows_length r pyramid, h.none, load_of)
      (λ i.
      record {
        progress = record { side = h.side_is i; dots = 0; knit = knit };
        pyramid = by_quarters i;
        serials = fresh.serials ++ drop (cell_count (power_of side)) serials;
        order = fresh.order ++ drop (cell_count (power_of side)) order;
      })
