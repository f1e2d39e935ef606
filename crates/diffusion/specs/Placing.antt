-- What placing a dot rests on: the cell's residual is read, what it lacks of a dot is no negative number (`lack_sign`),
-- and the diffusion is asked for just that (`lack_asked`, `burnt`).
use Rattle.std.specs.Prelude.{◌≡◌, List, ℕ, ◌*◌, ◌^◌, ◌≤◌, ◌<◌, T, length, get_or, set, ℤ, pos, nat_abs, ◌-ℤ◌, ◌≤ℤ◌}
use Rattle.std.proofs.Common.{◌∙◌, arith, length-set, Fits, SFits, to_z, of_z, to_z-of_z}
use Rattle.std.specs.Int.Signed.{non_neg}
use Rattle.std.specs.Int.{w64}
use Rattle.definition.specs.Pyramid.{place_in, in_level, one_dot}
use Rattle.definition.specs.Model.{missing}
use Rattle.definition.specs.Diffusion.{kernel_of, diffuse}
use Rattle.integers.specs.Linear.{zz, ints, nat_abs_within}
use Rattle.integers.specs.Machine.{words, machine, cast_asks64}
use Rattle.layouts.specs.Cells.{rows_level}
use Rattle.pyramid.specs.PyramidPart.{Within}
use Rattle.diffusion.specs.OneTurn.{DiffuseAsked, PlaceAsked}
use Rattle.diffusion.specs.Places.{place_in_lem, bytes_fit, read_there, stored_there}
use Rattle.diffusion.specs.Shares.{set_within}

module _ {cells : List ℤ} {r at row column : ℕ} (h : PlaceAsked cells r at row column) where
  pub cell_in : at < length cells
  cell_in = place_in_lem r row column at h.place h.whole

  pub cell_bytes : Fits w64 (at * 8)
  cell_bytes = bytes_fit r row column at h.place h.cell.most

  -- the cell's residual, and as it is read
  abbrev z : ℤ
  z = get_or cells at (pos 0)

  abbrev w : ℤ
  w = to_z w64 (of_z w64 z)

  there : in_level r (rows_level r cells) row column ≡ z
  there = read_there r row column at h.place cells h.cell.above h.cell.left

  bounds : Within (2 ^ 40) z
  unfolding in_level
  bounds = rw (← there) (h.small (place_in r row column))

  owed : z ≤ℤ pos one_dot
  owed = rw (← there) h.owed

  read : w ≡ z
  read = let b = bounds in to_z-of_z {w = w64} (simp words (omega machine))

  pub lack_fits : (n : ℕ) → n ≤ one_dot → SFits w64 (pos n -ℤ w)
  lack_fits n k = let b = bounds in rw read (simp words (omega machine))

  cast : T (non_neg (to_z w64 (of_z w64 (pos one_dot -ℤ w))))
      × Fits w64 (nat_abs (to_z w64 (of_z w64 (pos one_dot -ℤ w))))
  cast = let o = owed in cast_asks64 (lack_fits one_dot (omega arith)) (rw read (simp zz (omega ints)))

  pub lack_sign : T (non_neg (to_z w64 (of_z w64 (pos one_dot -ℤ w))))
  lack_sign = cast.0

  pub lack_word : Fits w64 (nat_abs (to_z w64 (of_z w64 (pos one_dot -ℤ w))))
  lack_word = cast.1

  lack_is : nat_abs (to_z w64 (of_z w64 (pos one_dot -ℤ w))) ≡ missing (in_level r (rows_level r cells) row column)
  unfolding missing
  lack_is = rw (to_z-of_z (lack_fits one_dot (omega arith)), read, there)

  lack_small : nat_abs (pos one_dot -ℤ z) ≤ 2 ^ 41
  lack_small =
      let b = bounds in
      nat_abs_within (pos one_dot -ℤ z) (2 ^ 41) (simp zz (omega ints)) (simp zz (omega ints))

  -- the cell stored
  stored : (v : ℤ) → rows_level r (set cells at v) ≡ set (rows_level r cells) (place_in r row column) v
  stored v = stored_there r row column at h.place cells h.cell.above h.cell.left h.whole v

  pub lack_asked : (n : ℕ) → n ≤ one_dot
      → DiffuseAsked (set cells at (pos n)) r row column (nat_abs (to_z w64 (of_z w64 (pos one_dot -ℤ w))))
  lack_asked n k =
      record {
        cell = h.cell;
        whole = length-set cells at (pos n) ∙ h.whole;
        small =
            rw (stored (pos n))
            (set_within (2 ^ 40) (rows_level r cells) (place_in r row column) (pos n) h.small
            (record { low = simp zz (omega ints); high = omega ints }));
        fair = rw (to_z-of_z (lack_fits one_dot (omega arith)), read) lack_small;
      }

  pub burnt : (knit : ℕ) (next : List ℤ)
      → rows_level r next
      ≡ diffuse (kernel_of knit) r row column (nat_abs (to_z w64 (of_z w64 (pos one_dot -ℤ w)))) 9
      (rows_level r (set cells at (pos 0)))
      → rows_level r next
      ≡ diffuse (kernel_of knit) r row column (missing (in_level r (rows_level r cells) row column)) 9
      (set (rows_level r cells) (place_in r row column) (pos 0))
  burnt knit next q = q ∙ rw (lack_is, stored (pos 0))
