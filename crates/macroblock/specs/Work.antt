-- A macroblock worked by the code: idle where it owes too little (`little_idle`) or comes to a cell on its rim
-- (`rim_idle`), else the cell burnt (`burnt`).
use Rattle.std.specs.Prelude.{◌≡◌, Bool, true, false, ◌&&◌, List, ℕ, ◌-◌, ◌^◌, ◌≤◌, length, ℤ, pos}
use Rattle.std.proofs.Math.Path.{refl, sym}
use Rattle.std.proofs.Common.{ap, ◌∙◌, arith, pow_mono}
use Rattle.std.specs.Int.Signed.{le_z}
use Rattle.definition.specs.Pyramid.{half_dot, needed}
use Rattle.definition.specs.Quarters.{rows_from}
use Rattle.definition.specs.Descent.{of_equals, descend}
use Rattle.definition.specs.Diffusion.{kernel_of}
use Rattle.definition.specs.Model.{Halftone, place_dot}
use Rattle.heads.specs.TwoHeads.{macroblock_sum, wanted, clear, burns, work}
use Rattle.shares.specs.Kernels.{knit_fit}
use Rattle.head_order.specs.Promise.{Fits}
use Rattle.head_order.proofs.Working.{best_row, best_column, work_made, work_idle, cell_row, cell_column, cell_owes}
use Rattle.pyramid.specs.PyramidPart.{SmallPyramid}
use Rattle.descent.specs.Candidates.{DescentAsked}
use Rattle.place_dot.specs.DotDue.{PlaceAtAsked}
use Rattle.place_dot.specs.Placed.{pyramid_small}
use Rattle.macroblock.specs.FourBlocks.{MacroblockAsked, LargeSheet, Seen}

module _ (knit r a b : ℕ) (p : List ℤ) (ss o : List ℕ) (dots : ℕ)
    (h : LargeSheet r (record { pyramid = rows_from r p; serials = ss; order = o; dots = dots }))
    (fits : Fits r (a, b)) (needed_long : length p ≡ needed r) where
  abbrev rows : List ℤ
  rows = rows_from r p

  abbrev s : Halftone
  s = record { pyramid = rows; serials = ss; order = o; dots = dots }

  small : SmallPyramid p
  small = pyramid_small r p s h.most h.sheet refl needed_long

  pub asked : MacroblockAsked p r a b
  asked =
      record {
        least = h.least;
        most = h.most;
        row = omega (arith, fits.row);
        column = omega (arith, fits.column);
        whole = needed_long;
        small = small;
      }

  few : 2 ^ (r - 2) ≤ 64
  few = pow_mono {i = r - 2} {j = 6} (omega (arith, h.most))

  -- it owes too little
  not_due : false ≡ le_z (pos half_dot) (macroblock_sum r rows (a, b)) → burns r rows (a, b) ≡ false
  unfolding burns
  not_due e = rw (← e) refl

  pub little_idle : false ≡ le_z (pos half_dot) (macroblock_sum r rows (a, b)) → s ≡ work (kernel_of knit) r s (a, b)
  little_idle e = sym (work_idle (kernel_of knit) r s (a, b) (not_due e))

  -- it owes enough, and this is its block that owes most
  module _ {row column at : ℕ} (seen : Seen r rows a b true row column at) where
    pub descent_asked : DescentAsked p r (r - 2) at row column
    descent_asked =
        record {
          most = h.most;
          level = omega arith;
          row = omega (arith, seen.row_is, best_row r rows (a, b), fits.row);
          column = omega (arith, seen.column_is, best_column r rows (a, b), fits.column);
          whole = needed_long;
          small = small;
          place = seen.place_is;
        }

    -- it comes to the cell (x, y)
    module _ (x y : ℕ)
        (ec : (x, y) ≡ descend (of_equals false) rows (r - (r - 2)) (r - 2) row column) where
      enough : le_z (pos half_dot) (macroblock_sum r rows (a, b)) ≡ true
      enough = sym seen.due_is

      cell_is : wanted r rows (a, b) ≡ (x, y)
      unfolding wanted of_equals
      cell_is =
          let two : r - (r - 2) ≡ 2 = omega (arith, h.least) in
          sym (rw (two, seen.row_is, seen.column_is) at ec)

      -- the cell is on its rim
      module _ {t : Bool} (et : t ≡ (clear r a x && clear r b y)) where
        on_rim : t ≡ false → burns r rows (a, b) ≡ false
        unfolding burns
        on_rim e₁ = rw (enough, cell_is, ← et, e₁) refl

        pub rim_idle : t ≡ false → s ≡ work (kernel_of knit) r s (a, b)
        rim_idle e₁ = sym (work_idle (kernel_of knit) r s (a, b) (on_rim e₁))

        -- or clear of it, and is burnt
        module _ (clears : t ≡ true) where
          burning : burns r rows (a, b) ≡ true
          unfolding burns
          burning = rw (enough, cell_is, ← et, clears) refl

          pub place_asked : PlaceAtAsked r s x y
          place_asked =
              let k = kernel_of knit in
              let f = knit_fit knit in
              record {
                power = omega (arith, h.least);
                small = h.most;
                sheet = h.sheet;
                above = rw cell_is at (cell_row k f r h.least s h.sheet (a, b) fits burning);
                left = rw cell_is at (cell_column k f r h.least s h.sheet (a, b) fits burning);
                due = rw cell_is at (cell_owes k f r h.least s h.sheet (a, b) fits burning);
              }

          pub burnt : {after : Halftone} → after ≡ place_dot (kernel_of knit) r s (x, y)
              → after ≡ work (kernel_of knit) r s (a, b)
          burnt e₃ =
              e₃ ∙ ap (place_dot (kernel_of knit) r s) (sym cell_is)
              ∙ sym (work_made (kernel_of knit) r s (a, b) burning)
