-- A dot placed by the code: the cells burnt, the sums over them, and the number noted (`placed`); and the walk to its
-- cell (`reached_step`).
use Rattle.std.specs.Prelude.{◌≡◌, Bool, false, List, ◌++◌, ℕ, suc, ◌+◌, ◌*◌, ◌-◌, ◌%◌, ◌^◌, ◌≤◌, ◌<◌, eqb, length}
use Rattle.std.specs.Prelude.{get_or, take, drop, set, ℤ, pos}
use Rattle.std.proofs.Math.Path.{refl}
use Rattle.std.proofs.Common.{sym, ap, ◌∙◌, arith, pow_mono, length-drop, length-append, length-take-le, Fits}
use Rattle.std.proofs.Math.Nat.{sub-zero}
use Rattle.std.proofs.Math.Numerals.{add-one}
use Rattle.std.specs.Int.{w64}
use Rattle.definition.specs.Pyramid.{cell_count, start, needed, place_in, in_level, entry, pyramid_over}
use Rattle.definition.specs.Quarters.{interleaved, rows_from}
use Rattle.definition.specs.Descent.{of_equals, choice_of, descend}
use Rattle.definition.specs.Diffusion.{kernel_of, diffuse}
use Rattle.definition.specs.Model.{Halftone, missing, place_dot, step}
use Rattle.definition.specs.Renewal.{is_near, renewed}
use Rattle.definition.specs.Sound.{Sound}
use Rattle.integers.specs.Tests.{tests, true_T, same_test}
use Rattle.quadtree.specs.Levels.{start_thrice, start_suc, start_mono, cell_lt, cells_few}
use Rattle.quadtree.specs.Pyramids.{entry_drop, pyramid_cells}
use Rattle.quadtree.specs.Renewal.{Changed, renewed_right}
use Rattle.shares.specs.Kernels.{knit_fit}
use Rattle.dots.proofs.Kept.{sound_summed, after_sound, after_away}
use Rattle.dots.proofs.Steps.{Sheet, target, step_made, row_in, column_in_lem, owes}
use Rattle.layouts.specs.Interleaved.{interleaved_lt, interleaved_any}
use Rattle.layouts.specs.Cells.{rows_level, length_rows_level, rows_in, rows_cells, rows_replaced}
use Rattle.places.specs.declared.Parts.{Parts}
use Rattle.places.specs.Parts.{parts_around, place_parts}
use Rattle.pyramid.specs.PyramidPart.{Within, Whole, SmallPyramid}
use Rattle.pyramid.specs.Four.{within_mono}
use Rattle.pyramid.specs.Small.{take_within, append_within}
use Rattle.pyramid.specs.Turn.{tail_lent, tail_back}
use Rattle.descent.specs.Candidates.{DescentAsked}
use Rattle.diffusion.specs.OneTurn.{PlaceAsked}
use Rattle.renewal.specs.OverPlaces.{RenewAsked}
use Rattle.place_dot.specs.DotDue.{DotAsked, PlaceAtAsked, NoteAsked}
use Rattle.place_dot.specs.Small.{most_residual, sound_small, places_small, rows_small, all_small}

start_eight : start 8 ≡ 21845
start_eight = unfold start in refl

-- ---- the sheet has row after row what lies by quarters in p, whose entries are all small
pub pyramid_small : (r : ℕ) (p : List ℤ) (s : Halftone) → r ≤ 8 → Sheet r s → s.pyramid ≡ rows_from r p
    → length p ≡ needed r → SmallPyramid p
pyramid_small r p s most sheet e long =
    record {
      small =
          λ i.
          within_mono _ _ _ (omega (arith, cells_few r most))
          (all_small r p most_residual (rw e at (sound_summed sheet.sound)) (rw e at (sound_small r s sheet.sound))
          long i);
    }

-- ---- a dot at a cell that owes something
module _ (r : ℕ) (p : List ℤ) (ss o : List ℕ) (dots row column : ℕ)
    (h : PlaceAtAsked r (record { pyramid = rows_from r p; serials = ss; order = o; dots = dots }) row column)
    (needed_long : length p ≡ needed r) where
  abbrev rows : List ℤ
  rows = rows_from r p

  abbrev s : Halftone
  s = record { pyramid = rows; serials = ss; order = o; dots = dots }

  big : 2 ≤ 2 ^ r
  big = pow_mono {i = 1} {j = r} h.power

  long : length p ≡ start r + cell_count r
  long = needed_long ∙ start_suc r

  cells_long : length (drop (start r) p) ≡ cell_count r
  cells_long = omega (arith, length-drop (start r) p, long)

  -- what the dot leaves, on cloth of a knit: only the cell and its neighbours change
  module _ (knit : ℕ) where
    abbrev after : Halftone
    after = place_dot (kernel_of knit) r s (row, column)

    sound' : Sound r after
    sound' =
        after_sound (kernel_of knit) (knit_fit knit) r big s h.sheet.sized h.sheet.sound row column
        h.above h.left h.due

    away : (x y : ℕ) → x < 2 ^ r → y < 2 ^ r → is_near row column x y ≡ false
        → entry after.pyramid r x y ≡ entry rows r x y
    away =
        after_away (kernel_of knit) (knit_fit knit) r big s h.sheet.sized h.sheet.sound row column
        h.above h.left h.due

    dots' : after.dots ≡ suc dots
    unfolding place_dot
    dots' = refl

  -- the parts of the places around the cell
  module _ {side : ℕ} (es : side ≡ 2 ^ r) where
    pub parts_are : {parts : Parts} → parts ≡ parts_around side row column → parts ≡ parts_around (2 ^ r) row column
    parts_are e = rw es at e

  module _ {parts : Parts} (ep : parts ≡ parts_around (2 ^ r) row column) where
    own_row : parts.row ≡ interleaved 8 row 0
    own_row = ap (λ (p : Parts). p.row) ep ∙ unfold parts_around in refl

    own_column : parts.column ≡ interleaved 8 0 column
    own_column = ap (λ (p : Parts). p.column) ep ∙ unfold parts_around in refl

    pub own_few : (parts.row < 65536) × (parts.column < 65536)
    own_few = (
      omega (arith, own_row, interleaved_lt 8 row 0),
      omega (arith, own_column, interleaved_lt 8 0 column),
    )

    own_place : parts.row + parts.column ≡ interleaved r row column
    own_place =
        omega (
          arith,
          own_row,
          own_column,
          place_parts 8 row column,
          interleaved_any r row column h.small h.above h.left,
        )

  -- where the cells begin
  module _ (off : ℕ) (eo : off ≡ start r) where
    pub off_in : off ≤ length p
    off_in = omega (arith, long)

    pub off_bytes : Fits w64 (off * 8)
    off_bytes = record { fits = omega (arith, start_mono r 8 h.small, start_eight) }

    abbrev lent : List ℤ
    lent = take (length p - off) (drop off p)

    lent_is : lent ≡ drop (start r) p
    lent_is = tail_lent off p ∙ ap (λ (n : ℕ). drop n p) eo

    lent_long : length lent ≡ cell_count r
    lent_long = ap length lent_is ∙ cells_long

    -- row after row these are the sheet's cells
    lent_rows : rows_level r lent ≡ drop (start r) rows
    lent_rows = ap (rows_level r) lent_is ∙ sym (rows_cells r p)

    lent_small : (i : ℕ) → Within most_residual (get_or (rows_level r lent) i (pos 0))
    lent_small =
        rows_small r most_residual (rows_level r lent) (length_rows_level r lent)
        (λ x y a b. rw (lent_rows, entry_drop rows r x y) (sound_small r s h.sheet.sound x y a b))

    pub place_asked : {parts : Parts} → parts ≡ parts_around (2 ^ r) row column
        → PlaceAsked lent r (parts.row + parts.column) row column
    place_asked ep =
        record {
          cell = record { least = h.power; most = h.small; above = h.above; left = h.left };
          whole = lent_long;
          small = λ i. within_mono most_residual (2 ^ 40) _ (omega arith) (lent_small i);
          owed =
              rw (lent_rows, entry_drop rows r row column)
              (h.sheet.sound.at_most row column h.above h.left);
          place = own_place ep;
        }

    -- the cells come back as e, as many as before
    module _ (e : List ℤ) (kept : length e ≡ length lent) where
      abbrev back : List ℤ
      back = take off p ++ (e ++ drop (length p - off) (drop off p))

      e_long : length e ≡ cell_count r
      e_long = kept ∙ lent_long

      back_is : back ≡ take off p ++ e
      back_is = tail_back off p e

      head_long : length (take off p) ≡ start r
      head_long = length-take-le off p off_in ∙ eo

      back_whole : Whole back r
      back_whole =
          rw back_is
          (record {
            most = h.small;
            long =
                omega (arith, length-append (take off p) e, head_long, e_long, start_suc r, ap start (add-one r));
          })

      back_rows : rows_from r back ≡ take (start r) rows ++ rows_level r e
      back_rows =
          ap (rows_from r) (back_is ∙ ap (λ (n : ℕ). take n p ++ e) eo) ∙ rows_replaced r p e (omega (arith, long))

      -- with a dot placed, on cloth of a knit
      module _ (knit : ℕ)
          (q : rows_level r e
          ≡ diffuse (kernel_of knit) r row column (missing (in_level r (rows_level r lent) row column)) 9
          (set (rows_level r lent) (place_in r row column) (pos 0))) where
        over_e : (after knit).pyramid ≡ pyramid_over r (rows_level r e)
        unfolding place_dot
        over_e = rw (q, lent_rows)

        e_small : (i : ℕ) → Within most_residual (get_or e i (pos 0))
        e_small =
            places_small r most_residual e e_long
            (λ x y a b.
            rw (over_e, pyramid_cells r (rows_level r e) x y, rows_in r e x y a b) at
            (sound_small r (after knit) (sound' knit) x y a b))

        back_small : SmallPyramid back
        back_small =
            rw back_is
            (record {
              small =
                  append_within (2 ^ 40) (take off p) e
                  (take_within (2 ^ 40) off p (pyramid_small r p s h.small h.sheet refl needed_long).small)
                  (λ i. within_mono most_residual (2 ^ 40) _ (omega arith) (e_small i));
            })

        pub renew_asked : {parts : Parts} → parts ≡ parts_around (2 ^ r) row column
            → RenewAsked back r parts row column
        renew_asked ep =
            record {
              whole = back_whole;
              small = back_small;
              some = h.power;
              above = h.above;
              left = h.left;
              parts_are = ep;
            }

        changed : Changed r (is_near row column) rows (rows_level r e)
        changed =
            record {
              long = h.sheet.sized.pyramid;
              full = length_rows_level r e;
              summed = sound_summed h.sheet.sound;
              away =
                  λ x y i j f. sym (sym (pyramid_cells r (rows_level r e) x y) ∙ rw (← over_e) (away knit x y i j f));
            }

        renewed_is : renewed r (is_near row column) (rows_from r back) ≡ pyramid_over r (rows_level r e)
        renewed_is =
            ap (renewed r (is_near row column)) back_rows
            ∙ renewed_right r (is_near row column) rows (rows_level r e) changed

        pub placed : {z : List ℤ} {s' o' : List ℕ} (side : ℕ) → side ≡ 2 ^ r
            → z ≡ renewed r (is_near row column) (rows_from r back)
            → s' ≡ set ss (row * side + column) (dots + 1) → o' ≡ set o dots (row * side + column)
            → record { pyramid = z; serials = s'; order = o'; dots = dots + 1 } ≡ after knit
        unfolding place_dot
        placed side es ez e₁ e₂ = rw (ez, renewed_is, e₁, e₂, es, q, lent_rows, add-one dots)

  -- the number of the cell, by row and by column
  pub numbers_few : {side : ℕ} → side ≡ 2 ^ r
      → (row * side + column < cell_count r) × (column * side + row < cell_count r)
  numbers_few es =
      rw es (cell_lt (2 ^ r) row column h.above h.left, cell_lt (2 ^ r) column row h.left h.above)

  pub cells_fit : cell_count r ≤ 65536
  cells_fit = cells_few r h.small

  -- no knit leaves other marks: here 0 stands for them all
  pub note_asked : (at : ℕ) → at < cell_count r → NoteAsked (length ss) (length o) at dots
  note_asked at lt =
      let room : dots < cell_count r = omega (arith, (sound' 0).few_dots_lem, dots' 0) in
      record {
        at_in = omega (arith, h.sheet.sized.serials);
        dots_in_lem = omega (arith, room, h.sheet.sized.order);
        at_most = omega (arith, cells_fit);
        dots_most = omega (arith, room, cells_fit);
      }

-- ---- the walk to the cell of the next dot
-- after an odd number of dots the next serial is even
in_turn : (n : ℕ) → eqb (n % 2) 1 ≡ eqb (suc n % 2) 0
in_turn n = same_test (eqb (n % 2) 1) (eqb (suc n % 2) 0) (λ t. omega tests) (λ t. omega tests)

module _ (r : ℕ) (p : List ℤ) (ss o : List ℕ) (dots : ℕ)
    (h : DotAsked r (record { pyramid = rows_from r p; serials = ss; order = o; dots = dots })) where
  abbrev t : Halftone
  t = record { pyramid = rows_from r p; serials = ss; order = o; dots = dots }

  pub descent_asked : length p ≡ needed r → DescentAsked p r 0 0 0 0
  descent_asked long =
      record {
        most = h.small;
        level = omega arith;
        row = omega arith;
        column = omega arith;
        whole = long;
        small = pyramid_small r p t h.small h.sheet refl long;
        place = omega (arith, start_thrice 0, interleaved_lt 0 0 0);
      }

  large : 2 ≤ 2 ^ r
  large = pow_mono {i = 1} {j = r} h.power

  -- the cell that it reaches, whatever the knit
  module _ (last : Bool) (el : last ≡ eqb (dots % 2) 1) (row column : ℕ)
      (ec : (row, column) ≡ descend (of_equals last) (rows_from r p) (r - 0) 0 0 0) where
    at_target : (knit : ℕ) → (row, column) ≡ target (kernel_of knit) r t
    unfolding choice_of
    at_target knit = rw (sub-zero r, el ∙ in_turn dots) at ec

    pub reached_asked : PlaceAtAsked r t row column
    reached_asked =
        let row_is = ap (λ (c : ℕ × ℕ). c.0) (at_target 0) in
        let column_is = ap (λ (c : ℕ × ℕ). c.1) (at_target 0) in
        record {
          power = h.power;
          small = h.small;
          sheet = h.sheet;
          above = rw row_is (row_in (kernel_of 0) (knit_fit 0) r large t h.sheet h.due);
          left = rw column_is (column_in_lem (kernel_of 0) (knit_fit 0) r large t h.sheet h.due);
          due = rw (row_is, column_is) (owes (kernel_of 0) (knit_fit 0) r large t h.sheet h.due);
        }

    pub reached_step : (knit : ℕ) {after : Halftone} → after ≡ place_dot (kernel_of knit) r t (row, column)
        → after ≡ step (kernel_of knit) r t
    reached_step knit e =
        e ∙ ap (place_dot (kernel_of knit) r t) (at_target knit)
        ∙ sym (step_made (kernel_of knit) r t (true_T _ h.due.le))
