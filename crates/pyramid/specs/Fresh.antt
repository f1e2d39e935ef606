-- A pyramid filled from greys: its cells first, then all levels over them (`fresh`).
use Rattle.std.specs.Prelude.{◌≡◌, List, ◌++◌, ℕ, ◌+◌, ◌-◌, ◌≤◌, ◌<◌, length, get_or, take, drop, ℤ, pos}
use Rattle.std.proofs.Math.Path.{sym, ap}
use Rattle.std.proofs.Common.{◌∙◌, arith, add-one, length-drop, length-append, length-take-le, get_or-append-add}
use Rattle.std.proofs.Common.{drop_at, Fits}
use Rattle.std.proofs.Math.Decide.{dec_lt}
use Rattle.std.proofs.Math.ListN.{get_or-eq_default}
use Rattle.std.specs.Int.{w8}
use Rattle.definition.specs.Pyramid.{cell_count, cell_number, start, needed, pyramid_over}
use Rattle.definition.specs.Blocks.{grey_at}
use Rattle.definition.specs.Quarters.{row_of, column_of, quarter_level, quarters_from}
use Rattle.integers.specs.Linear.{zz, ints}
use Rattle.integers.specs.Lists.{get_d_tabulate}
use Rattle.quadtree.specs.Levels.{start_suc, cells_few}
use Rattle.quadtree.specs.Pyramids.{length_level, length_pyramid}
use Rattle.layouts.specs.Relaid.{quarters_back}
use Rattle.layouts.specs.Cells.{length_quarter_level, rows_level_lem}
use Rattle.layouts.specs.Sums.{quarters_over, length_over, rows_over}
use Rattle.pyramid.specs.PyramidPart.{residual_at, fresh_pyramid, Within, Whole, SmallCells, CellsAsked, FillAsked}
use Rattle.pyramid.specs.Small.{zero_within}
use Rattle.pyramid.specs.Turn.{tail_lent, tail_back}

pub fresh_length : (r : ℕ) (greys : List ℕ) → length (fresh_pyramid r greys) ≡ needed r
unfolding fresh_pyramid
fresh_length r greys = length_pyramid r _ (length_level r _)

-- ---- the level of the cells
module _ (r : ℕ) (greys : List ℕ) where
  abbrev cells : List ℤ
  cells = quarter_level r (residual_at r greys)

  cells_long : length cells ≡ cell_count r
  cells_long = length_quarter_level r (residual_at r greys)

  residual_within : ((i : ℕ) → Fits w8 (get_or greys i 0)) → (a b : ℕ) → Within 65280 (residual_at r greys a b)
  unfolding grey_at
  residual_within bytes a b =
      let fits = (bytes (cell_number r a b)).fits in
      record { low = simp zz (omega ints); high = omega ints }

  cell_within : ((i : ℕ) → Fits w8 (get_or greys i 0)) → (i : ℕ) → Within 65280 (get_or cells i (pos 0))
  unfolding quarter_level
  cell_within bytes i = go (dec_lt i (cell_count r))
    where
      go : Dec (i < cell_count r) → Within 65280 (get_or cells i (pos 0))
      go (yes lt) =
          rw (get_d_tabulate (cell_count r) (λ j. residual_at r greys (row_of r j) (column_of r j)) i (pos 0) lt)
          (residual_within bytes (row_of r i) (column_of r i))
      go (no ge) = rw (get_or-eq_default cells (pos 0) {n = i} (omega (arith, cells_long))) (zero_within 65280)

  -- all levels over it
  over_cells : quarters_over r cells ≡ quarters_from r (fresh_pyramid r greys)
  unfolding fresh_pyramid
  over_cells =
      sym (quarters_back r (quarters_over r cells) (length_over r cells cells_long))
      ∙ ap (quarters_from r) (rows_over r cells cells_long
      ∙ ap (pyramid_over r) (rows_level_lem r (residual_at r greys)))

module _ (l : List ℤ) (greys : List ℕ) (r : ℕ) (h : FillAsked l (length greys) r) where
  long : length l ≡ start r + cell_count r
  long = h.whole ∙ start_suc r

  pub cells_in : (off : ℕ) → off ≡ start r → off ≤ length l
  cells_in off eo = omega (arith, long)

  pub cells_asked : (off : ℕ) → off ≡ start r → CellsAsked (take (length l - off) (drop off l)) (length greys) r
  cells_asked off eo =
      rw (tail_lent off l, eo)
      (record { most = h.most; whole = omega (arith, length-drop (start r) l, long); enough = h.enough })

  head_long : length (take (start r) l) ≡ start r
  head_long = length-take-le (start r) l (omega (arith, long))

  abbrev celled : List ℤ
  celled = take (start r) l ++ cells r greys

  celled_whole : Whole celled r
  celled_whole =
      record {
        most = h.most;
        long = omega (
          arith,
          length-append (take (start r) l) (cells r greys),
          head_long,
          cells_long r greys,
          start_suc r,
          ap start (add-one r),
        );
      }

  celled_small : ((i : ℕ) → Fits w8 (get_or greys i 0)) → SmallCells celled r
  celled_small bytes =
      record {
        bound = 65280;
        small = λ i.
            rw (rw head_long at (get_or-append-add (take (start r) l) (cells r greys) i (pos 0)))
            (cell_within r greys bytes i);
        room = omega (arith, cells_few r h.most);
      }

  -- the part as it is once its cells have come back as e
  module _ (off : ℕ) {e : List ℤ} (eo : off ≡ start r) (q : e ≡ quarter_level r (residual_at r greys)) where
    abbrev back : List ℤ
    back = take off l ++ (e ++ drop (length l - off) (drop off l))

    back_celled : back ≡ celled
    back_celled = tail_back off l e ∙ rw (q, eo)

    pub back_whole : Whole back r
    back_whole = rw back_celled celled_whole

    pub back_small : ((i : ℕ) → Fits w8 (get_or greys i 0)) → SmallCells back r
    back_small bytes = rw back_celled (celled_small bytes)

    pub fresh : {z : List ℤ} → z ≡ quarters_over r (drop (start r) back)
        → z ≡ quarters_from r (fresh_pyramid r greys)
    fresh ez =
        ez
        ∙ ap (λ (m : List ℤ). quarters_over r (drop (start r) m)) back_celled
        ∙ ap (quarters_over r) (drop_at (take (start r) l) (cells r greys) (start r) head_long)
        ∙ over_cells r greys
