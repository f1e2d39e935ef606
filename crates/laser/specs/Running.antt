-- The run on the parts of just the needed lengths (`ran_is`): n and c are what the code has worked out for the needed
-- length and the number of cells.
use Rattle.std.specs.Prelude.{◌≡◌, List, [], ◌++◌, ℕ, ◌^◌, ◌≤◌, ◌<◌, length, get_or, take, drop, ℤ, pos}
use Rattle.std.proofs.Common.{sym, ap, ◌∙◌, arith, mul-le-mul, pow_mono, length-append, length-take-le}
use Rattle.std.proofs.Math.ListN.{get_or-append}
use Rattle.definition.specs.Answers.{returned}
use Rattle.definition.specs.Pyramid.{needed, cell_count}
use Rattle.definition.specs.Quarters.{rows_from}
use Rattle.definition.specs.Model.{Halftone, top_of}
use Rattle.quadtree.specs.Levels.{start_suc}
use Rattle.layouts.specs.Relaid.{quarters_back}
use Rattle.layouts.specs.Lent.{rows_taken}
use Rattle.dot_run.specs.Running.{top_rows}
use Rattle.macroblock.specs.FourBlocks.{LargeSheet}
use Rattle.laser.specs.SheetLent.{sheet_of, SheetLent, run_of, ran_of}

module _ {r : ℕ} (p : List ℤ) (s o : List ℕ) (h : SheetLent r p s o)
    {n c : ℕ} (en : n ≡ needed r) (ec : c ≡ cell_count r) where
  pub pyramid_part : n ≡ length (take n p)
  pyramid_part = sym (length-take-le n p (omega (arith, h.pyramid_long)))

  pub serials_part : c ≡ length (take c s)
  serials_part = sym (length-take-le c s (omega (arith, h.serials_long)))

  pub order_part : c ≡ length (take c o)
  order_part = sym (length-take-le c o (omega (arith, h.order_long)))

  pub whole : length (take n p) ≡ needed r
  whole = sym pyramid_part ∙ en

  abbrev lent : Halftone
  lent = record { pyramid = rows_from r (take n p); serials = take c s; order = take c o; dots = 0 }

  lent_is : lent ≡ sheet_of r p s o
  lent_is =
      let front : rows_from r (take n p) ≡ rows_from r p = ap (λ (m : ℕ). rows_from r (take m p)) en ∙ rows_taken r p in
      rw (front, ec)

  pub large : LargeSheet r lent
  large = record { least = h.least; most = h.most; sheet = rw lent_is h.sheet }

  module _ (knit : ℕ) {made : ℕ} (p' : List ℤ) {s' o' : List ℕ} (long : length p' ≡ length (take n p))
      (ran : record { pyramid = rows_from r p'; serials = s'; order = o'; dots = made } ≡ run_of knit r lent) where
    big : 2 ≤ 2 ^ r
    big = pow_mono {i = 1} {j = r} (omega (arith, h.least))

    top_in : 0 < length p'
    top_in = omega (arith, long, whole, start_suc r, mul-le-mul big big)

    pub top_there : 0 < length (p' ++ drop n p)
    top_there = omega (arith, top_in, length-append p' (drop n p))

    top_is : get_or (p' ++ drop n p) 0 (pos 0) ≡ top_of (rows_from r p')
    top_is = get_or-append p' (drop n p) (pos 0) 0 top_in ∙ sym (top_rows r p')

    run_is : run_of knit r (sheet_of r p s o)
        ≡ record { pyramid = rows_from r p'; serials = s'; order = o'; dots = made }
    run_is = ap (run_of knit r) (sym lent_is) ∙ sym ran

    pub ran_is : (side : ℕ) (top : ℤ) → top ≡ get_or (p' ++ drop n p) 0 (pos 0)
        → record {
          progress = record { side = side; dots = made; knit = knit };
          made = made;
          debt = top;
          said = returned [];
          pyramid = p' ++ drop n p;
          serials = s' ++ drop c s;
          order = o' ++ drop c o;
        }
        ≡ ran_of side knit r p s o
    ran_is side top et =
        rw (et, top_is, run_is, en, ec, quarters_back r p' (long ∙ whole))
