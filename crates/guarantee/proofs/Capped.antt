-- The cap of every aligned square and the total, for a map loaded from greys (`Capped`): kept by every dot
-- (`capped_kept`). Of a dot only this is used: which cell is burnt, that residuals fall by what the dot takes, how much
-- of that leaves a square, and that the blocks that hold the cell owed something.
use Rattle.std.specs.Prelude.{◌≡◌, List, ℕ, ◌+◌, ◌*◌, ◌^◌, ◌≤◌, ◌<◌, pos, ◌+ℤ◌, ◌-ℤ◌, ◌≤ℤ◌, ◌<ℤ◌}
use Rattle.std.proofs.Common.{ap, ◌∙◌, arith, pow_pos}
use Rattle.definition.specs.Pyramid.{one_dot, half_dot, entry}
use Rattle.definition.specs.Blocks.{grey_at, burnt_at, grey_total}
use Rattle.definition.specs.Diffusion.{Kernel}
use Rattle.definition.specs.Model.{Halftone, top_of}
use Rattle.integers.specs.Linear.{zz, ints}
use Rattle.quadtree.specs.Areas.{In, span, area, area_add, area_ext}
use Rattle.quadtree.specs.Points.{δ, Seen, seen, inside, outside, area_point}
use Rattle.quadtree.specs.Sides.{sides}
use Rattle.quadtree.proofs.SomeSides.{some_sides}
use Rattle.quadtree.specs.Residues.{area_z}
use Rattle.quadtree.specs.Levels.{block_on_map}
use Rattle.quadtree.specs.Pyramids.{entry_area}
use Rattle.shares.specs.Kernels.{Fit}
use Rattle.shares.proofs.Outflow.{outflow}
use Rattle.dots.specs.Marks.{burnt_at_le}
use Rattle.dots.proofs.Kept.{sound_summed, owed, owed_most, after_burnt}
use Rattle.dots.proofs.Steps.{
  Sheet,
  target,
  reached,
  row_in,
  column_in_lem,
  owes,
  next,
  taken,
  next_area,
  next_top,
  next_dots,
}

-- 65,280 × dots + residual ≤ 256 × grey + 21,760 × the sides that the burnt cells lie on
abbrev Flow : ℕ → List ℕ → Halftone → ℕ → ℕ → ℕ → Type 0
Flow r greys s p q n =
    (pos (one_dot * area p q n (burnt_at r s.serials)) +ℤ area_z p q n (entry s.pyramid r))
    ≤ℤ pos (256 * area p q n (grey_at r greys) + 21760
    * area p q n (λ x y. burnt_at r s.serials x y * sides p q n x y))

-- 65,280 × dots < 256 × grey + 65,280 + 87,040 × side
abbrev Cap : ℕ → List ℕ → Halftone → ℕ → ℕ → ℕ → Type 0
Cap r greys s p q n =
    one_dot * area p q n (burnt_at r s.serials) < 256 * area p q n (grey_at r greys) + one_dot + 87040 * n

-- what every dot keeps: the flow of every square, the cap of every aligned one (S 15.4), and the total (S 15.7)
pub record Capped (r : ℕ) (greys : List ℕ) (s : Halftone) : Type 0 where
  pub flow : (p q n : ℕ) → p + n ≤ 2 ^ r → q + n ≤ 2 ^ r → Flow r greys s p q n
  pub cap : (j k a b : ℕ) → j + k ≡ r → a < 2 ^ k → b < 2 ^ k → Cap r greys s (a * 2 ^ j) (b * 2 ^ j) (2 ^ j)
  pub total : pos (one_dot * s.dots) +ℤ top_of s.pyramid ≡ pos (256 * grey_total r greys)

module _ (kernel : Kernel) (fit : Fit kernel) (r : ℕ) (big : 2 ≤ 2 ^ r) (greys : List ℕ) (s : Halftone)
    (sheet : Sheet r s) (due : pos half_dot ≤ℤ top_of s.pyramid) where
  abbrev row : ℕ
  row = (target kernel r s).0

  abbrev column : ℕ
  column = (target kernel r s).1

  abbrev after : Halftone
  after = next kernel fit r big s sheet due

  i : row < 2 ^ r
  i = row_in kernel fit r big s sheet due

  j : column < 2 ^ r
  j = column_in_lem kernel fit r big s sheet due

  burns : (x y : ℕ) → x < 2 ^ r → y < 2 ^ r
      → burnt_at r after.serials x y ≡ burnt_at r s.serials x y + δ row x * δ column y
  burns =
      after_burnt kernel fit r big s sheet.sized sheet.sound row column (row_in kernel fit r big s sheet due)
      (column_in_lem kernel fit r big s sheet due) (owes kernel fit r big s sheet due)

  module _ (p q n : ℕ) (low : p + n ≤ 2 ^ r) (wide : q + n ≤ 2 ^ r) where
    -- 1 if the dot is in the square, else 0
    abbrev hit : ℕ
    hit = span p n (δ row) * span q n (δ column)

    burnt_area : area p q n (burnt_at r after.serials) ≡ area p q n (burnt_at r s.serials) + hit
    burnt_area =
        area_ext p q n _ (λ x y. burnt_at r s.serials x y + δ row x * δ column y * 1)
        (λ x y u v. burns x y (omega arith) (omega arith) ∙ omega arith)
        ∙ area_add p q n (burnt_at r s.serials) (λ x y. δ row x * δ column y * 1)
        ∙ omega (arith, area_point p q n (λ x y. 1) row column)

    sides_area : area p q n (λ x y. burnt_at r after.serials x y * sides p q n x y)
        ≡ area p q n (λ x y. burnt_at r s.serials x y * sides p q n x y) + sides p q n row column * hit
    sides_area =
        area_ext p q n _ (λ x y. burnt_at r s.serials x y * sides p q n x y + δ row x * δ column y * sides p q n x y)
        (λ x y u v. rw (burns x y (omega arith) (omega arith)) (omega arith))
        ∙ area_add p q n (λ x y. burnt_at r s.serials x y * sides p q n x y)
        (λ x y. δ row x * δ column y * sides p q n x y)
        ∙ ap (λ (m : ℕ). area p q n (λ x y. burnt_at r s.serials x y * sides p q n x y) + m)
        (area_point p q n (sides p q n) row column)

    abbrev took : ℕ
    took = area p q n (taken kernel fit r big s sheet due)

    -- of what the dot takes, most stays in a square that holds it
    out : In p n row → In q n column → one_dot ≤ took + 21760 * sides p q n row column
    out u v =
        outflow kernel r row column fit big p q n low wide u v
        (owed kernel fit r big s sheet.sized sheet.sound row column i j (owes kernel fit r big s sheet due))
        (owed_most kernel fit r big s sheet.sized sheet.sound row column i j (owes kernel fit r big s sheet due))

    flow_kept : Flow r greys s p q n → Flow r greys after p q n
    flow_kept h = rw (next_area kernel fit r big s sheet due p q n low wide) (go (seen p q n row column))
      where
        go : Seen p q n row column
            → (pos (one_dot * area p q n (burnt_at r after.serials))
            +ℤ (area_z p q n (entry s.pyramid r) -ℤ pos took))
            ≤ℤ pos (256 * area p q n (grey_at r greys) + 21760
            * area p q n (λ x y. burnt_at r after.serials x y * sides p q n x y))
        go (inside u v e) =
            let b = rw e at burnt_area in
            let t = rw e at sides_area in
            let o = out u v in
            simp zz (omega (ints, simp zz at h))
        go (outside e) =
            let b = rw e at burnt_area in
            let t = rw e at sides_area in
            simp zz (omega (ints, simp zz at h))

    cap_kept : 0 < n → (In p n row → In q n column → pos 0 <ℤ area_z p q n (entry s.pyramid r)) → Flow r greys s p q n
        → Cap r greys s p q n → Cap r greys after p q n
    cap_kept some owed-there h c = go (seen p q n row column)
      where
        go : Seen p q n row column → Cap r greys after p q n
        go (inside u v e) =
            let b = rw e at burnt_area in
            let o = owed-there u v in
            omega (
              ints,
              simp zz at h,
              some_sides p q n some (burnt_at r s.serials)
                  (λ x y k l. burnt_at_le r s.serials x y),
            )
        go (outside e) = let b = rw e at burnt_area in omega arith

  -- one dot more keeps all three (S 15.4, S 15.7)
  pub capped_kept : Capped r greys s → Capped r greys after
  capped_kept h =
      record {
        flow = λ p q n low wide. flow_kept p q n low wide (h.flow p q n low wide);
        cap = λ l k a b e u v.
            let low = block_on_map r l k a e u in
            let wide = block_on_map r l k b e v in
            cap_kept (a * 2 ^ l) (b * 2 ^ l) (2 ^ l) low wide (pow_pos l)
            (λ m n. rw (← entry_area r s.pyramid (sound_summed sheet.sound) l k a b e u v)
            ((reached kernel fit r big s sheet due).due l k a b e (omega arith) m n))
            (h.flow (a * 2 ^ l) (b * 2 ^ l) (2 ^ l) low wide) (h.cap l k a b e u v);
        total =
            rw (next_top kernel fit r big s sheet due, next_dots kernel fit r big s sheet due)
            (let t = h.total in simp zz (omega (ints, simp zz at t)));
      }
