-- Dots made one after the other, while one is due and the budget lasts: `Going` is kept (`begins`, `goes_on`), and
-- `Ran` is left.
use Rattle.std.specs.Prelude.{◌≡◌, true, false, List, ℕ, ◌+◌, ◌^◌, ◌≤◌, ◌<◌, min, length, get_or, ℤ, pos}
use Rattle.std.proofs.Math.Path.{refl}
use Rattle.std.proofs.Common.{sym, ◌∙◌, arith, mul-le-mul, add-zero, pow_mono, Fits, SFits, to_z, of_z}
use Rattle.std.proofs.Math.Nat.{add_assoc}
use Rattle.std.proofs.Math.Numerals.{add-one}
use Rattle.std.specs.Int.Signed.{lt_z}
use Rattle.std.specs.Int.{w32, w64}
use Rattle.definition.specs.Pyramid.{half_dot, start, needed}
use Rattle.definition.specs.Quarters.{interleaved, quarter_entry, rows_from}
use Rattle.definition.specs.Diffusion.{kernel_of}
use Rattle.definition.specs.Model.{Halftone, top_of, step, steps}
use Rattle.definition.specs.Advance.{dots_due}
use Rattle.integers.specs.Linear.{ints, up_or_dn}
use Rattle.quadtree.specs.Levels.{start_suc, cells_few}
use Rattle.layouts.specs.Relaid.{rows_entry}
use Rattle.shares.specs.Kernels.{knit_fit}
use Rattle.dots.proofs.Steps.{Sheet, top_entry, due_is, steps_sheet, steps_due}
use Rattle.place_dot.specs.DotDue.{DotAsked}
use Rattle.dot_run.specs.Tops.{none_owed, some_owed}

-- a sheet of just the needed lengths, sound
pub record RunAsked (r : ℕ) (s : Halftone) : Type 0 where
  pub power : 1 ≤ r
  pub small : r ≤ 8
  pub sheet : Sheet r s

-- what a run leaves on cloth of a knit: the sheet with so many dots more, and these are the smaller of the budget and
-- the dots due
pub record Ran (knit r : ℕ) (s : Halftone) (budget made : ℕ) (after : Halftone) : Type 0 where
  pub made_is : made ≡ min budget (dots_due (top_of s.pyramid))
  pub after_is : after ≡ steps (kernel_of knit) r made s

-- the top of a pyramid by quarters is the top row after row
pub top_rows : (r : ℕ) (p : List ℤ) → top_of (rows_from r p) ≡ get_or p 0 (pos 0)
unfolding quarter_entry start interleaved
top_rows r p =
    top_entry (rows_from r p) ∙ rows_entry r p 0 0 0 (omega arith) (omega arith) (omega arith)

-- after some turns: the sheet holds p, row after row, s and o, with so many dots more than at the start, where it held
-- p₀, s₀ and o₀
pub record Going (knit r : ℕ) (p₀ : List ℤ) (s₀ o₀ : List ℕ) (dots budget : ℕ)
    (p : List ℤ) (s o : List ℕ) (made : ℕ) : Type 0 where
  pub within : made ≤ budget
  pub is : record { pyramid = rows_from r p; serials = s; order = o; dots = dots + made }
      ≡ steps (kernel_of knit) r made (record { pyramid = rows_from r p₀; serials = s₀; order = o₀; dots = dots })
  pub long : length p ≡ length p₀

module _ (knit r : ℕ) (p₀ : List ℤ) (s₀ o₀ : List ℕ) (dots budget : ℕ)
    (h : RunAsked r (record { pyramid = rows_from r p₀; serials = s₀; order = o₀; dots = dots })) where
  abbrev first : Halftone
  first = record { pyramid = rows_from r p₀; serials = s₀; order = o₀; dots = dots }

  big : 2 ≤ 2 ^ r
  big = pow_mono {i = 1} {j = r} h.power

  pub begins : Going knit r p₀ s₀ o₀ dots budget p₀ s₀ o₀ 0
  unfolding steps
  begins = record { within = omega arith; is = rw (add-zero dots); long = refl }

  module _ (p : List ℤ) (s o : List ℕ) (made : ℕ) (g : Going knit r p₀ s₀ o₀ dots budget p s o made) where
    abbrev sheet_now : Halftone
    sheet_now = record { pyramid = rows_from r p; serials = s; order = o; dots = dots + made }

    sheet : Sheet r sheet_now
    sheet = rw g.is (steps_sheet (kernel_of knit) (knit_fit knit) r big made first h.sheet)

    pub same_pyramid : length p ≡ length p₀
    same_pyramid = g.long

    pub same_serials : length s ≡ length s₀
    same_serials = sheet.sized.serials ∙ sym h.sheet.sized.serials

    pub same_order : length o ≡ length o₀
    same_order = sheet.sized.order ∙ sym h.sheet.sized.order

    module _ (needed_long : length p₀ ≡ needed r) where
      pub still_long : length p ≡ needed r
      still_long = g.long ∙ needed_long

      pub top_in : 0 < length p
      top_in = omega (arith, still_long, start_suc r, mul-le-mul big big)

    pub few : Fits w32 (dots + made)
    few = record { fits = omega (arith, sheet.sound.few_dots_lem, cells_few r h.small) }

    -- what is due now is what of the dots due at the start has not been made
    rest : made + dots_due (top_of (rows_from r p)) ≡ dots_due (top_of (rows_from r p₀))
    rest = omega (arith, rw (← g.is) at (steps_due (kernel_of knit) (knit_fit knit) r big made first h.sheet))

    spent_all : budget ≤ made → Ran knit r first budget made sheet_now
    spent_all le = record { made_is = omega (arith, rest, g.within); after_is = g.is }

    pub spent : budget ≤ made → Ran knit r first budget budget
        (record { pyramid = rows_from r p; serials = s; order = o; dots = dots + budget })
    spent le = let e : made ≡ budget = omega (arith, g.within) in rw e at (spent_all le)

    module _ (fits : SFits w64 (get_or p 0 (pos 0))) where
      pub none_due : lt_z (to_z w64 (of_z w64 (get_or p 0 (pos 0)))) (pos half_dot) ≡ true
          → Ran knit r first budget made sheet_now
      none_due e =
          let low = none_owed (get_or p 0 (pos 0)) fits e in
          let top = top_of (rows_from r p) in
          let d : dots_due top ≡ 0 =
          omega (ints, due_is top, up_or_dn top, rw (← top_rows r p) at low) in
          record { made_is = omega (arith, rest, g.within); after_is = g.is }

      module _ (e : lt_z (to_z w64 (of_z w64 (get_or p 0 (pos 0)))) (pos half_dot) ≡ false) where
        pub dot_asked : DotAsked r sheet_now
        dot_asked =
            record {
              power = h.power;
              small = h.small;
              sheet = sheet;
              due = rw (top_rows r p) (some_owed (get_or p 0 (pos 0)) fits e);
            }

    pub goes_on : (p' : List ℤ) (s' o' : List ℕ) → made < budget → length p' ≡ length p
        → record { pyramid = rows_from r p'; serials = s'; order = o'; dots = dots + made + 1 }
        ≡ step (kernel_of knit) r sheet_now
        → Going knit r p₀ s₀ o₀ dots budget p' s' o' (made + 1)
    unfolding steps
    goes_on p' s' o' lt kept q =
        record {
          within = omega arith;
          is = rw (← add_assoc dots made 1, q, g.is, add-one made);
          long = kept ∙ g.long;
        }
