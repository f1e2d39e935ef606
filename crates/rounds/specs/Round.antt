-- One round: its macroblocks worked one after the other, by row then column (`Working`, `worked`, `goes_on`).
use Rattle.std.specs.Prelude.{◌≡◌, List, ◌∷◌, ℕ, suc, ◌+◌, ◌*◌, ◌-◌, ◌/◌, ◌%◌, ◌≤◌, ◌<◌, length, ℤ}
use Rattle.std.proofs.Math.Path.{refl, ap}
use Rattle.std.proofs.Common.{◌∙◌, arith, add-one}
use Rattle.std.proofs.Math.Nat.{sub-zero}
use Rattle.definition.specs.Lists.{tabulate_from}
use Rattle.definition.specs.Quarters.{rows_from}
use Rattle.definition.specs.Diffusion.{kernel_of}
use Rattle.definition.specs.Model.{Halftone}
use Rattle.heads.specs.TwoHeads.{Macroblock, row_offset, column_offset, across, macroblocks, work, work_all}
use Rattle.shares.specs.Kernels.{knit_fit}
use Rattle.dots.proofs.Steps.{Sheet}
use Rattle.head_order.specs.Promise.{Fits}
use Rattle.head_order.proofs.Working.{work_sheet}
use Rattle.head_order.proofs.Orders.{in_round, in_place, round_fits_at}
use Rattle.macroblock.specs.FourBlocks.{LargeSheet}

-- the first of those left, and the others
one_more : (f : ℕ → Macroblock) (n i : ℕ) → i < n
    → f i ∷ tabulate_from (i + 1) (n - (i + 1)) f ≡ tabulate_from i (n - i) f
unfolding tabulate_from
one_more f n i lt = let z : n - i ≡ suc (n - (i + 1)) = omega arith in rw (z, add-one i)

-- i of them are worked: what is left to do leads to where the whole round leads from the start
pub record Working (knit r t : ℕ) (p₀ : List ℤ) (s₀ o₀ : List ℕ) (dots : ℕ)
    (p : List ℤ) (s o : List ℕ) (after i : ℕ) : Type 0 where
  pub within : i ≤ in_round r t
  pub sheet : Sheet r (record { pyramid = rows_from r p; serials = s; order = o; dots = after })
  pub long : length p ≡ length p₀
  pub rest : work_all (kernel_of knit) r (record { pyramid = rows_from r p; serials = s; order = o; dots = after })
      (tabulate_from i (in_round r t - i) (in_place r t))
      ≡ work_all (kernel_of knit) r (record { pyramid = rows_from r p₀; serials = s₀; order = o₀; dots = dots })
      (macroblocks r t)

module _ (knit r t : ℕ) (p₀ : List ℤ) (s₀ o₀ : List ℕ) (dots : ℕ)
    (h : LargeSheet r (record { pyramid = rows_from r p₀; serials = s₀; order = o₀; dots = dots })) where
  pub begins : Working knit r t p₀ s₀ o₀ dots p₀ s₀ o₀ dots 0
  unfolding macroblocks
  begins = record { within = omega arith; sheet = h.sheet; long = refl; rest = rw (sub-zero (in_round r t)) refl }

  -- the code's figures
  module _ (rows columns : ℕ) (em : rows ≡ across r (row_offset t)) (en : columns ≡ across r (column_offset t)) where
    count_is : rows * columns ≡ in_round r t
    count_is = rw (em, en)

    module _ (p : List ℤ) (s o : List ℕ) (after i : ℕ) (g : Working knit r t p₀ s₀ o₀ dots p s o after i) where
      abbrev sheet_there : Halftone
      sheet_there = record { pyramid = rows_from r p; serials = s; order = o; dots = after }

      -- all are worked
      pub worked : rows * columns ≤ i → sheet_there
          ≡ work_all (kernel_of knit) r (record { pyramid = rows_from r p₀; serials = s₀; order = o₀; dots = dots })
          (macroblocks r t)
      unfolding work_all tabulate_from
      worked le = let z : in_round r t - i ≡ 0 = omega (arith, count_is) in rw z at g.rest

      -- one more
      module _ (lt : i < rows * columns) where
        pub fits_now : Fits r (row_offset t + 2 * (i / columns), column_offset t + 2 * (i % columns))
        fits_now = rw en (round_fits_at r t i (omega (arith, count_is)))

        next_rest : (p' : List ℤ) (s' o' : List ℕ) (after' : ℕ)
            → record { pyramid = rows_from r p'; serials = s'; order = o'; dots = after' }
            ≡ work (kernel_of knit) r sheet_there (
              row_offset t + 2 * (i / columns),
              column_offset t
                  + 2 * (i % columns),
            )
            → work_all (kernel_of knit) r (record { pyramid = rows_from r p'; serials = s'; order = o'; dots = after' })
            (tabulate_from (i + 1) (in_round r t - (i + 1)) (in_place r t))
            ≡ work_all (kernel_of knit) r
            (record { pyramid = rows_from r p₀; serials = s₀; order = o₀; dots = dots }) (macroblocks r t)
        unfolding work_all
        next_rest p' s' o' after' e =
            let left = tabulate_from (i + 1) (in_round r t - (i + 1)) (in_place r t) in
            ap (λ (u : Halftone). work_all (kernel_of knit) r u left) (rw en at e)
            ∙ ap (work_all (kernel_of knit) r sheet_there)
            (one_more (in_place r t) (in_round r t) i (omega (arith, count_is)))
            ∙ g.rest

        pub goes_on : (p' : List ℤ) (s' o' : List ℕ) (after' : ℕ) → length p' ≡ length p
            → record { pyramid = rows_from r p'; serials = s'; order = o'; dots = after' }
            ≡ work (kernel_of knit) r sheet_there (
              row_offset t + 2 * (i / columns),
              column_offset t
                  + 2 * (i % columns),
            )
            → Working knit r t p₀ s₀ o₀ dots p' s' o' after' (i + 1)
        goes_on p' s' o' after' kept e =
            record {
              within = omega (arith, count_is);
              sheet = rw e (work_sheet (kernel_of knit) (knit_fit knit) r h.least sheet_there g.sheet _ fits_now);
              long = kept ∙ g.long;
              rest = next_rest p' s' o' after' e;
            }
