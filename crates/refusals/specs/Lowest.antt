-- The first row that applies: it gives its number (`lowest_here`), one that doesn't is passed over (`lowest_past`), and
-- 0 means that none applies (`lowest_none`); so which greys buffers and which maps Load accepts (`greys_none`,
-- `load_none`).
use Rattle.std.specs.Prelude.{◌≡◌, Bool, true, false, not, ◌&&◌, ◌↔◌, List, [], ◌∷◌, ◌++◌, ℕ, suc, ◌≤◌, ◌<◌, ltb, eqb}
use Rattle.std.proofs.Math.Path.{refl}
use Rattle.std.proofs.Common.{ap, ◌∙◌, arith, ltb-true, ltb-false, le-ltb, ne_eqb}
use Rattle.std.proofs.lemmas.Bool.{eqb-false, not-false}
use Rattle.definition.specs.Pyramid.{needed, cell_count}
use Rattle.definition.specs.Refusals.{
  Row,
  side_unknown,
  knit_unknown,
  greys_short,
  pyramid_short,
  sheet_short,
  grey_high,
  lowest,
  greys_refusal,
}
use Rattle.definition.specs.Load.{load_refusal}
use Rattle.refusals.specs.Names.{both}

-- of the checks that apply the first is told (S 5.2)
pub lowest_here : (n : ℕ) (b : Bool) (rows : List Row) → b ≡ true → lowest ((n, b) ∷ rows) ≡ n
unfolding lowest
lowest_here n b rows e = rw e

pub lowest_past : (n : ℕ) (b : Bool) (rows : List Row) → b ≡ false → lowest ((n, b) ∷ rows) ≡ lowest rows
unfolding lowest
lowest_past n b rows e = rw e

pub lowest_none : (n : ℕ) (b : Bool) (rows : List Row) → 0 < n → lowest ((n, b) ∷ rows) ≡ 0
    → (b ≡ false) × (lowest rows ≡ 0)
unfolding lowest
lowest_none n true rows h e = absurd (omega arith)
lowest_none n false rows h e = (refl, e)

-- ---- rows with more rows behind them
unfoldable pub positive : List Row → Bool
positive [] = true
positive (row ∷ rows) = ltb 0 row.0 && positive rows

-- one that applies comes before all that are added behind
pub lowest_before : (rows more : List Row) (n : ℕ) → lowest rows ≡ suc n → lowest (rows ++ more) ≡ suc n
unfolding lowest
lowest_before [] more n e = absurd (omega arith)
lowest_before ((k, true) ∷ rows) more n e = e
lowest_before ((k, false) ∷ rows) more n e = lowest_before rows more n e

-- a last one that does not apply might as well be left out
pub lowest_last_not : (rows : List Row) (row : Row) → row.1 ≡ false → lowest (rows ++ row ∷ []) ≡ lowest rows
unfolding lowest
lowest_last_not [] row e = rw e
lowest_last_not ((n, true) ∷ rows) row e = refl
lowest_last_not ((n, false) ∷ rows) row e = lowest_last_not rows row e

-- if none applies, those behind decide
pub lowest_after : (rows more : List Row) → positive rows ≡ true → lowest rows ≡ 0
    → lowest (rows ++ more) ≡ lowest more
unfolding positive
lowest_after [] more p e = refl
lowest_after ((n, b) ∷ rows) more p e =
    let q = both (ltb 0 n) (positive rows) p in
    let h = lowest_none n b rows (ltb-true 0 n q.0) e in
    lowest_past n b (rows ++ more) h.0 ∙ lowest_after rows more q.1 h.1

-- if none of all applies, none of either part does
pub lowest_split : (rows more : List Row) → positive rows ≡ true → lowest (rows ++ more) ≡ 0
    → (lowest rows ≡ 0) × (lowest more ≡ 0)
unfolding positive lowest
lowest_split [] more p e = (refl, e)
lowest_split ((n, b) ∷ rows) more p e =
    let q = both (ltb 0 n) (positive rows) p in
    let h = lowest_none n b (rows ++ more) (ltb-true 0 n q.0) e in
    let k = lowest_split rows more q.1 h.1 in
    (lowest_past n b rows h.0 ∙ k.0, k.1)

-- one of the eight sides, and a greys buffer that is long enough
pub greys_none : (r lent : ℕ) → (greys_refusal r lent ≡ 0) ↔ ((0 < r) × (cell_count r ≤ lent))
unfolding greys_refusal
greys_none r lent = (
  λ e.
      let r₁ = lowest_none 1 (eqb r 0) _ (omega arith) e in
      let r₂ = lowest_none 2 (ltb lent (cell_count r)) _ (omega arith) r₁.1 in
      (omega (arith, eqb-false r 0 r₁.0), ltb-false _ _ r₂.0),
  λ h. lowest_past 1 (eqb r 0) _ (ne_eqb r 0 (λ e. omega arith))
      ∙ lowest_past 2 (ltb lent (cell_count r)) _ (le-ltb _ _ h.1) ∙ unfold lowest in refl,
)

-- what Load is lent, if it accepts it: one of the eight sides, a knit, and buffers that are long enough
pub record LoadLent (r knit greys pyramid serials order : ℕ) : Type 0 where
  pub power : 0 < r
  pub known : knit ≤ 1
  pub greys_long : cell_count r ≤ greys
  pub pyramid_long : needed r ≤ pyramid
  pub serials_long : cell_count r ≤ serials
  pub order_long : cell_count r ≤ order

-- and no grey of the map is too high (S 7.2)
pub load_none : (r knit greys pyramid serials order : ℕ) (low : Bool)
    → (load_refusal r knit greys pyramid serials order low ≡ 0)
    ↔ (LoadLent r knit greys pyramid serials order × (low ≡ true))
unfolding load_refusal
load_none r knit greys pyramid serials order low = (lent, λ h. none h.0 h.1)
  where
    lent : lowest
        (side_unknown r ∷ knit_unknown knit ∷ greys_short r greys ∷ pyramid_short r pyramid ∷ sheet_short r serials
        ∷ sheet_short r order ∷ grey_high low ∷ []) ≡ 0 → LoadLent r knit greys pyramid serials order × (low ≡ true)
    lent e =
        let r₁ = lowest_none 1 (eqb r 0) _ (omega arith) e in
        let r₀ = lowest_none 11 (ltb 1 knit) _ (omega arith) r₁.1 in
        let r₂ = lowest_none 2 (ltb greys (cell_count r)) _ (omega arith) r₀.1 in
        let r₃ = lowest_none 3 (ltb pyramid (needed r)) _ (omega arith) r₂.1 in
        let r₄ = lowest_none 4 (ltb serials (cell_count r)) _ (omega arith) r₃.1 in
        let r₅ = lowest_none 4 (ltb order (cell_count r)) _ (omega arith) r₄.1 in
        let r₆ = lowest_none 12 (not low) _ (omega arith) r₅.1 in (
          record {
            power = omega (arith, eqb-false r 0 r₁.0);
            known = ltb-false _ _ r₀.0;
            greys_long = ltb-false _ _ r₂.0;
            pyramid_long = ltb-false _ _ r₃.0;
            serials_long = ltb-false _ _ r₄.0;
            order_long = ltb-false _ _ r₅.0;
          },
          not-false low r₆.0,
        )

    none : LoadLent r knit greys pyramid serials order → low ≡ true
        → lowest (side_unknown r ∷ knit_unknown knit ∷ greys_short r greys ∷ pyramid_short r pyramid
        ∷ sheet_short r serials ∷ sheet_short r order ∷ grey_high low ∷ []) ≡ 0
    none h e =
        lowest_past 1 (eqb r 0) _ (ne_eqb r 0 (λ e. omega arith))
        ∙ lowest_past 11 (ltb 1 knit) _ (le-ltb _ _ h.known)
        ∙ lowest_past 2 (ltb greys (cell_count r)) _ (le-ltb _ _ h.greys_long)
        ∙ lowest_past 3 (ltb pyramid (needed r)) _ (le-ltb _ _ h.pyramid_long)
        ∙ lowest_past 4 (ltb serials (cell_count r)) _ (le-ltb _ _ h.serials_long)
        ∙ lowest_past 4 (ltb order (cell_count r)) _ (le-ltb _ _ h.order_long)
        ∙ lowest_past 12 (not low) _ (ap not e)
        ∙ unfold lowest in refl
