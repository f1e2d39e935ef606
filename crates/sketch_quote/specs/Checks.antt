-- The refusals behind a good first line (`sketch_check`): where the numbers are not all there (`not_there`), and where
-- they are (`refusal_there`).
use Rattle.std.specs.Prelude.{◌≡◌, Bool, Some, None, List, [], ◌∷◌, ℕ, ◌*◌, ◌^◌, ◌<◌, drop}
use Rattle.std.proofs.Math.Path.{refl}
use Rattle.std.proofs.Common.{sym, ap, ◌∙◌}
use Rattle.std.proofs.Math.Bool.{true, not}
use Rattle.std.proofs.Math.Option.{Option, some, none}
use Rattle.definition.specs.Answers.{number_of}
use Rattle.definition.specs.Refusals.{pair_falls, level_unknown, output_short, lowest}
use Rattle.definition.specs.MapText.{values_of}
use Rattle.definition.specs.SketchQuote.{sketch_ends, sketch_refusal}
use Rattle.definition.specs.declared.Refusal.{Refusal}
use Rattle.refusals.specs.Lowest.{lowest_here, lowest_past}
use Rattle.text_cells.specs.Ends.{pairs_sketch}
use Rattle.text_cells.specs.Found.{numbers_from, CellsFound, found_none, found_all, why_not, low_numbers, one_high}

-- the number of the refusal, 0 if there is none: 7 for numbers that aren't there, and then what the pairs, the level
-- and the room for caps say
unfoldable pub sketch_check : List ℕ → ℕ → ℕ → ℕ → ℕ → ℕ → ℕ
sketch_check text from side r k room =
    elim (values_of 255 (sketch_ends side) (drop from text)) [ none ↦ 7 | some pairs ↦ sketch_refusal r pairs k room ]

module _ (text : List ℕ) (from side : ℕ) (p : 0 < side) where
  -- the numbers of all pairs, as the reader of cells has them
  pub numbers_are : (most : ℕ) {o : Option (List ℕ)} → numbers_from text from side true most ≡ o
      → values_of most (sketch_ends side) (drop from text) ≡ o
  numbers_are most e = ap (λ (ends : List ℕ). values_of most ends (drop from text)) (sym (pairs_sketch side p)) ∙ e

  module _ (r k room : ℕ) where
    pub not_there : CellsFound text from side true 240 None → (why : Refusal)
        → number_of why ≡ why_not text from side true
        → number_of why ≡ sketch_check text from side r k room
    unfolding why_not sketch_check
    not_there f why w = w ∙ go (numbers_from text from side true 255) refl
      where
        go : (o : Option (List ℕ)) → numbers_from text from side true 255 ≡ o
            → why_not text from side true ≡ sketch_check text from side r k room
        go none e = rw (numbers_are 255 e, e, why_not, sketch_check)
        go (some values) e =
            rw (numbers_are 255 e, e, why_not, sketch_check)
            (sym
            (unfold sketch_refusal in
            lowest_here 12 _ _ (ap not (one_high text from side true p (found_none f) values e))))

    -- where all numbers are there, the tests behind them are left
    pub refusal_there : (rise : Bool) → CellsFound text from side true 240 (Some rise)
        → sketch_check text from side r k room
        ≡ lowest (pair_falls rise ∷ level_unknown r k ∷ output_short (2 ^ k * 2 ^ k) room ∷ [])
    unfolding sketch_check sketch_refusal
    refusal_there rise f =
        let there = found_all f in
        let low = low_numbers text from side true p there.values there.read in
        let behind = λ (b : Bool). lowest (pair_falls b ∷ level_unknown r k ∷ output_short (2 ^ k * 2 ^ k) room ∷ []) in
        rw (numbers_are 255 low.0, sketch_check) (lowest_past 12 _ _ (ap not low.1) ∙ sym (ap behind there.rise_is))
