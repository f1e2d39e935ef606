-- What a caller makes of the cells that were found (`cells_found`), or stored (`cells_stored`): the numbers that the
-- definitions read.
use Rattle.std.specs.Prelude.{◌≡◌, Bool, List, ℕ, ◌<◌, drop, Some, None}
use Rattle.std.specs.Prelude as Std
use Rattle.std.proofs.Math.Path.{refl, sym, ap}
use Rattle.std.proofs.Common.{◌∙◌}
use Rattle.std.proofs.Math.Bool.{true, false}
use Rattle.std.proofs.Math.Option.{Option, some, none, map, some-injective, some-ne-none}
use Rattle.std.proofs.Math.Seq.{sets}
use Rattle.definition.specs.Answers.{number_of}
use Rattle.definition.specs.Lowering.{none_high}
use Rattle.definition.specs.MapText.{map_ends, values_of}
use Rattle.definition.specs.declared.Refusal.TheVariants.{TextMalformed, GreyHigh}
use Rattle.grammar.proofs.MapText.{values_low}
use Rattle.text_cells.specs.Ends.{number_ends, ends_no_digits}
use Rattle.text_cells.specs.Cells.{lows_in, highs_in, rise_in, Stored, stored, stored_by, cells_from, CellsRead}

-- the numbers of all cells, none above `most`
abbrev pub numbers_from : List ℕ → ℕ → ℕ → Bool → ℕ → Option (List ℕ)
numbers_from text from side pairs most = values_of most (number_ends pairs (map_ends side)) (drop from text)

-- whether they rise, as an answer tells it of cells that are all there
abbrev pub rise_by : Std.Option Bool → Option Bool
rise_by (Some rise) = some rise
rise_by None = none

-- an answer that tells of them
pub record CellsFound (text : List ℕ) (from side : ℕ) (pairs : Bool) (most : ℕ) (found : Std.Option Bool) : Type 0 where
  pub is : map (rise_in pairs) (numbers_from text from side pairs most) ≡ rise_by found

-- ---- a run that has stored them
module _ {text : List ℕ} {from side : ℕ} {pairs : Bool} {most : ℕ} {lows highs : List ℕ} {found : Std.Option Bool}
    {lows_after highs_after : List ℕ}
    (r : CellsRead text from side pairs most lows highs found lows_after highs_after) where
  pub cells_found : CellsFound text from side pairs most found
  unfolding cells_from
  cells_found = record { is = go (numbers_from text from side pairs most) found r.read }
    where
      go : (o : Option (List ℕ)) (found : Std.Option Bool)
          → map (stored pairs 0 lows highs true) o ≡ stored_by found lows_after highs_after
          → map (rise_in pairs) o ≡ rise_by found
      go none (Some rise) e = absurd (some-ne-none _ (sym e))
      go none None e = refl
      go (some values) (Some rise) e = ap some (ap (λ (s : Stored). s.rise) (some-injective _ _ e))
      go (some values) None e = absurd (some-ne-none _ e)

  -- what was there is stored
  pub cells_stored : (values : List ℕ) → numbers_from text from side pairs most ≡ some values
      → (lows_after ≡ sets lows 0 (lows_in pairs values)) × (highs_after ≡ sets highs 0 (highs_in pairs values))
  unfolding cells_from
  cells_stored values v = go found (rw v at r.read)
    where
      go : (found : Std.Option Bool)
          → some (stored pairs 0 lows highs true values) ≡ stored_by found lows_after highs_after
          → (lows_after ≡ sets lows 0 (lows_in pairs values)) × (highs_after ≡ sets highs 0 (highs_in pairs values))
      go (Some rise) e =
          let s = sym (some-injective _ _ e) in
          (ap (λ (s : Stored). s.lows) s, ap (λ (s : Stored). s.highs) s)
      go None e = absurd (some-ne-none _ e)

-- ---- an answer
module _ {text : List ℕ} {from side : ℕ} {pairs : Bool} {most : ℕ} where
  pub found_none : CellsFound text from side pairs most None → numbers_from text from side pairs most ≡ none
  found_none f = go (numbers_from text from side pairs most) f.is
    where
      go : (o : Option (List ℕ)) → map (rise_in pairs) o ≡ none → o ≡ none
      go none e = refl
      go (some values) e = absurd (some-ne-none _ e)

  module _ {rise : Bool} (f : CellsFound text from side pairs most (Some rise)) where
    -- the numbers that are there, and whether they rise
    pub record All : Type 0 where
      pub values : List ℕ
      pub read : numbers_from text from side pairs most ≡ some values
      pub rise_is : rise ≡ rise_in pairs values

    pub found_all : All
    found_all = go (numbers_from text from side pairs most) refl f.is
      where
        go : (o : Option (List ℕ)) → numbers_from text from side pairs most ≡ o → map (rise_in pairs) o ≡ some rise
            → All
        go none q e = absurd (some-ne-none _ (sym e))
        go (some values) q e = record { values = values; read = q; rise_is = sym (some-injective _ _ e) }

-- ---- why they aren't all there with none above 240: 7 if they break the grammar, and else 12
unfoldable pub why_not : List ℕ → ℕ → ℕ → Bool → ℕ
why_not text from side pairs = elim (numbers_from text from side pairs 255) [ none ↦ 7 | some values ↦ 12 ]

module _ (text : List ℕ) (from side : ℕ) (pairs : Bool) where
  pub broken_text : CellsFound text from side pairs 255 None
      → number_of TextMalformed ≡ why_not text from side pairs
  unfolding why_not number_of
  broken_text f = rw (found_none f, why_not)

  pub too_high : {rise : Bool} → CellsFound text from side pairs 255 (Some rise)
      → number_of GreyHigh ≡ why_not text from side pairs
  unfolding why_not number_of
  too_high f = rw ((found_all f).read, why_not)

-- ---- with the bound 240 the same numbers are read, where none is too high
module _ (text : List ℕ) (from side : ℕ) (pairs : Bool) (p : 0 < side) where
  pub low_numbers : (values : List ℕ) → numbers_from text from side pairs 240 ≡ some values
      → (numbers_from text from side pairs 255 ≡ some values) × (none_high values ≡ true)
  low_numbers values e =
      (values_low (number_ends pairs (map_ends side)) (drop from text) values (ends_no_digits pairs side p)).0 e

  pub one_high : numbers_from text from side pairs 240 ≡ none → (values : List ℕ)
      → numbers_from text from side pairs 255 ≡ some values → none_high values ≡ false
  one_high n values e = go (none_high values) refl
    where
      go : (b : Bool) → none_high values ≡ b → none_high values ≡ false
      go true low =
          let ends = number_ends pairs (map_ends side) in
          let iff = values_low ends (drop from text) values (ends_no_digits pairs side p) in
          absurd (some-ne-none values (sym (iff.1 (e, low)) ∙ n))
      go false high = high
