-- The cells of a text, from one on: what two buffers hold once they are read and stored (`CellsRead`), and the loop
-- that reads them (`CellsLeft`, `left_less`).
use Rattle.std.specs.Prelude.{◌≡◌, refl, Bool, true, false, cond, ◌&&◌, List, [], ◌∷◌, ℕ, suc, ◌+◌, ◌*◌, ◌<◌, ◌≤◌, leb}
use Rattle.std.specs.Prelude.{set, Some, None}
use Rattle.std.specs.Prelude as Std
use Rattle.std.specs.Bool.{then_some}
use Rattle.std.proofs.Math.Path.{sym, ap}
use Rattle.std.proofs.Common.{◌∙◌, mul-le-mul, arith, drop_of_length-le, drop-cons, Fits}
use Rattle.std.proofs.Math.Option.{Option, some, none, map}
use Rattle.std.proofs.Math.Decide.{dec_le}
use Rattle.std.proofs.Math.Numerals.{add-one}
use Rattle.std.proofs.Math.ListN.{length, drop}
use Rattle.std.proofs.lemmas.List.Edits.{sets}
use borrow.Author.Tests.{le-leb, lt-leb}
use Rattle.std.specs.Int.{w8}
use Rattle.definition.specs.MapText.{map_ends, values_of}
use Rattle.definition.specs.SketchQuote.{lows_of, highs_of, pairs_rise}
use Rattle.grammar.specs.Lines.{length_repeated_line_ends}
use Rattle.decimals.specs.Writing.{Wrote, wrote_length}
use Rattle.text_cells.specs.Ends.{end_at, rows_ends_at, number_ends}
use Rattle.text_cells.specs.Cell.{cell, cell_of, cell_in, with_cell, cell_read, read_small, values_cell, values_broken}
use Rattle.text_cells.specs.declared.Cell.{Cell}

-- what numbers say of all cells: the lows, the highs, and whether no low is above its high
abbrev pub lows_in : Bool → List ℕ → List ℕ
lows_in false values = values
lows_in true values = lows_of values

abbrev pub highs_in : Bool → List ℕ → List ℕ
highs_in false values = values
highs_in true values = highs_of values

abbrev pub rise_in : Bool → List ℕ → Bool
rise_in false values = true
rise_in true values = pairs_rise values

-- ════ cells stored

pub record Stored : Type 0 where
  pub lows : List ℕ
  pub highs : List ℕ
  pub rise : Bool

-- the lows and highs of numbers, stored from cell i on; `rise` tells whether those before rose
abbrev pub stored : Bool → ℕ → List ℕ → List ℕ → Bool → List ℕ → Stored
stored pairs i lows highs rise values =
    record {
      lows = sets lows i (lows_in pairs values);
      highs = sets highs i (highs_in pairs values);
      rise = rise && rise_in pairs values;
    }

rise_more : (rise more rest : Bool) → (rise && (more && rest)) ≡ ((rise && more) && rest)
rise_more true more rest = refl
rise_more false more rest = refl

abbrev stored_as : List ℕ → List ℕ → Bool → Stored
stored_as lows highs rise = record { lows = lows; highs = highs; rise = rise }

rise_in_lem : (lows highs : List ℕ) {b c : Bool} → b ≡ c → stored_as lows highs b ≡ stored_as lows highs c
rise_in_lem lows highs e = ap (stored_as lows highs) e

stored_cell : (pairs : Bool) (most end : ℕ) (text : List ℕ) {low high : ℕ} {rest : List ℕ}
    → cell_of pairs most end text ≡ cell low high rest → (i : ℕ) (lows highs : List ℕ) (rise : Bool) (values : List ℕ)
    → stored pairs i lows highs rise (with_cell pairs low high values)
    ≡ stored pairs (suc i) (set lows i low) (set highs i high) (rise && leb low high) values
unfolding lows_of highs_of pairs_rise
stored_cell false most end text {low} {high} e i lows highs rise values =
    let same = (cell_read false most end text e).0 in
    rw (← same, le-leb low low (omega arith))
    (rise_in_lem (sets (set lows i low) (suc i) values) (sets (set highs i low) (suc i) values)
    (rise_more rise true true))
stored_cell true most end text {low} {high} e i lows highs rise values =
    rise_in_lem (sets (set lows i low) (suc i) (lows_of values)) (sets (set highs i high) (suc i) (highs_of values))
    (rise_more rise (leb low high) (pairs_rise values))

stored_none : (pairs : Bool) (i : ℕ) (lows highs : List ℕ) (rise : Bool)
    → stored pairs i lows highs rise [] ≡ record { lows = lows; highs = highs; rise = rise }
unfolding lows_of highs_of pairs_rise
stored_none false i lows highs true = refl
stored_none false i lows highs false = refl
stored_none true i lows highs true = refl
stored_none true i lows highs false = refl

values_none : (pairs : Bool) (most : ℕ) (text : List ℕ)
    → values_of most (number_ends pairs []) text ≡ values_of most [] text
values_none false most text = refl
values_none true most text = refl

-- what the buffers hold once the cells from cell i on are read from a place of the text on and stored: none unless they
-- are all there, each number at most `most`, with nothing behind them
unfoldable pub cells_from : List ℕ → ℕ → Bool → ℕ → ℕ → ℕ → List ℕ → List ℕ → Bool → Option Stored
cells_from text side pairs most i at lows highs rise =
    map (stored pairs i lows highs rise)
    (values_of most (number_ends pairs (drop i (map_ends side))) (drop at text))

-- a side from 1 to 256, and a bound for numbers that fit a byte
pub record CellsAsked (side most : ℕ) : Type 0 where
  pub some_side : 0 < side
  pub side_most : side ≤ 256
  pub nine : 9 ≤ most
  pub byte : most ≤ 255

-- what the answer of a run tells that has left the buffers so
abbrev pub stored_by : Std.Option Bool → List ℕ → List ℕ → Option Stored
stored_by (Some rise) lows highs = some (record { lows = lows; highs = highs; rise = rise })
stored_by None lows highs = none

pub record CellsRead (text : List ℕ) (from side : ℕ) (pairs : Bool) (most : ℕ) (lows highs : List ℕ)
    (found : Std.Option Bool) (lows_after highs_after : List ℕ) : Type 0 where
  pub read : cells_from text side pairs most 0 from lows highs true ≡ stored_by found lows_after highs_after

-- the numbers of a cell that the code has read fit a byte
module _ {side most : ℕ} (asked : CellsAsked side most) (text left : List ℕ) (pairs : Bool) (end : ℕ) (found : Cell)
    (f : cell_in text (Some found) ≡ cell_of pairs most end left) where
  pub low_fits : Fits w8 found.low
  low_fits = omega (arith, (read_small text left pairs most end found asked.nine f).0, asked.byte)

  pub high_fits : Fits w8 found.high
  high_fits = omega (arith, (read_small text left pairs most end found asked.nine f).1, asked.byte)

pub size_small : (side : ℕ) → side ≤ 256 → side * side ≤ 65536
size_small side h = mul-le-mul h h

-- ---- the loop: cell i is next, at the place `at`, and what is left to read leaves the buffers as the whole does
pub record CellsLeft (text : List ℕ) (from side : ℕ) (pairs : Bool) (most : ℕ) (lows₀ highs₀ : List ℕ) (at i : ℕ)
    (lows highs : List ℕ) (rise : Bool) : Type 0 where
  pub size : side * side ≤ 65536
  pub within : i ≤ side * side
  pub lows_kept : length lows ≡ length lows₀
  pub highs_kept : length highs ≡ length highs₀
  pub rest : cells_from text side pairs most 0 from lows₀ highs₀ true
      ≡ cells_from text side pairs most i at lows highs rise

pub left_whole : (text : List ℕ) (from side : ℕ) (pairs : Bool) (most : ℕ) (lows highs : List ℕ) → side ≤ 256
    → CellsLeft text from side pairs most lows highs from 0 lows highs true
left_whole text from side pairs most lows highs h =
    record { size = size_small side h; within = omega arith; lows_kept = refl; highs_kept = refl; rest = refl }

map_twice : {A B C : Type 0} (f : A → B) (g : B → C) (o : Option A)
    → map g (map f o) ≡ map (λ (x : A). g (f x)) o
map_twice f g none = refl
map_twice f g (some x) = refl

map_same : {A B : Type 0} (f g : A → B) → ((x : A) → f x ≡ g x) → (o : Option A) → map f o ≡ map g o
map_same f g e none = refl
map_same f g e (some x) = ap some (e x)

module _ {text : List ℕ} {from side : ℕ} {pairs : Bool} {most : ℕ} {lows₀ highs₀ : List ℕ} {at i : ℕ}
    {lows highs : List ℕ} {rise : Bool} (p : 0 < side)
    (l : CellsLeft text from side pairs most lows₀ highs₀ at i lows highs rise) where
  module _ (h : i < side * side) {end : ℕ} (is_end : end ≡ end_at side i) where
    ends_from : drop i (map_ends side) ≡ end ∷ drop (suc i) (map_ends side)
    ends_from =
        drop-cons (map_ends side) i 0 (omega (arith, length_repeated_line_ends side side p))
        ∙ rw (rows_ends_at side side i p h, is_end)

    pub left_broken : cell_in text None ≡ cell_of pairs most end (drop at text)
        → CellsRead text from side pairs most lows₀ highs₀ None lows highs
    unfolding cells_from cell_in
    left_broken f =
        record {
          read =
              l.rest
              ∙ rw (ends_from, values_broken pairs most end (drop (suc i) (map_ends side)) (drop at text) (sym f));
        }

    pub left_less : {found : Cell} → cell_in text (Some found) ≡ cell_of pairs most end (drop at text)
        → {place other : ℕ} {lows_after highs_after : List ℕ} {still : Bool}
        → Wrote lows i (found.low ∷ []) place lows_after
        → Wrote highs i (found.high ∷ []) other highs_after → still ≡ (rise && leb found.low found.high)
        → CellsLeft text from side pairs most lows₀ highs₀ found.next (i + 1) lows_after highs_after still
    unfolding cells_from cell_in
    left_less {found} f u v s =
        let m : cell_of pairs most end (drop at text) ≡ cell found.low found.high (drop found.next text) = sym f in
        let rest = drop (suc i) (map_ends side) in
        let values = values_of most (number_ends pairs rest) (drop found.next text) in
        record {
          size = l.size;
          within = omega arith;
          lows_kept = wrote_length u ∙ l.lows_kept;
          highs_kept = wrote_length v ∙ l.highs_kept;
          rest =
              l.rest
              ∙ rw (u.stored, v.stored, s, ends_from, values_cell pairs most end rest (drop at text) m, add-one i)
              (map_twice (with_cell pairs found.low found.high) (stored pairs i lows highs rise) values
              ∙ map_same _ _ (stored_cell pairs most end (drop at text) m i lows highs rise) values);
        }

  -- past the last cell nothing may be left
  pub left_none : side * side ≤ i → {found : Std.Option Bool} → found ≡ then_some (leb (length text) at) rise
      → CellsRead text from side pairs most lows₀ highs₀ found lows highs
  unfolding cells_from values_of
  left_none h e =
      let k : length (map_ends side) ≤ i = omega (arith, length_repeated_line_ends side side p) in
      record {
        read =
            l.rest
            ∙ rw (drop_of_length-le (map_ends side) k, values_none pairs most (drop at text), e)
            (elim (dec_le (length text) at) [
              | yes e ↦
                  rw (drop_of_length-le text e, le-leb (length text) at e)
                  (ap some (stored_none pairs i lows highs rise))
              | no e ↦ rw (drop-cons text at 0 (omega arith), lt-leb (length text) at (omega arith))
            ]);
      }
