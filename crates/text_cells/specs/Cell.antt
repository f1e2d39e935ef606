-- What a text says of one cell, by what the code has read (`cell_read`); and numbers read cell by cell (`values_cell`,
-- `values_broken`). A map (`pairs` is false) has one number for each cell, a sketch two, its low and its high.
use Rattle.std.specs.Prelude.{◌≡◌, refl, Bool, true, false, List, ◌∷◌, ℕ, ◌≤◌, drop, Some, None}
use Rattle.std.specs.Prelude as Std
use Rattle.std.proofs.Math.Path.{sym}
use Rattle.std.proofs.Common.{◌∙◌, suc-ne-zero}
use Rattle.std.proofs.Math.Option.{Option, some, none, map}
use Rattle.definition.specs.Text.{comma, field, malformed, field_of}
use Rattle.definition.specs.MapText.{values_of}
use Rattle.grammar.specs.Fields.{text_of_field}
use Rattle.decimals.specs.Reading.{field_in}
use Rattle.decimals.specs.declared.Number.{Number}
use Rattle.text_cells.specs.Ends.{number_ends}
use Rattle.text_cells.specs.declared.Cell.{Cell}

-- ════ one cell

-- what a text begins with: a low and a high, and what is left behind them; or neither
pub data CellText : Type 0 where
  cell : ℕ → ℕ → List ℕ → CellText
  broken : CellText

unfoldable pub cell_of : Bool → ℕ → ℕ → List ℕ → CellText
cell_of false most end text =
    elim (field_of most end text) [ malformed ↦ broken | field grey rest ↦ cell grey grey rest ]
cell_of true most end text =
    elim (field_of most comma text) [
      | malformed ↦ broken
      | field low behind ↦ elim (field_of most end behind) [ malformed ↦ broken | field high rest ↦ cell low high rest ]
    ]

-- what the code's answer tells: the place behind the cell stands for what is left there
unfoldable pub cell_in : List ℕ → Std.Option Cell → CellText
cell_in text (Some c) = cell c.low c.high (drop c.next text)
cell_in text None = broken

module _ (text : List ℕ) (at most end : ℕ) where
  pub of_sketch : (found : Std.Option Cell) → cell_in text found ≡ cell_of true most end (drop at text)
      → {pairs : Bool} → pairs ≡ true → cell_in text found ≡ cell_of pairs most end (drop at text)
  of_sketch found f e = rw e f

  -- a map's grey that the code has not read, or has
  module _ {pairs : Bool} (b : pairs ≡ false) where
    pub no_grey : field_in text None ≡ field_of most end (drop at text)
        → cell_in text None ≡ cell_of pairs most end (drop at text)
    unfolding cell_of cell_in field_in
    no_grey f = rw (b, ← f, cell_of)

    pub grey_read : (grey : Number) → field_in text (Some grey) ≡ field_of most end (drop at text)
        → cell_in text (Some (record { low = grey.value; high = grey.value; next = grey.next }))
        ≡ cell_of pairs most end (drop at text)
    unfolding cell_of cell_in field_in
    grey_read grey f = rw (b, ← f, cell_of)

  -- a sketch's low, then its high
  pub no_low : field_in text None ≡ field_of most comma (drop at text)
      → cell_in text None ≡ cell_of true most end (drop at text)
  unfolding cell_of cell_in field_in
  no_low f = rw (← f, cell_of)

  module _ (low : Number) (f : field_in text (Some low) ≡ field_of most comma (drop at text)) where
    pub no_high : field_in text None ≡ field_of most end (drop low.next text)
        → cell_in text None ≡ cell_of true most end (drop at text)
    unfolding cell_of cell_in field_in
    no_high g = rw (← f, ← g, cell_of)

    pub pair_read : (high : Number) → field_in text (Some high) ≡ field_of most end (drop low.next text)
        → cell_in text (Some (record { low = low.value; high = high.value; next = high.next }))
        ≡ cell_of true most end (drop at text)
    unfolding cell_of cell_in field_in
    pair_read high g = rw (← f, ← g, cell_of)

-- ════ the numbers of the cells

-- one more cell in front of numbers
abbrev pub with_cell : Bool → ℕ → ℕ → List ℕ → List ℕ
with_cell false low high values = low ∷ values
with_cell true low high values = low ∷ high ∷ values

-- a cell that is there is made of the fields of its numbers
abbrev pub CellRead : Bool → ℕ → ℕ → List ℕ → ℕ → ℕ → List ℕ → Type 0
CellRead false most end text low high rest = (low ≡ high) × (field_of most end text ≡ field low rest)
CellRead true most end text low high rest =
    (behind : List ℕ) × (field_of most comma text ≡ field low behind) × (field_of most end behind ≡ field high rest)

pub cell_read : (pairs : Bool) (most end : ℕ) (text : List ℕ) {low high : ℕ} {rest : List ℕ}
    → cell_of pairs most end text ≡ cell low high rest → CellRead pairs most end text low high rest
unfolding cell_of
cell_read false most end text {low} {high} {rest} e =
    (elim (field_of most end text) as (λ f. field_of most end text ≡ f → CellRead false most end text low high rest) [
      | malformed ↦ λ q. absurd (suc-ne-zero 0 (cc (rw (q, cell_of) at e)))
      | field grey left ↦
          λ q.
          let a = rw (q, cell_of) at e in
          let low_is : grey ≡ low = cc in
          let high_is : grey ≡ high = cc in
          let rest_is : left ≡ rest = cc in
          (sym low_is ∙ high_is, rw (← low_is, ← rest_is) q)
    ]) refl
cell_read true most end text {low} {high} {rest} e =
    (elim (field_of most comma text)
    as (λ f. field_of most comma text ≡ f → CellRead true most end text low high rest) [
      | malformed ↦ λ q. absurd (suc-ne-zero 0 (cc (rw (q, cell_of) at e)))
      | field first behind ↦
          λ q.
          (elim (field_of most end behind)
          as (λ f. field_of most end behind ≡ f → CellRead true most end text low high rest) [
            | malformed ↦ λ r. absurd (suc-ne-zero 0 (cc (rw (q, r, cell_of) at e)))
            | field second left ↦
                λ r.
                let a = rw (q, r, cell_of) at e in
                let low_is : first ≡ low = cc in
                let high_is : second ≡ high = cc in
                let rest_is : left ≡ rest = cc in
                (behind, rw (← low_is) q, rw (← high_is, ← rest_is) r)
          ]) refl
    ]) refl

-- both numbers are at most `most`
cell_small : (pairs : Bool) (most end : ℕ) (text : List ℕ) {low high : ℕ} {rest : List ℕ} → 9 ≤ most
    → cell_of pairs most end text ≡ cell low high rest → (low ≤ most) × (high ≤ most)
cell_small false most end text {low} {high} {rest} nine e =
    let r = cell_read false most end text e in
    let small = (text_of_field most end text low rest nine r.1).1 in
    (small, rw (← r.0) small)
cell_small true most end text {low} {high} {rest} nine e =
    let r = cell_read true most end text e in (
      (text_of_field most comma text low r.0 nine r.1).1,
      (text_of_field most end r.0 high rest nine r.2).1,
    )

pub read_small : (text left : List ℕ) (pairs : Bool) (most end : ℕ) (found : Cell) → 9 ≤ most
    → cell_in text (Some found) ≡ cell_of pairs most end left → (found.low ≤ most) × (found.high ≤ most)
unfolding cell_in
read_small text left pairs most end found nine f = cell_small pairs most end left nine (sym f)

-- numbers are read cell by cell
in_front : (v : ℕ) (o : Option (List ℕ))
    → elim o [ none ↦ none | some values ↦ some (v ∷ values) ] ≡ map (λ (l : List ℕ). v ∷ l) o
in_front v none = refl
in_front v (some values) = refl

two_in_front : (v w : ℕ) (o : Option (List ℕ))
    → elim (elim o as (λ _. Option (List ℕ)) [ none ↦ none | some values ↦ some (w ∷ values) ])
    [ none ↦ none | some values ↦ some (v ∷ values) ]
    ≡ map (λ (l : List ℕ). v ∷ w ∷ l) o
two_in_front v w none = refl
two_in_front v w (some values) = refl

pub values_cell : (pairs : Bool) (most end : ℕ) (ends text : List ℕ) {low high : ℕ} {rest : List ℕ}
    → cell_of pairs most end text ≡ cell low high rest
    → values_of most (number_ends pairs (end ∷ ends)) text
    ≡ map (with_cell pairs low high) (values_of most (number_ends pairs ends) rest)
unfolding values_of
values_cell false most end ends text {low} {rest = rest} e =
    rw ((cell_read false most end text e).1, values_of) (in_front low (values_of most ends rest))
values_cell true most end ends text {low} {high} {rest} e =
    let r = cell_read true most end text e in
    rw (r.1, r.2, values_of) (two_in_front low high (values_of most (number_ends true ends) rest))

pub values_broken : (pairs : Bool) (most end : ℕ) (ends text : List ℕ) → cell_of pairs most end text ≡ broken
    → values_of most (number_ends pairs (end ∷ ends)) text ≡ none
unfolding cell_of values_of
values_broken false most end ends text e =
    (elim (field_of most end text) as (λ f. field_of most end text ≡ f → values_of most (end ∷ ends) text ≡ none) [
      | malformed ↦ λ q. rw (q, values_of)
      | field grey rest ↦ λ q. absurd (suc-ne-zero 0 (cc (rw (q, cell_of) at e)))
    ]) refl
values_broken true most end ends text e =
    (elim (field_of most comma text)
    as (λ f. field_of most comma text ≡ f → values_of most (number_ends true (end ∷ ends)) text ≡ none) [
      | malformed ↦ λ q. rw (q, values_of)
      | field low behind ↦
          λ q.
          (elim (field_of most end behind)
          as (λ f. field_of most end behind ≡ f → values_of most (number_ends true (end ∷ ends)) text ≡ none) [
            | malformed ↦ λ r. rw (q, r, values_of)
            | field high rest ↦ λ r. absurd (suc-ne-zero 0 (cc (rw (q, r, cell_of) at e)))
          ]) refl
    ]) refl
