-- The writer: the greys of a map one by one, each with the byte that ends it, behind the line of the side. They are the
-- one text of the map (`map_wrote`), whose length is known (`map_length`).
use Rattle.std.specs.Prelude.{◌≡◌, List, [], ◌∷◌, ◌++◌, ℕ, suc, ◌+◌, ◌*◌, ◌<◌, ◌≤◌, length, get_or, take}
use Rattle.std.proofs.Math.Path.{sym}
use Rattle.std.proofs.Common.{◌∙◌, arith, length-append, length-take-le}
use Rattle.std.proofs.Math.Numerals.{add-one}
use Rattle.std.proofs.Math.Seq.{take-suc, take_all, append_snoc}
use Rattle.definition.specs.Lowering.{lowered}
use Rattle.definition.specs.Text.{newline, decimal}
use Rattle.definition.specs.MapText.{map_ends, map_text}
use Rattle.grammar.specs.Lines.{AtMost, fields_text, fields_text_append, length_repeated_line_ends}
use Rattle.grammar.proofs.Grammar.{map_text_fields}
use Rattle.decimals.specs.Writing.{Wrote, wrote_none, wrote_append, field_text, length_decimal}
use Rattle.text_cells.specs.Ends.{end_at, rows_ends_at}
use Rattle.text_cells.specs.Cells.{size_small}

-- a side from 1 to 256, and N² greys
pub record MapLent (side count : ℕ) : Type 0 where
  pub some_side : 0 < side
  pub most : side ≤ 256
  pub whole : count ≡ side * side

-- these are at most 65,536
pub few : {side count : ℕ} → MapLent side count → count ≤ 65536
few {side} lent = omega (arith, lent.whole, size_small side lent.most)

-- the first i greys with their ends
unfoldable pub greys_text : ℕ → List ℕ → ℕ → List ℕ
greys_text side greys i = fields_text (take i greys) (take i (map_ends side))

pub none_written : {l : List ℕ} {at : ℕ} (side : ℕ) (greys : List ℕ) → Wrote l at (greys_text side greys 0) at l
unfolding greys_text fields_text
none_written side greys = wrote_none

module _ {side : ℕ} (greys : List ℕ) (lent : MapLent side (length greys)) where
  ends_long : length (map_ends side) ≡ length greys
  ends_long = length_repeated_line_ends side side lent.some_side ∙ sym lent.whole

  module _ (i : ℕ) (h : i < length greys) where
    one_more : greys_text side greys (i + 1) ≡ greys_text side greys i ++ field_text (get_or greys i 0) (end_at side i)
    unfolding greys_text fields_text field_text
    one_more =
        let ends = map_ends side in
        rw (
          add-one i,
          take-suc greys i 0 h,
          take-suc ends i 0 (omega (arith, ends_long)),
          rows_ends_at side side i
              lent.some_side (omega (arith, lent.whole)),
        )
        (fields_text_append (take i greys) (get_or greys i 0 ∷ []) (take i ends) (end_at side i ∷ [])
        (length-take-le i greys (omega arith) ∙ sym (length-take-le i ends (omega (arith, ends_long)))))

    -- `end` is what the code has worked out
    pub grey_wrote : {l l₁ l₂ : List ℕ} {from at next end : ℕ} → Wrote l from (greys_text side greys i) at l₁
        → end ≡ end_at side i
        → Wrote l₁ at (field_text (get_or greys i 0) end) next l₂ → Wrote l from (greys_text side greys (i + 1)) next l₂
    grey_wrote x e y = rw one_more (wrote_append x (rw e at y))

  -- all of them, behind the line of the side
  pub map_wrote : {l l₁ l₂ : List ℕ} {at next : ℕ} → Wrote l 0 (field_text side newline) at l₁
      → Wrote l₁ at (greys_text side greys (length greys)) next l₂
      → Wrote l 0 (map_text side greys) next l₂
  unfolding greys_text field_text
  map_wrote x y =
      let ends = map_ends side in
      let all : greys_text side greys (length greys)
      ≡ fields_text greys ends =
      rw (take_all (length greys) greys (omega arith), take_all (length greys) ends (omega (arith, ends_long))) in
      rw (
        map_text_fields side greys lent.some_side lent.whole,
        ← append_snoc (decimal side) newline
            (fields_text greys ends),
        ← all,
      ) (wrote_append x y)

-- ---- the greys lowered in their place, as `low`, and the text of them
pub record LoweredPut (side : ℕ) (greys output low : List ℕ) (next : ℕ) (after : List ℕ) : Type 0 where
  pub in_place : low ≡ lowered greys
  pub text : Wrote output 0 (map_text side (lowered greys)) next after

pub lowered_put : {side : ℕ} (greys : List ℕ) {output low after : List ℕ} {next : ℕ} → low ≡ lowered greys
    → Wrote output 0 (map_text side low) next after → LoweredPut side greys output low next after
lowered_put greys e w = record { in_place = e; text = rw e at w }

-- ---- how long a text is: at most four bytes for each grey
fields_length : (values ends : List ℕ) → AtMost 255 values → length (fields_text values ends) ≤ 4 * length values
unfolding fields_text
fields_length [] ends small = omega arith
fields_length (v ∷ values) [] small = omega arith
fields_length (v ∷ values) (end ∷ ends) small =
    omega (
      arith,
      length-append (decimal v) (end ∷ fields_text values ends),
      length_decimal 3 v (omega arith) (omega (arith, small 0 (omega arith))),
      fields_length values ends (λ i h. small (suc i) (omega arith)),
    )

pub map_length : {side : ℕ} (greys : List ℕ) → MapLent side (length greys) → AtMost 255 greys
    → length (map_text side greys) ≤ length (decimal side) + 1 + 4 * length greys
map_length {side} greys lent small =
    let fields = fields_text greys (map_ends side) in
    rw (map_text_fields side greys lent.some_side lent.whole)
    (omega (arith, length-append (decimal side) (newline ∷ fields), fields_length greys (map_ends side) small))
