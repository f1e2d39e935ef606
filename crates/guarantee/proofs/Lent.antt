-- Buffers that begin with a sheet. A part of one is lent, from its first place on (`lent_part`), and comes back in
-- front of what was not lent (`lent_back`); of a pyramid by quarters likewise (`rows_part`, `rows_over`).
use Rattle.std.specs.Prelude.{◌≡◌, List, ◌++◌, ℕ, ◌+◌, ◌-◌, ◌^◌, ◌≤◌, ◌<◌, ltb, ℤ, length, take, drop}
use Rattle.std.proofs.Common.{sym, ap, ap₂, ◌∙◌, append_assoc, arith, length-take, length-append, take-append-drop}
use Rattle.std.proofs.Common.{take-take, take_at, drop_at, take-add, drop-drop, lt-ltb, le-ltb}
use Rattle.std.proofs.Math.Decide.{dec_lt}
use Rattle.definition.specs.Model.{Halftone}
use Rattle.definition.specs.Quarters.{rows_from, quarters_from, as_rows, as_quarters}
use Rattle.definition.specs.Pyramid.{needed}
use Rattle.definition.specs.AdvanceList.{Held}
use Rattle.layouts.specs.Relaid.{length_quarters, rows_back}
use Rattle.layouts.specs.Lent.{rows_taken, rows_take, rows_drop, as_quarters_part, quarters_rows}

-- a sheet in buffers that go on with p, s and o, its pyramid by quarters
abbrev pub held_of : ℕ → ℕ → Halftone → List ℤ → List ℕ → List ℕ → Held
held_of knit r t p s o = record {
  progress = record { side = 2 ^ r; dots = t.dots; knit = knit };
  pyramid = quarters_from r t.pyramid ++ p;
  serials = t.serials ++ s;
  order = t.order ++ o;
}

module _ {A : Type 0} where
  -- whether the part is too short does not depend on what the buffer has past the needed length
  pub lent_test : (l : List A) (n m : ℕ) → m ≤ length l → ltb (length (take n l)) m ≡ ltb n m
  lent_test l n m h = go (dec_lt n m)
    where
      go : Dec (n < m) → ltb (length (take n l)) m ≡ ltb n m
      go (yes d) = lt-ltb (length (take n l)) m (omega (arith, length-take n l)) ∙ sym (lt-ltb n m d)
      go (no d) = le-ltb (length (take n l)) m (omega (arith, length-take n l)) ∙ sym (le-ltb n m (omega arith))

  -- the needed part of a part that is long enough
  pub lent_part : (a t : List A) (m n : ℕ) → length a ≡ m → m ≤ n → take m (take n (a ++ t)) ≡ a
  lent_part a t m n e h = take-take m n (a ++ t) h ∙ take_at a t m e

  rest_of : (a t : List A) (m d : ℕ) → length a ≡ m → drop m (take (m + d) (a ++ t)) ++ drop (m + d) (a ++ t) ≡ t
  rest_of a t m d e =
      ap₂ ◌++◌
      (ap (drop m) (take-add m d (a ++ t) ∙ ap₂ ◌++◌ (take_at a t m e) (ap (take d) (drop_at a t m e)))
      ∙ drop_at a (take d t) m e)
      (sym (drop-drop d m (a ++ t)) ∙ ap (drop d) (drop_at a t m e))
      ∙ take-append-drop d t

  -- and the whole buffer after b was written over it
  pub lent_back : (a b t : List A) (m n : ℕ) → length a ≡ m → m ≤ n
      → (b ++ drop m (take n (a ++ t))) ++ drop n (a ++ t) ≡ b ++ t
  lent_back a b t m n e h =
      let z : m + (n - m) ≡ n = omega arith in
      append_assoc b (drop m (take n (a ++ t))) (drop n (a ++ t))
      ∙ ap (λ (l : List A). b ++ l) (rw z at (rest_of a t m (n - m) e))

-- ---- the same of a pyramid by quarters, of which a part is lent
module _ (r : ℕ) (a p : List ℤ) (n : ℕ) (whole : length a ≡ needed r) where
  abbrev part : List ℤ
  part = take n (quarters_from r a ++ p)

  part_long : needed r ≤ n → needed r ≤ length part
  part_long h =
      omega (arith, length-take n (quarters_from r a ++ p), length-append (quarters_from r a) p, length_quarters r a)

  -- long enough, it holds the sheet's pyramid, written row after row
  pub rows_part : needed r ≤ n → take (needed r) (as_rows r part) ≡ a
  rows_part h =
      rows_take r part (part_long h)
      ∙ sym (rows_taken r part)
      ∙ ap (rows_from r) (lent_part (quarters_from r a) p (needed r) n (length_quarters r a) h)
      ∙ rows_back r a whole

  -- and the whole buffer after b was written over it
  pub rows_over : (b : List ℤ) → length b ≡ needed r → needed r ≤ n
      → as_quarters r (b ++ drop (needed r) (as_rows r part)) ++ drop n (quarters_from r a ++ p)
      ≡ quarters_from r b ++ p
  rows_over b e h =
      ap (λ (l : List ℤ). as_quarters r (b ++ l) ++ drop n (quarters_from r a ++ p)) (rows_drop r part)
      ∙ ap (λ (l : List ℤ). l ++ drop n (quarters_from r a ++ p)) (as_quarters_part r b (drop (needed r) part) e)
      ∙ lent_back (quarters_from r a) (quarters_from r b) p (needed r) n (length_quarters r a) h

  -- a part that was not written on
  pub rows_stay : as_quarters r (as_rows r part) ++ drop n (quarters_from r a ++ p) ≡ quarters_from r a ++ p
  rows_stay =
      ap (λ (l : List ℤ). l ++ drop n (quarters_from r a ++ p)) (quarters_rows r part)
      ∙ take-append-drop n (quarters_from r a ++ p)
