-- The table of places, as the rule has it (`places`, `lent_place`): the proof of `Table::new` computes all 1,024 of
-- them and compares. It is a permutation (`table_once`): its 1,024 numbers are each number below 1,024, once.
use Rattle.std.specs.Prelude.{◌≡◌, refl, List, ℕ, ◌+◌, ◌*◌, ◌/◌, ◌%◌, ◌<◌, length, get_or}
use Rattle.std.proofs.Common.{sym, ap, ◌∙◌, arith}
use Rattle.definition.specs.Lists.{tabulate}
use Rattle.definition.specs.Quarters.{interleaved, row_of, column_of}
use Rattle.integers.specs.Lists.{length_tabulate, get_d_tabulate}
use Rattle.layouts.specs.Interleaved.{
  interleaved_lt,
  row_interleaved,
  column_interleaved,
  interleaved_of,
  row_of_lt,
  column_of_lt,
}

unfoldable pub places : List ℕ
places = tabulate 1024 (λ i. interleaved 5 (i / 32) (i % 32))

-- the rule at each entry
pub lent_place : {t : List ℕ} → t ≡ places → (a b : ℕ) → a < 32 → b < 32
    → get_or t (a * 32 + b) 0 ≡ interleaved 5 a b
unfolding places
lent_place e a b p q =
    let u : (a * 32 + b) / 32 ≡ a = omega arith in
    let v : (a * 32 + b) % 32 ≡ b = omega arith in
    rw (e, get_d_tabulate 1024 (λ i. interleaved 5 (i / 32) (i % 32)) (a * 32 + b) 0 (omega arith), u, v)

-- ---- the table is a permutation
-- a list has this number in it
pub record Has (l : List ℕ) (v : ℕ) : Type 0 where
  pub place : ℕ
  pub inside : place < length l
  pub is : get_or l place 0 ≡ v

-- a list's n numbers are each number below n, once
pub record EachOnce (n : ℕ) (l : List ℕ) : Type 0 where
  pub many : length l ≡ n
  pub below : (i : ℕ) → i < n → get_or l i 0 < n
  pub all : (v : ℕ) → v < n → Has l v
  pub once : (i j : ℕ) → i < n → j < n → get_or l i 0 ≡ get_or l j 0 → i ≡ j

at_entry : (i : ℕ) → i < 1024 → get_or places i 0 ≡ interleaved 5 (i / 32) (i % 32)
unfolding places
at_entry i h = get_d_tabulate 1024 (λ i. interleaved 5 (i / 32) (i % 32)) i 0 h

places_many : length places ≡ 1024
unfolding places
places_many = length_tabulate 0 1024 (λ i. interleaved 5 (i / 32) (i % 32))

has : (v : ℕ) → v < 1024 → Has places v
has v h =
    let p : row_of 5 v < 32 = row_of_lt 5 v in
    let q : column_of 5 v < 32 = column_of_lt 5 v in
    record {
      place = row_of 5 v * 32 + column_of 5 v;
      inside = omega (arith, places_many);
      is = lent_place refl (row_of 5 v) (column_of 5 v) p q ∙ interleaved_of 5 v h;
    }

apart : (i j : ℕ) → i < 1024 → j < 1024 → get_or places i 0 ≡ get_or places j 0 → i ≡ j
apart i j p q e =
    let same : interleaved 5 (i / 32) (i % 32) ≡ interleaved 5 (j / 32) (j % 32) =
    sym (at_entry i p) ∙ e ∙ at_entry j q in
    let row : i / 32 ≡ j / 32 =
    sym (row_interleaved 5 (i / 32) (i % 32) (omega arith)) ∙ ap (row_of 5) same
    ∙ row_interleaved 5 (j / 32) (j % 32) (omega arith) in
    let column : i % 32 ≡ j % 32 =
    sym (column_interleaved 5 (i / 32) (i % 32) (omega arith)) ∙ ap (column_of 5) same
    ∙ column_interleaved 5 (j / 32) (j % 32) (omega arith) in
    omega (arith, row, column)

-- the fixed table of 1,024 places (S 2.5, S 15.14)
pub table_once : EachOnce 1024 places
table_once =
    record {
      many = places_many;
      below = λ i h. omega (arith, at_entry i h, interleaved_lt 5 (i / 32) (i % 32));
      all = has;
      once = apart;
    }
