-- The list written line by line (`head_wrote`, `dot_wrote`, `list_wrote`), and into a buffer that has room for it
-- (`list_written`) or not (`list_short`).
use Rattle.std.specs.Prelude.{◌≡◌, refl, List, [], ◌∷◌, ◌++◌, ℕ, suc, ◌+◌, ◌/◌, ◌%◌, ◌^◌, ◌<◌, ◌≤◌, get_or, take, Ok}
use Rattle.std.specs.Prelude.{Err}
use Rattle.std.proofs.Common.{sym, ap, ◌∙◌, append_assoc, append-nil, add-zero, div-le_self, add-one, pow_pos, pow_mono}
use Rattle.std.proofs.Common.{length-append, take-suc, take_all, length-take-le}
use Rattle.std.proofs.Math.Nat.{zero-add, mod-le}
use native.Mathlib.Omega.{arith}
use borrow.Author.Tests.{lt-ltb, le-ltb}
use Rattle.std.proofs.Math.ListN.{length}
use Rattle.std.proofs.Math.Seq.{append_snoc}
use Rattle.definition.specs.Answers.{value_says, number_of}
use Rattle.definition.specs.Refusals.{output_short, lowest}
use Rattle.definition.specs.Text.{comma, newline, decimal, line, TextOutcome, text_into}
use Rattle.definition.specs.DrillList.{dot_lines}
use Rattle.definition.specs.declared.Refusal.TheVariants.{OutputShort}
use Rattle.decimals.specs.Writing.{field_text, length_number, Wrote, wrote_none, wrote_append, sets_front}

-- the list of the first `dots` cells of an order list
unfoldable pub list_text : ℕ → ℕ → List ℕ → List ℕ
list_text r dots order = line (dots ∷ 2 ^ r ∷ []) ++ dot_lines r 1 (take dots order)

-- a list into a buffer that has room for it; or a refusal
abbrev pub listed_in : List ℕ → List ℕ → TextOutcome
listed_in list output = text_into (lowest (output_short (length list) (length output) ∷ [])) list output

-- a power, and so many cells in an order list
pub record ListAsked (r dots order : ℕ) : Type 0 where
  pub small : r ≤ 8
  pub few : dots ≤ 65536
  pub listed : dots ≤ order

-- ---- lines
line_two : (a b : ℕ) → line (a ∷ b ∷ []) ≡ field_text a comma ++ field_text b newline
unfolding line field_text
line_two a b = sym (append_snoc (decimal a) comma (decimal b ++ newline ∷ []))

line_three : (a b c : ℕ) → line (a ∷ b ∷ c ∷ []) ≡ field_text a comma ++ (field_text b comma ++ field_text c newline)
unfolding line field_text
line_three a b c = rw (append_snoc (decimal a) comma _, append_snoc (decimal b) comma _)

-- `side` is what the code has worked out for 2 ^ r
module _ {side : ℕ} (r : ℕ) (e : side ≡ 2 ^ r) where
  pub some_side : 0 < side
  some_side = omega (arith, pow_pos r)

  module _ {l l₁ l₂ : List ℕ} {at a b : ℕ} where
    pub head_wrote : (dots : ℕ) → Wrote l at (field_text dots comma) a l₁ → Wrote l₁ a (field_text side newline) b l₂
        → Wrote l at (line (dots ∷ 2 ^ r ∷ [])) b l₂
    head_wrote dots x y = rw (← e, line_two dots side) (wrote_append x y)

    pub dot_wrote : {l₃ : List ℕ} {c : ℕ} (serial cell : ℕ) → Wrote l at (field_text serial comma) a l₁
        → Wrote l₁ a (field_text (cell / side) comma) b l₂
        → Wrote l₂ b (field_text (cell % side) newline) c l₃
        → Wrote l at (line (serial ∷ cell / 2 ^ r ∷ cell % 2 ^ r ∷ [])) c l₃
    dot_wrote serial cell x y z =
        rw (← e, line_three serial (cell / side) (cell % side)) (wrote_append x (wrote_append y z))

-- ---- the lines of dots
dot_lines_snoc : (r j : ℕ) (cells : List ℕ) (cell : ℕ)
    → dot_lines r j (cells ++ cell ∷ []) ≡ dot_lines r j cells
    ++ line ((j + length cells) ∷ cell / 2 ^ r ∷ cell % 2 ^ r ∷ [])
unfolding dot_lines
dot_lines_snoc r j [] cell = rw (add-zero j, append-nil)
dot_lines_snoc r j (x ∷ cells) cell =
    let e : suc j + length cells ≡ j + suc (length cells) = omega arith in
    rw (dot_lines_snoc r (suc j) cells cell, e, append_assoc)

pub no_dots : {l : List ℕ} {at : ℕ} (r : ℕ) → Wrote l at (dot_lines r 1 []) at l
unfolding dot_lines
no_dots r = wrote_none

module _ (r : ℕ) (order : List ℕ) (j : ℕ) (h : j < length order) where
  -- one dot more: its line behind those of the first j
  taken : dot_lines r 1 (take (j + 1) order)
      ≡ dot_lines r 1 (take j order) ++ line ((j + 1) ∷ get_or order j 0 / 2 ^ r ∷ get_or order j 0 % 2 ^ r ∷ [])
  taken =
      let e : 1 + j ≡ j + 1 = omega arith in
      ap (λ (k : ℕ). dot_lines r 1 (take k order)) (add-one j)
      ∙ ap (dot_lines r 1) (take-suc order j 0 h)
      ∙ dot_lines_snoc r 1 (take j order) (get_or order j 0)
      ∙ rw (length-take-le j order (omega arith), e)

  pub one_more_dot : {l l₁ l₂ : List ℕ} {at a b : ℕ} → Wrote l at (dot_lines r 1 (take j order)) a l₁
      → Wrote l₁ a (line ((j + 1) ∷ get_or order j 0 / 2 ^ r ∷ get_or order j 0 % 2 ^ r ∷ [])) b l₂
      → Wrote l at (dot_lines r 1 (take (j + 1) order)) b l₂
  one_more_dot x y = rw taken (wrote_append x y)

-- ---- how long a line is, and where it ends
pub length_two : (a b : ℕ) → length (line (a ∷ b ∷ [])) ≡ length (decimal a) + length (decimal b) + 2
unfolding line
length_two a b =
    omega (
      arith,
      length-append (decimal a) (comma ∷ (decimal b ++ newline ∷ [])),
      length-append (decimal b)
          (newline ∷ []),
    )

pub length_three : (a b c : ℕ)
    → length (line (a ∷ b ∷ c ∷ [])) ≡ length (decimal a) + length (decimal b) + length (decimal c) + 3
unfolding line
length_three a b c = omega (arith, length-append (decimal a) (comma ∷ line (b ∷ c ∷ [])), length_two b c)

module _ {l l₁ : List ℕ} {at next : ℕ} (r : ℕ) where
  pub head_end : (dots : ℕ) → dots < 2 ^ 64 → r ≤ 8 → Wrote l at (line (dots ∷ 2 ^ r ∷ [])) next l₁ → next ≤ at + 42
  head_end dots p small w =
      omega (
        arith,
        w.place,
        length_two dots (2 ^ r),
        length_number dots p,
        length_number (2 ^ r)
            (omega (arith, pow_mono {i = r} {j = 8} small)),
      )

  pub dot_end : (serial cell : ℕ) → serial < 2 ^ 64 → cell < 2 ^ 64
      → Wrote l at (line (serial ∷ cell / 2 ^ r ∷ cell % 2 ^ r ∷ [])) next l₁ → next ≤ at + 63
  dot_end serial cell p q w =
      let row = cell / 2 ^ r in
      let column = cell % 2 ^ r in
      omega (
        arith,
        w.place,
        length_three serial row column,
        length_number serial p,
        length_number row (omega (arith, div-le_self cell (2 ^ r))),
        length_number column (omega (arith, mod-le cell (2 ^ r))),
      )

-- ---- lengths that are added up, each a number's digits and one byte more
module _ {side : ℕ} (r : ℕ) (e : side ≡ 2 ^ r) {a b : ℕ} where
  pub head_adds : (dots : ℕ) → a ≡ length (decimal dots) + 1 → b ≡ length (decimal side) + 1
      → a + b ≡ length (line (dots ∷ 2 ^ r ∷ []))
  head_adds dots x y = rw (← e, length_two dots side) (omega arith)

  pub dot_adds : {c : ℕ} (serial cell : ℕ) → a ≡ length (decimal serial) + 1 → b ≡ length (decimal (cell / side)) + 1
      → c ≡ length (decimal (cell % side)) + 1 → a + b + c ≡ length (line (serial ∷ cell / 2 ^ r ∷ cell % 2 ^ r ∷ []))
  dot_adds serial cell x y z = rw (← e, length_three serial (cell / side) (cell % side)) (omega arith)

pub no_dots_add : (r : ℕ) → 0 ≡ length (dot_lines r 1 [])
unfolding dot_lines
no_dots_add r = refl

module _ (r : ℕ) (order : List ℕ) (j : ℕ) (h : j < length order) {a b : ℕ} where
  pub one_more_adds : a ≡ length (dot_lines r 1 (take j order))
      → b ≡ length (line ((j + 1) ∷ get_or order j 0 / 2 ^ r ∷ get_or order j 0 % 2 ^ r ∷ []))
      → a + b ≡ length (dot_lines r 1 (take (j + 1) order))
  one_more_adds x y = rw (taken r order j h, length-append) (omega arith)

module _ (r : ℕ) (cells : List ℕ) where
  all_listed : list_text r (length cells) cells ≡ line (length cells ∷ 2 ^ r ∷ []) ++ dot_lines r 1 cells
  unfolding list_text
  all_listed = rw (take_all (length cells) cells (omega arith))

  pub list_adds : {a b : ℕ} → a ≡ length (line (length cells ∷ 2 ^ r ∷ [])) → b ≡ length (dot_lines r 1 cells)
      → a + b ≡ length (list_text r (length cells) cells)
  list_adds x y = rw (all_listed, length-append) (omega arith)

  -- ---- the whole list
  pub list_wrote : {l l₁ l₂ : List ℕ} {a b : ℕ} → Wrote l 0 (line (length cells ∷ 2 ^ r ∷ [])) a l₁
      → Wrote l₁ a (dot_lines r 1 cells) b l₂
      → Wrote l 0 (list_text r (length cells) cells) b l₂
  list_wrote x y = rw all_listed (wrote_append x y)

-- the cells of the dots, which stand at the front of an order list
pub list_front : (r dots : ℕ) (order : List ℕ) → dots ≤ length order
    → list_text r (length (take dots order)) (take dots order) ≡ list_text r dots order
unfolding list_text
list_front r dots order h =
    rw (length-take-le dots order h, take_all dots (take dots order) (omega (arith, length-take-le dots order h)))

-- n is its length, worked out before: it says whether there is room
module _ (list output : List ℕ) {n : ℕ} (long : n ≡ length list) where
  pub list_short : length output < n
      → record { said = value_says (Err OutputShort); output = output } ≡ listed_in list output
  unfolding text_into lowest value_says number_of
  list_short h = rw (lt-ltb (length output) (length list) (omega arith))

  pub list_written : n ≤ length output → {m : ℕ} {after : List ℕ} → Wrote output 0 list m after
      → record { said = value_says (Ok m); output = after } ≡ listed_in list output
  unfolding text_into lowest value_says
  list_written h w =
      let room : length list ≤ length output = omega arith in
      let fits = le-ltb (length output) (length list) room in
      rw (w.stored, sets_front list output room, w.place, zero-add (length list), fits)
