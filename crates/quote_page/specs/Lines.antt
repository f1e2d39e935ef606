-- A line of right aligned figures: written column by column (`line_wrote`), and how long it is (`length_line`).
use Rattle.std.specs.Prelude.{◌≡◌, List, [], ◌∷◌, ◌++◌, ℕ, ◌+◌, ◌^◌, ◌<◌, length}
use Rattle.std.proofs.Common.{sym, ap}
use native.Mathlib.Omega.{arith}
use Rattle.std.proofs.Math.ListN.{length-append}
use Rattle.std.proofs.Math.Seq.{append_snoc}
use Rattle.definition.specs.Text.{newline, space, right_aligned}
use Rattle.definition.specs.QuotePage.{Figure, columns, aligned_line}
use Rattle.guarantee.specs.PriceList.{Each, InWidth}
use Rattle.decimals.specs.Writing.{column_text, length_decimal, length_right, Wrote, wrote_append}

-- ---- column by column
first_column : (width n : ℕ) (next : Figure) (rest : List Figure)
    → aligned_line ((width, n) ∷ next ∷ rest) ≡ column_text width n space ++ aligned_line (next ∷ rest)
unfolding aligned_line column_text
first_column width n next rest = sym (append_snoc (right_aligned width n) space (aligned_line (next ∷ rest)))

pub then_column : {l l₁ l₂ : List ℕ} {at a b : ℕ} (width n : ℕ) (next : Figure) (rest : List Figure)
    → Wrote l at (column_text width n space) a l₁ → Wrote l₁ a (aligned_line (next ∷ rest)) b l₂
    → Wrote l at (aligned_line ((width, n) ∷ next ∷ rest)) b l₂
then_column width n next rest x y = rw (first_column width n next rest) (wrote_append x y)

pub last_column : {l l₁ : List ℕ} {at a : ℕ} (width n : ℕ) → Wrote l at (column_text width n newline) a l₁
    → Wrote l at (aligned_line ((width, n) ∷ [])) a l₁
unfolding aligned_line column_text
last_column width n x = x

pub line_wrote : {l l₁ l₂ l₃ l₄ l₅ : List ℕ} {at b c d e f : ℕ} (row column grey dots cap : ℕ)
    → Wrote l at (column_text 3 row space) b l₁ → Wrote l₁ b (column_text 3 column space) c l₂
    → Wrote l₂ c (column_text 8 grey space) d l₃ → Wrote l₃ d (column_text 5 dots space) e l₄
    → Wrote l₄ e (column_text 5 cap newline) f l₅
    → Wrote l at (aligned_line (columns row column grey dots cap)) f l₅
line_wrote row column grey dots cap u v w x y =
    then_column 3 row _ _ u
    (then_column 3 column _ _ v (then_column 8 grey _ _ w (then_column 5 dots _ _ x (last_column 5 cap y))))

-- ---- how long it is: a number that fits its width leaves as many bytes as the column is wide
module _ (width n : ℕ) (some : 0 < width) (fits : n < 10 ^ width) where
  length_column : (end : ℕ) → length (column_text width n end) ≡ width + 1
  unfolding column_text
  length_column end =
      omega (
        arith,
        length-append (right_aligned width n) (end ∷ []),
        length_right width n,
        length_decimal width n some
            fits,
      )

  length_then : (next : Figure) (rest : List Figure)
      → length (aligned_line ((width, n) ∷ next ∷ rest)) ≡ width + 1 + length (aligned_line (next ∷ rest))
  length_then next rest =
      omega (
        arith,
        ap length (first_column width n next rest),
        length-append (column_text width n space)
            (aligned_line (next ∷ rest)),
        length_column space,
      )

  length_last : length (aligned_line ((width, n) ∷ [])) ≡ width + 1
  unfolding aligned_line column_text
  length_last = length_column newline

pub length_line : (row column grey dots cap : ℕ) → Each InWidth (columns row column grey dots cap)
    → length (aligned_line (columns row column grey dots cap)) ≡ 29
length_line row column grey dots cap f =
    omega (
      arith,
      length_then 3 row (omega arith) f.0 (3, column) ((8, grey) ∷ (5, dots) ∷ (5, cap) ∷ []),
      length_then 3 column (omega arith) f.1.0 (8, grey) ((5, dots) ∷ (5, cap) ∷ []),
      length_then 8 grey (omega arith) f.1.1.0 (5, dots) ((5, cap) ∷ []),
      length_then 5 dots (omega arith) f.1.1.1.0 (5, cap) [],
      length_last 5 cap (omega arith) f.1.1.1.1.0,
    )
