-- What a writer leaves (`Wrote`): bytes stored from a place on, as far as there are places, and the place behind them;
-- one writer after another (`wrote_append`), and how long a number is (`length_decimal`).
use Rattle.std.specs.Prelude.{◌≡◌, refl, ℕ, zero, suc, ◌+◌, ◌-◌, ◌/◌, ◌%◌, ◌^◌, ◌<◌, ◌≤◌, drop, set, replicate}
use Rattle.std.proofs.Common.{sym, ap, ◌∙◌, add_assoc, add-suc, suc-add, add-zero, zero-add, pow-suc, div-lt_iff_lt-mul}
use Rattle.std.proofs.Common.{add-one, arith}
use mathlib.Core.List.{List, [], ◌∷◌, ◌++◌, append_assoc}
use Rattle.std.proofs.Math.Decide.{dec_lt}
use Rattle.std.proofs.Math.Nat.{one-le-pow}
use Rattle.std.proofs.Math.ListN.{length, length-append}
use Rattle.std.proofs.lemmas.List.{length-replicate, replicate-append-replicate}
use Rattle.std.proofs.lemmas.List.Edits.{sets, sets-eq}
use Rattle.std.proofs.Math.Seq.{set_out, length-sets}
use Rattle.definition.specs.Lists.{joined}
use Rattle.definition.specs.Text.{decimal, space, right_aligned}
use Rattle.grammar.specs.Decimal.{decimal_below_ten, decimal_from_ten}

-- a number and the byte that ends it; the same, right aligned
unfoldable pub field_text : ℕ → ℕ → List ℕ
field_text n end = decimal n ++ end ∷ []

unfoldable pub column_text : ℕ → ℕ → ℕ → List ℕ
column_text width n end = right_aligned width n ++ end ∷ []

pub record Wrote (before : List ℕ) (at : ℕ) (bytes : List ℕ) (next : ℕ) (after : List ℕ) : Type 0 where
  pub place : next ≡ at + length bytes
  pub stored : after ≡ sets before at bytes

sets_append : (a b l : List ℕ) (i : ℕ) → sets (sets l i a) (i + length a) b ≡ sets l i (a ++ b)
sets_append [] b l i = ap (λ (k : ℕ). sets l k b) (add-zero i)
sets_append (x ∷ a) b l i =
    ap (λ (k : ℕ). sets (sets (set l i x) (suc i) a) k b) (add-suc i (length a) ∙ sym (suc-add i (length a)))
    ∙ sets_append a b (set l i x) (suc i)

pub wrote_none : {l : List ℕ} {at : ℕ} → Wrote l at [] at l
wrote_none {l} {at} = record { place = sym (add-zero at); stored = refl }

-- one writer, then another from where it ended
pub wrote_append : {l l₁ l₂ a b : List ℕ} {at r s : ℕ} → Wrote l at a r l₁ → Wrote l₁ r b s l₂
    → Wrote l at (a ++ b) s l₂
wrote_append {l} {l₁} {l₂} {a} {b} {at} {r} {s} x y =
    record {
      place = y.place ∙ rw (x.place, length-append a b, add_assoc at (length a) (length b));
      stored = y.stored ∙ rw (x.stored, x.place) (sets_append a b l at);
    }

-- texts one behind the other: none of them, and one more
module _ (f : ℕ → List ℕ) where
  pub wrote_joined_none : {l : List ℕ} {at : ℕ} → Wrote l at (joined 0 f) at l
  unfolding joined
  wrote_joined_none = wrote_none

  pub wrote_joined_more : {l l₁ l₂ : List ℕ} {at r s : ℕ} (i : ℕ) → Wrote l at (joined i f) r l₁ → Wrote l₁ r (f i) s l₂
      → Wrote l at (joined (i + 1) f) s l₂
  unfolding joined
  wrote_joined_more i x y = rw (add-one i) (wrote_append x y)

pub wrote_length : {l l₁ a : List ℕ} {at r : ℕ} → Wrote l at a r l₁ → length l₁ ≡ length l
wrote_length {l} {l₁} {a} {at} x = ap length x.stored ∙ length-sets l at a

-- all of them, where the buffer has room from its first place on
pub sets_front : (bytes l : List ℕ) → length bytes ≤ length l → sets l 0 bytes ≡ bytes ++ drop (length bytes) l
sets_front bytes l h = sets-eq bytes l 0 (omega arith) ∙ rw (zero-add (length bytes))

-- ---- one byte
pub byte_inside : (l : List ℕ) (at b : ℕ) → Wrote l at (b ∷ []) (at + 1) (set l at b)
byte_inside l at b = record { place = refl; stored = refl }

pub byte_outside : (l : List ℕ) (at b : ℕ) → length l ≤ at → Wrote l at (b ∷ []) (at + 1) l
byte_outside l at b h = record { place = refl; stored = sym (set_out l at b h) }

-- ---- spaces
pub spaces_end : {l l₁ : List ℕ} {at a : ℕ} (i : ℕ) → Wrote l at (replicate i space) a l₁ → a ≡ at + i
spaces_end i w = omega (arith, w.place, length-replicate i space)

module _ {l l₁ l₂ : List ℕ} {at a b : ℕ} where
  pub one_more_space : (i : ℕ) → Wrote l at (replicate i space) a l₁ → Wrote l₁ a (space ∷ []) b l₂
      → Wrote l at (replicate (i + 1) space) b l₂
  one_more_space i x y = rw (← replicate-append-replicate i 1 space) (wrote_append x y)

  -- at a place that is `a` itself
  pub space_at : at ≤ a → Wrote l at (replicate (a - at) space) a l₁ → Wrote l₁ a (space ∷ []) b l₂
      → Wrote l at (replicate (a + 1 - at) space) (a + 1) l₂
  space_at h x y =
      let e : a + 1 - at ≡ a - at + 1 = omega arith in
      rw (e, ← y.place) (one_more_space (a - at) x y)

  -- ---- a number behind spaces: its last digit behind all that comes before it, in a place less
  module _ (width n : ℕ) {before : ℕ} (e : before ≡ width - 1) where
    pub one_digit : n < 10 → Wrote l at (replicate before space) a l₁ → Wrote l₁ a ((48 + n) ∷ []) b l₂
        → Wrote l at (right_aligned width n) b l₂
    unfolding right_aligned
    one_digit h x y = rw (decimal_below_ten n h, ← e) (wrote_append x y)

    pub more_digits : 10 ≤ n → Wrote l at (right_aligned before (n / 10)) a l₁ → Wrote l₁ a ((48 + n % 10) ∷ []) b l₂
        → Wrote l at (right_aligned width n) b l₂
    unfolding right_aligned
    more_digits h x y = rw aligned (wrote_append x y)
      where
        aligned : right_aligned width n ≡ right_aligned before (n / 10) ++ (48 + n % 10) ∷ []
        aligned =
            let tenth = decimal (n / 10) in
            let last = (48 + n % 10) ∷ [] in
            let blanks : width - length (tenth ++ last)
            ≡ before - length tenth = omega (arith, length-append tenth last) in
            rw (decimal_from_ten n h, blanks, append_assoc)

-- in no places at all it is the number itself
no_width : (n : ℕ) → right_aligned 0 n ≡ decimal n
unfolding right_aligned
no_width n = let e : 0 - length (decimal n) ≡ 0 = omega arith in rw e

pub number_wrote : {l l₁ : List ℕ} {at a : ℕ} (n : ℕ) → Wrote l at (right_aligned 0 n) a l₁
    → Wrote l at (decimal n) a l₁
number_wrote n w = rw (no_width n) at w

pub field_wrote : {l l₁ : List ℕ} {at a : ℕ} (n end : ℕ) → Wrote l at (column_text 0 n end) a l₁
    → Wrote l at (field_text n end) a l₁
unfolding column_text field_text
field_wrote n end w = rw (no_width n) at w

-- ---- how long a number is: `digits` of them at most
pub length_decimal : (digits n : ℕ) → 0 < digits → n < 10 ^ digits → length (decimal n) ≤ digits
length_decimal zero n p h = absurd (omega arith)
length_decimal (suc digits) n p h =
    elim (dec_lt n 10) [
      | yes q ↦ rw (decimal_below_ten n q) (omega arith)
      | no q ↦ rw (decimal_from_ten n (omega arith), length-append)
          (longer digits (length_decimal digits (n / 10)) h (omega arith))
    ]
  where
    longer : (digits : ℕ) → (0 < digits → n / 10 < 10 ^ digits → length (decimal (n / 10)) ≤ digits)
        → n < 10 ^ suc digits → 10 ≤ n → length (decimal (n / 10)) + 1 ≤ suc digits
    longer zero ih h q = absurd (omega arith)
    longer (suc digits) ih h q =
        omega (arith, ih (omega arith) ((div-lt_iff_lt-mul (omega arith)).1 (rw (pow-suc 10 (suc digits)) at h)))

-- ---- how long a number is, to the digit: one below 10, and from there on one more than a tenth of it has
pub length_below_ten : (n : ℕ) → n < 10 → 1 ≡ length (decimal n)
length_below_ten n h = rw (decimal_below_ten n h)

length_from_ten : (n : ℕ) → 10 ≤ n → length (decimal n) ≡ length (decimal (n / 10)) + 1
length_from_ten n h = rw (decimal_from_ten n h) (length-append (decimal (n / 10)) ((48 + n % 10) ∷ []))

-- k + 1 from the power k of ten up to the next
pub length_between : (k n : ℕ) → 10 ^ k ≤ n → n < 10 ^ suc k → suc k ≡ length (decimal n)
length_between zero n low high = length_below_ten n high
length_between (suc k) n low high =
    let lower : 10 ^ k ≤ n / 10 = omega (arith, pow-suc 10 k) in
    let higher : n / 10 < 10 ^ suc k = omega (arith, pow-suc 10 (suc k)) in
    omega (
      arith,
      length_from_ten n (omega (arith, pow-suc 10 k, one-le-pow k 10 (omega arith))),
      length_between k (n / 10) lower higher,
    )

-- without its last five digits
pub length_five_off : (n : ℕ) → 100000 ≤ n → length (decimal n) ≡ length (decimal (n / 100000)) + 5
length_five_off n h =
    let e : n / 10 / 10 / 10 / 10 / 10 ≡ n / 100000 = omega arith in
    rw (← e) (omega (
      arith,
      length_from_ten n (omega arith),
      length_from_ten (n / 10) (omega arith),
      length_from_ten (n / 10 / 10) (omega arith),
      length_from_ten (n / 10 / 10 / 10) (omega arith),
      length_from_ten (n / 10 / 10 / 10 / 10) (omega arith),
    ))

pub length_right : (width n : ℕ) → length (right_aligned width n) ≡ width - length (decimal n) + length (decimal n)
unfolding right_aligned
length_right width n =
    let blanks = width - length (decimal n) in
    omega (arith, length-append (replicate blanks space) (decimal n), length-replicate blanks space)

-- a 64-bit number has at most 20 digits
module _ (n : ℕ) (small : n < 2 ^ 64) where
  pub length_number : length (decimal n) ≤ 20
  length_number = length_decimal 20 n (omega arith) (omega arith)

  pub number_end : {l l₁ : List ℕ} {at r : ℕ} → Wrote l at (decimal n) r l₁ → r ≤ at + 20
  number_end w = omega (arith, w.place, length_number)

  pub right_end : {l l₁ : List ℕ} {at r : ℕ} (width : ℕ) → Wrote l at (right_aligned width n) r l₁ → r ≤ at + width + 20
  right_end width w = omega (arith, w.place, length_right width n, length_number)

  pub column_wrote : {l l₁ l₂ : List ℕ} {at a b : ℕ} (width end : ℕ) → Wrote l at (right_aligned width n) a l₁
      → Wrote l₁ a (end ∷ []) b l₂
      → Wrote l at (column_text width n end) b l₂ × (b ≤ at + width + 21)
  unfolding column_text
  column_wrote width end x y = (wrote_append x y, omega (arith, right_end width x, y.place))

  pub length_field_text : (end : ℕ) → length (field_text n end) ≤ 21
  unfolding field_text
  length_field_text end = omega (arith, length-append (decimal n) (end ∷ []), length_number)

  pub field_end : {l l₁ : List ℕ} {at r : ℕ} (end : ℕ) → Wrote l at (field_text n end) r l₁ → r ≤ at + 21
  field_end end w = omega (arith, w.place, length_field_text end)
