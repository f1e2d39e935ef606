-- The error of a cell (`error_none`, `error_dot`), and the sum of four errors, with the square of it added to the sum
-- of a level (`joined`).
use Rattle.std.specs.Prelude.{◌≡◌, refl, List, ℕ, ◌+◌, ◌*◌, ◌^◌, ◌≤◌, ◌<◌, get_or, set, ℤ, pos, nat_abs, ◌+ℤ◌, ◌-ℤ◌}
use Rattle.std.proofs.Common.{arith, to_z, of_z}
use Rattle.std.specs.Int.{w64}
use Rattle.definition.specs.Blocks.{burnt}
use Rattle.definition.specs.Survey.{squared}
use Rattle.integers.specs.Linear.{zz, nat_abs_within}
use Rattle.integers.specs.Machine.{of_bits}
use Rattle.integers.specs.Totals.{TotalZ, add_z, read}
use Rattle.blocks.specs.Squares.{dot_none, dot_one}
use Rattle.survey.specs.BlockErrors.{quarter_most, error_most, AddAsked, JoinAsked, Joined, added}

-- the error of a cell: its grey, less 255 for a dot
abbrev pub cell_error : ℕ → ℕ → ℤ
cell_error grey serial = pos grey -ℤ pos (255 * burnt serial)

-- of a cell without a dot, and of one with a dot
module _ {grey serial : ℕ} (small : grey < 256) where
  pub error_none : serial ≡ 0 → TotalZ (cell_error grey serial) 255 (to_z w64 grey)
  error_none e =
      let b = (dot_none e).is in
      rw (of_bits grey (omega arith), ← b) (record { is = simp zz (omega arith); small = omega arith })

  pub error_dot : (serial ≡ 0 → ⊥) → TotalZ (cell_error grey serial) 255 (to_z w64 grey -ℤ pos 255)
  error_dot n =
      let b = (dot_one n).is in
      let most = nat_abs_within (pos grey -ℤ pos 255) 255 (simp zz (omega arith)) (simp zz (omega arith)) in
      rw (of_bits grey (omega arith), ← b) (record { is = refl; small = most })

-- the number that a machine word has of an integer
abbrev pub word : ℤ → ℤ
word z = to_z w64 (of_z w64 z)

-- a number of a known size, as a word
same : (z : ℤ) (m : ℕ) → nat_abs z ≤ m → m < 2 ^ 63 → TotalZ z m (word z)
same z m small few = read (record { is = refl; small = small }) few

-- the error whose square is added
pub to_add : {sums : List ℕ} {k : ℕ} {e : ℤ} → AddAsked sums k e → TotalZ e error_most (word e)
to_add {e = e} h = same e error_most h.small (omega arith)

pub added_is : (sums : List ℕ) (k : ℕ) {n v : ℕ} → n ≡ v → set sums k (get_or sums k 0 + n) ≡ added sums k v
unfolding added
added_is sums k e = rw e

-- the sum of two, three and four errors
module _ {sums : List ℕ} {k : ℕ} {p q s t : ℤ} (h : JoinAsked sums k p q s t) where
  pub two : TotalZ (p +ℤ q) (quarter_most + quarter_most) (word p +ℤ word q)
  two = add_z (same p _ h.small_p (omega arith)) (same q _ h.small_q (omega arith))

  pub three : TotalZ (p +ℤ q +ℤ s) (quarter_most + quarter_most + quarter_most) (word (word p +ℤ word q) +ℤ word s)
  three = add_z (read two (omega arith)) (same s _ h.small_s (omega arith))

  pub four : TotalZ (p +ℤ q +ℤ s +ℤ t) error_most (word (word (word p +ℤ word q) +ℤ word s) +ℤ word t)
  four = add_z (read three (omega arith)) (same t _ h.small_t (omega arith))

  -- as the code sums them up: its square is added, and it is returned
  abbrev pub sum : ℤ
  sum = word (word (word (word p +ℤ word q) +ℤ word s) +ℤ word t)

  pub join_add : AddAsked sums k sum
  join_add =
      let e = read four (omega arith) in
      record { level = h.level; small = e.small; fits = rw e.is h.fits }

  pub joined : {after : List ℕ} → after ≡ added sums k (squared sum) → Joined sums k p q s t sum after
  joined d = record { error = (read four (omega arith)).is; sums = d }
