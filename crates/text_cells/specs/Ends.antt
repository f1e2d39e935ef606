-- The bytes that end the cells of a text, by place (`rows_ends_at`); and those that end its numbers, which are two for
-- each cell of a sketch (`pairs_sketch`).
use Rattle.std.specs.Prelude.{◌≡◌, refl, Bool, true, false, cond, List, [], ◌∷◌, ◌++◌, ℕ, zero, suc, ◌+◌, ◌-◌, ◌*◌, ◌%◌}
use Rattle.std.specs.Prelude.{◌<◌, eqb, length, get_or, replicate}
use Rattle.std.proofs.Common.{sym, ap, ap₂, ◌∙◌, suc-mul, mod-eq_of_lt, arith, get_or-append-add, eq-eqb, ne_eqb}
use Rattle.std.proofs.Math.Decide.{dec_lt, ℕ_discrete}
use Rattle.std.proofs.Math.Nat.{mod_self, add-mod_left}
use Rattle.std.proofs.lemmas.List.{length-replicate, get_or-replicate, get_or_at}
use Rattle.std.proofs.Math.ListN.{get_or-append}
use Rattle.definition.specs.Lists.{repeated}
use Rattle.definition.specs.Text.{comma, newline, line_ends}
use Rattle.definition.specs.MapText.{map_ends}
use Rattle.definition.specs.SketchQuote.{sketch_ends}
use Rattle.grammar.specs.Lines.{NoDigits, length_line_ends, repeated_line_ends_no_digits}

-- the one behind cell i: a comma, or byte 10 at the end of a row
unfoldable pub end_at : ℕ → ℕ → ℕ
end_at side i = cond (eqb ((i + 1) % side) 0) newline comma

module _ (side i : ℕ) where
  pub end_of_row : (i + 1) % side ≡ 0 → 10 ≡ end_at side i
  unfolding end_at
  end_of_row e = rw (eq-eqb ((i + 1) % side) 0 e)

  pub end_in_row : ((i + 1) % side ≡ 0 → ⊥) → 44 ≡ end_at side i
  unfolding end_at
  end_in_row n = rw (ne_eqb ((i + 1) % side) 0 n)

-- ---- the i-th end is this one
line_ends_at : (side i : ℕ) → i < side → get_or (line_ends side) i 0 ≡ end_at side i
unfolding line_ends
line_ends_at side i h =
    elim (ℕ_discrete (i + 1) side) [
      | yes e ↦
          get_or_at (replicate (side - 1) comma) newline [] 0 i (length-replicate (side - 1) comma ∙ omega arith)
          ∙ end_of_row side i (rw e (mod_self side))
      | no n ↦
          get_or-append (replicate (side - 1) comma) (newline ∷ []) 0 i
          (omega (arith, length-replicate (side - 1) comma))
          ∙ get_or-replicate (side - 1) i comma 0 (omega arith)
          ∙ end_in_row side i (λ z. let k : (i + 1) % side ≡ i + 1 = mod-eq_of_lt (omega arith) in omega arith)
    ]

end_at_next_row : (side i : ℕ) → end_at side (side + i) ≡ end_at side i
unfolding end_at
end_at_next_row side i = let e : side + i + 1 ≡ side + (i + 1) = omega arith in rw (e, add-mod_left side (i + 1))

pub rows_ends_at : (side rows i : ℕ) → 0 < side → i < rows * side
    → get_or (repeated rows (line_ends side)) i 0 ≡ end_at side i
unfolding repeated
rows_ends_at side zero i p h = absurd (omega arith)
rows_ends_at side (suc rows) i p h =
    let l = length_line_ends side p in
    elim (dec_lt i side) [
      | yes k ↦
          get_or-append (line_ends side) (repeated rows (line_ends side)) 0 i (omega arith) ∙ line_ends_at side i k
      | no k ↦
          let j = i - side in
          let e : i ≡ length (line_ends side) + j = omega arith in
          let f : i ≡ side + j = omega arith in
          ap (λ (m : ℕ). get_or (line_ends side ++ repeated rows (line_ends side)) m 0) e
          ∙ get_or-append-add (line_ends side) (repeated rows (line_ends side)) j 0
          ∙ rows_ends_at side rows j p (omega (arith, suc-mul rows side))
          ∙ sym (end_at_next_row side j)
          ∙ sym (ap (end_at side) f)
    ]

-- ---- the ends of the numbers: in a sketch a comma stands between the two of a cell
abbrev pub number_ends : Bool → List ℕ → List ℕ
number_ends false ends = ends
number_ends true [] = []
number_ends true (end ∷ ends) = comma ∷ end ∷ number_ends true ends

pairs_append : (a b : List ℕ) → number_ends true (a ++ b) ≡ number_ends true a ++ number_ends true b
pairs_append [] b = refl
pairs_append (end ∷ a) b = ap (λ (l : List ℕ). comma ∷ end ∷ l) (pairs_append a b)

pairs_line : (k : ℕ)
    → number_ends true (replicate k comma ++ newline ∷ []) ≡ replicate (suc (2 * k)) comma ++ newline ∷ []
pairs_line zero = refl
pairs_line (suc k) =
    let two : 2 * suc k ≡ suc (suc (2 * k)) = omega arith in
    ap (λ (l : List ℕ). comma ∷ comma ∷ l) (pairs_line k)
    ∙ sym (ap (λ (n : ℕ). replicate (suc n) comma ++ newline ∷ []) two)

pairs_line_ends : (n : ℕ) → 0 < n → number_ends true (line_ends n) ≡ line_ends (2 * n)
unfolding line_ends
pairs_line_ends n p =
    let k : 2 * n - 1 ≡ suc (2 * (n - 1)) = omega arith in
    pairs_line (n - 1) ∙ sym (ap (λ (m : ℕ). replicate m comma ++ newline ∷ []) k)

pairs_lines : (n m : ℕ) → 0 < n → number_ends true (repeated m (line_ends n)) ≡ repeated m (line_ends (2 * n))
unfolding repeated
pairs_lines n zero p = refl
pairs_lines n (suc m) p =
    pairs_append (line_ends n) (repeated m (line_ends n)) ∙ ap₂ ◌++◌ (pairs_line_ends n p) (pairs_lines n m p)

-- N lines of N pairs are N lines of 2 N numbers
pub pairs_sketch : (side : ℕ) → 0 < side → number_ends true (map_ends side) ≡ sketch_ends side
pairs_sketch side p = pairs_lines side side p

pub ends_no_digits : (pairs : Bool) (side : ℕ) → 0 < side → NoDigits (number_ends pairs (map_ends side))
ends_no_digits false side p = repeated_line_ends_no_digits side side
ends_no_digits true side p = rw (pairs_sketch side p) (repeated_line_ends_no_digits (2 * side) side)
