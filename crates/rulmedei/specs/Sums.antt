-- Numbers stored one by one in the first places, as far as there are places, are so many of them copied
-- (`sets_copied`).
use Rattle.std.specs.Prelude.{◌≡◌, refl, List, [], ◌∷◌, ◌++◌, ℕ, suc, ◌+◌, ◌≤◌, min, length, take, drop, set}
use Rattle.std.proofs.Common.{sym, ap, ◌∙◌, arith, add-zero, zero-add, length-take-le, take_all, take-append-drop}
use Rattle.std.proofs.Common.{length-set, drop_of_length-le}
use Rattle.std.proofs.Math.Seq.{set_out}
use Rattle.std.proofs.Math.Decide.{dec_le}
use Rattle.std.proofs.lemmas.List.Edits.{sets, sets-eq}

-- past the end nothing is stored
sets_out : (xs l : List ℕ) (i : ℕ) → length l ≤ i → sets l i xs ≡ l
sets_out [] l i h = refl
sets_out (x ∷ xs) l i h = rw (set_out l i x h) (sets_out xs l (suc i) (omega arith))

sets_both : (xs ys l : List ℕ) (i : ℕ) → sets l i (xs ++ ys) ≡ sets (sets l i xs) (i + length xs) ys
sets_both [] ys l i = rw (add-zero i)
sets_both (x ∷ xs) ys l i =
    let e : suc i + length xs ≡ i + suc (length xs) = omega arith in
    sets_both xs ys (set l i x) (suc i) ∙ ap (λ (n : ℕ). sets (sets (set l i x) (suc i) xs) n ys) e

length_sets : (xs l : List ℕ) (i : ℕ) → length (sets l i xs) ≡ length l
length_sets [] l i = refl
length_sets (x ∷ xs) l i = length_sets xs (set l i x) (suc i) ∙ length-set l i x

pub sets_copied : (xs l : List ℕ) {n : ℕ} → n ≡ min (length l) (length xs) → take n xs ++ drop n l ≡ sets l 0 xs
sets_copied xs l {n} e = sym (parts ∙ past ∙ front)
  where
    long : length (take n xs) ≡ n
    long = length-take-le n xs (omega arith)

    parts : sets l 0 xs ≡ sets (sets l 0 (take n xs)) n (drop n xs)
    parts =
        ap (sets l 0) (sym (take-append-drop n xs)) ∙ sets_both (take n xs) (drop n xs) l 0
        ∙ ap (λ (m : ℕ). sets (sets l 0 (take n xs)) m (drop n xs)) (zero-add (length (take n xs)) ∙ long)

    past : sets (sets l 0 (take n xs)) n (drop n xs) ≡ sets l 0 (take n xs)
    past =
        elim (dec_le (length xs) n) [
          | yes h ↦ rw (drop_of_length-le xs h)
          | no h ↦ sets_out (drop n xs) (sets l 0 (take n xs)) n (omega (arith, length_sets (take n xs) l 0))
        ]

    front : sets l 0 (take n xs) ≡ take n xs ++ drop n l
    front =
        sets-eq (take n xs) l 0 (omega (arith, long)) ∙ ap (λ (m : ℕ). take n xs ++ drop m l) (zero-add _ ∙ long)
