-- One level filled from the next finer one, which lies behind it (`filled_level`): the four below the entry at place i
-- lie side by side (`four_are`).
use Rattle.std.specs.Prelude.{◌≡◌, List, ◌++◌, ℕ, ◌+◌, ◌*◌, ◌-◌, ◌^◌, ◌≤◌, ◌<◌, get_or, drop, ℤ, pos}
use Rattle.std.proofs.Math.Path.{refl, ap₂}
use Rattle.std.proofs.Common.{sym, ap, ◌∙◌, arith, get_or-drop, drop-drop}
use Rattle.std.proofs.Math.IntN.{◌+ℤ◌}
use Rattle.definition.specs.Pyramid.{cell_count}
use Rattle.integers.specs.Fill.{filled, length_filled, filled_past, drop_filled}
use Rattle.layouts.specs.Sums.{four_from, coarser_from}
use Rattle.pyramid.specs.PyramidPart.{four_at, Within, FourAsked, SumsAsked}

module _ (part : List ℤ) (size i : ℕ) where
  -- one of the four
  one : (j m n : ℕ) → m ≡ 4 * i + j → n ≡ size + m → get_or part n (pos 0) ≡ get_or (drop size part) m (pos 0)
  one j m n e f = ap (λ (x : ℕ). get_or part x (pos 0)) f ∙ sym (get_or-drop size part m (pos 0))

  pub four_are : four_at part (size + 4 * i) 2 ≡ four_from (drop size part) i
  unfolding four_at four_from
  four_are =
      ap₂ ◌+ℤ◌
      (ap₂ ◌+ℤ◌
      (ap₂ ◌+ℤ◌ (one 0 (4 * i) _ (omega arith) (omega arith)) (one 1 (4 * i + 1) _ refl (omega arith)))
      (one 2 (4 * i + 2) _ refl (omega arith)))
      (one 3 (4 * i + 3) _ refl (omega arith))

  -- they lie in the part
  pub four_asked : SumsAsked part size → i < size → FourAsked part (size + 4 * i) 2
  four_asked h lt =
      record {
        room = omega (arith, h.whole);
        first = h.small (4 * i);
        second = moved 1 _ (omega arith);
        third = moved 2 _ (omega arith);
        fourth = moved 3 _ (omega arith);
      }
    where
      moved : (j n : ℕ) → size + (4 * i + j) ≡ n → Within (2 ^ 60) (get_or part n (pos 0))
      moved j n e = rw (← e) (h.small (4 * i + j))

pub asked_size : {part : List ℤ} {n size : ℕ} → size ≡ n → SumsAsked part n → SumsAsked part size
asked_size e h = rw e h

-- what is stored in the first level is not read for it
module _ (part : List ℤ) (size : ℕ) (h : SumsAsked part size) (f : ℕ → ℤ) (n : ℕ) (le : n ≤ size) where
  pub asked_filled : SumsAsked (filled f n part) size
  asked_filled =
      record {
        some = h.some;
        most = h.most;
        whole = length_filled f n part (omega (arith, h.whole)) ∙ h.whole;
        small = λ i. rw (filled_past f n part (size + i) (pos 0) (omega arith)) (h.small i);
      }

  pub below_filled : drop size (filled f n part) ≡ drop size part
  below_filled =
      let e : n + (size - n) ≡ size = omega arith in
      rw (← e)
      (sym (drop-drop (size - n) n (filled f n part)) ∙ ap (drop (size - n)) (drop_filled f n part)
      ∙ drop-drop (size - n) n part)

-- all places filled: the level of sums, and the rest as it was
pub filled_level : (k : ℕ) (part : List ℤ)
    → filled (four_from (drop (cell_count k) part)) (cell_count k) part
    ≡ coarser_from k (drop (cell_count k) part) ++ drop (cell_count k) part
unfolding filled coarser_from
filled_level k part = refl
