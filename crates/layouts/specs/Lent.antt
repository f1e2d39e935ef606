-- A lent pyramid in one layout and in the other: `as_rows` and `as_quarters` undo each other on every list
-- (`rows_quarters`, `quarters_rows`); its length stays, and so does what lies past the needed length (`rows_length`,
-- `rows_drop`).
use Rattle.std.specs.Prelude.{◌≡◌, List, ◌++◌, ℕ, suc, ◌+◌, ◌*◌, ◌^◌, ◌≤◌, ◌<◌, length, get_or, take, drop, ℤ, pos}
use Rattle.std.proofs.Common.{sym, ap, ap₂, ◌∙◌, arith, length-append, length-drop, take-append-drop, get_or-take}
use Rattle.std.proofs.Common.{take_at, drop_at, length-take-le}
use Rattle.std.proofs.Math.Decide.{dec_lt}
use borrow.Author.Tests.{lt-ltb, le-ltb}
use Rattle.definition.specs.Pyramid.{start, needed, entry, place_in}
use Rattle.definition.specs.Quarters.{interleaved, quarter_entry, rows_from, quarters_from, relaid, as_rows}
use Rattle.definition.specs.Quarters.{as_quarters}
use Rattle.quadtree.specs.Levels.{start_suc, start_mono, place_lt}
use Rattle.layouts.specs.Interleaved.{interleaved_lt}
use Rattle.layouts.specs.Relaid.{
  length_rows,
  length_quarters,
  rows_back,
  quarters_back,
  rows_ext,
  quarters_ext,
}

-- ---- only the needed length is read
module _ (r : ℕ) (pyramid : List ℤ) where
  within : (k i : ℕ) → k ≤ r → i < 2 ^ k * 2 ^ k
      → get_or (take (needed r) pyramid) (start k + i) (pos 0) ≡ get_or pyramid (start k + i) (pos 0)
  within k i h lt =
      get_or-take (needed r) pyramid (start k + i) (pos 0)
      (omega (arith, lt, start_suc k, start_mono (suc k) (suc r) (omega arith)))

  pub quarter_taken : (k a b : ℕ) → k ≤ r
      → quarter_entry (take (needed r) pyramid) k a b ≡ quarter_entry pyramid k a b
  unfolding quarter_entry
  quarter_taken k a b h = within k (interleaved k a b) h (interleaved_lt k a b)

  pub rows_taken : rows_from r (take (needed r) pyramid) ≡ rows_from r pyramid
  unfolding quarter_entry
  rows_taken = rows_ext r _ _ (λ k a b h p q. within k (interleaved k a b) h (interleaved_lt k a b))

  pub quarters_taken : quarters_from r (take (needed r) pyramid) ≡ quarters_from r pyramid
  unfolding entry
  quarters_taken = quarters_ext r _ _ (λ k a b h p q. within k (place_in k a b) h (place_lt k a b p q))

-- ---- written anew, in either direction
module _ (from : ℕ → List ℤ → List ℤ) (r : ℕ) (pyramid : List ℤ) where
  relaid_short : length pyramid < needed r → relaid from r pyramid ≡ pyramid
  unfolding relaid
  relaid_short h = rw (relaid, lt-ltb (length pyramid) (needed r) h)

  relaid_long : needed r ≤ length pyramid → relaid from r pyramid ≡ from r pyramid ++ drop (needed r) pyramid
  unfolding relaid
  relaid_long h = rw (relaid, le-ltb (length pyramid) (needed r) h)

  module _ (whole : (p : List ℤ) → length (from r p) ≡ needed r) where
    relaid_take : needed r ≤ length pyramid → take (needed r) (relaid from r pyramid) ≡ from r pyramid
    relaid_take h =
        ap (take (needed r)) (relaid_long h)
        ∙ take_at (from r pyramid) (drop (needed r) pyramid) (needed r) (whole pyramid)

    relaid_drop : drop (needed r) (relaid from r pyramid) ≡ drop (needed r) pyramid
    relaid_drop = go (dec_lt (length pyramid) (needed r))
      where
        go : Dec (length pyramid < needed r) → drop (needed r) (relaid from r pyramid) ≡ drop (needed r) pyramid
        go (yes h) = ap (drop (needed r)) (relaid_short h)
        go (no h) =
            ap (drop (needed r)) (relaid_long (omega arith))
            ∙ drop_at (from r pyramid) (drop (needed r) pyramid) (needed r) (whole pyramid)

    relaid_length : length (relaid from r pyramid) ≡ length pyramid
    relaid_length = go (dec_lt (length pyramid) (needed r))
      where
        go : Dec (length pyramid < needed r) → length (relaid from r pyramid) ≡ length pyramid
        go (yes h) = ap length (relaid_short h)
        go (no h) =
            ap length (relaid_long (omega arith))
            ∙ omega (
              arith,
              length-append (from r pyramid) (drop (needed r) pyramid),
              whole pyramid,
              length-drop (needed r) pyramid,
            )

module _ (r : ℕ) (pyramid : List ℤ) where
  pub rows_length : length (as_rows r pyramid) ≡ length pyramid
  unfolding as_rows
  rows_length = relaid_length rows_from r pyramid (length_rows r)

  pub as_quarters_length : length (as_quarters r pyramid) ≡ length pyramid
  unfolding as_quarters
  as_quarters_length = relaid_length quarters_from r pyramid (length_quarters r)

  pub rows_short : length pyramid < needed r → as_rows r pyramid ≡ pyramid
  unfolding as_rows
  rows_short h = relaid_short rows_from r pyramid h

  pub as_quarters_short : length pyramid < needed r → as_quarters r pyramid ≡ pyramid
  unfolding as_quarters
  as_quarters_short h = relaid_short quarters_from r pyramid h

  pub rows_take : needed r ≤ length pyramid → take (needed r) (as_rows r pyramid) ≡ rows_from r pyramid
  unfolding as_rows
  rows_take h = relaid_take rows_from r pyramid (length_rows r) h

  pub as_quarters_take : needed r ≤ length pyramid
      → take (needed r) (as_quarters r pyramid) ≡ quarters_from r pyramid
  unfolding as_quarters
  as_quarters_take h = relaid_take quarters_from r pyramid (length_quarters r) h

  -- what lies past the needed length stays (S 2.9)
  pub rows_drop : drop (needed r) (as_rows r pyramid) ≡ drop (needed r) pyramid
  unfolding as_rows
  rows_drop = relaid_drop rows_from r pyramid (length_rows r)

  pub as_quarters_drop : drop (needed r) (as_quarters r pyramid) ≡ drop (needed r) pyramid
  unfolding as_quarters
  as_quarters_drop = relaid_drop quarters_from r pyramid (length_quarters r)

-- a part of the needed length with something behind it
pub rows_part : (r : ℕ) (part rest : List ℤ) → length part ≡ needed r
    → as_rows r (part ++ rest) ≡ rows_from r part ++ rest
unfolding as_rows
rows_part r part rest e =
    relaid_long rows_from r (part ++ rest) (omega (arith, e, length-append part rest))
    ∙ ap₂ ◌++◌
    (sym (rows_taken r (part ++ rest)) ∙ ap (rows_from r) (take_at part rest (needed r) e))
    (drop_at part rest (needed r) e)

pub as_quarters_part : (r : ℕ) (part rest : List ℤ) → length part ≡ needed r
    → as_quarters r (part ++ rest) ≡ quarters_from r part ++ rest
unfolding as_quarters
as_quarters_part r part rest e =
    relaid_long quarters_from r (part ++ rest) (omega (arith, e, length-append part rest))
    ∙ ap₂ ◌++◌
    (sym (quarters_taken r (part ++ rest)) ∙ ap (quarters_from r) (take_at part rest (needed r) e))
    (drop_at part rest (needed r) e)

-- ---- there and back
pub rows_quarters : (r : ℕ) (pyramid : List ℤ) → as_rows r (as_quarters r pyramid) ≡ pyramid
rows_quarters r pyramid = go (dec_lt (length pyramid) (needed r))
  where
    go : Dec (length pyramid < needed r) → as_rows r (as_quarters r pyramid) ≡ pyramid
    go (yes h) = ap (as_rows r) (as_quarters_short r pyramid h) ∙ rows_short r pyramid h
    go (no h) =
        let le : needed r ≤ length pyramid = omega arith in
        let whole = length-take-le (needed r) pyramid le in
        ap (λ (p : List ℤ). as_rows r (as_quarters r p)) (sym (take-append-drop (needed r) pyramid))
        ∙ ap (as_rows r) (as_quarters_part r (take (needed r) pyramid) (drop (needed r) pyramid) whole)
        ∙ rows_part r (quarters_from r (take (needed r) pyramid)) (drop (needed r) pyramid) (length_quarters r _)
        ∙ ap (λ (l : List ℤ). l ++ drop (needed r) pyramid) (rows_back r (take (needed r) pyramid) whole)
        ∙ take-append-drop (needed r) pyramid

pub quarters_rows : (r : ℕ) (pyramid : List ℤ) → as_quarters r (as_rows r pyramid) ≡ pyramid
quarters_rows r pyramid = go (dec_lt (length pyramid) (needed r))
  where
    go : Dec (length pyramid < needed r) → as_quarters r (as_rows r pyramid) ≡ pyramid
    go (yes h) = ap (as_quarters r) (rows_short r pyramid h) ∙ as_quarters_short r pyramid h
    go (no h) =
        let le : needed r ≤ length pyramid = omega arith in
        let whole = length-take-le (needed r) pyramid le in
        ap (λ (p : List ℤ). as_quarters r (as_rows r p)) (sym (take-append-drop (needed r) pyramid))
        ∙ ap (as_quarters r) (rows_part r (take (needed r) pyramid) (drop (needed r) pyramid) whole)
        ∙ as_quarters_part r (rows_from r (take (needed r) pyramid)) (drop (needed r) pyramid) (length_rows r _)
        ∙ ap (λ (l : List ℤ). l ++ drop (needed r) pyramid) (quarters_back r (take (needed r) pyramid) whole)
        ∙ take-append-drop (needed r) pyramid
