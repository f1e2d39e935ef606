-- A pyramid written by quarters, level by level (`one_laid`, `level_laid`, `all_laid`).
use Rattle.std.specs.Prelude.{◌≡◌, ℕ, zero, suc, ◌+◌, ◌-◌, ◌*◌, ◌/◌, ◌%◌, ◌^◌, ◌≤◌, ◌<◌, length, get_or, set, take}
use Rattle.std.specs.Prelude.{drop, ℤ, pos}
use Rattle.std.proofs.Math.Path.{refl, ap}
use Rattle.std.proofs.Common.{sym, ap₂, ◌∙◌, arith, add-one, length-append, length-take, length-drop, get_or-drop}
use Rattle.std.proofs.Common.{take_all, take_at, drop_at, drop-drop, SFits, to_z, of_z, to_z-of_z}
use mathlib.Core.List.{List, ◌++◌, append_assoc}
use Rattle.std.specs.Int.{w64}
use borrow.Rule.Slice.PartMut.{put_mid, post_of, same_len_mid, mid_len}
use Rattle.definition.specs.Lists.{joined}
use Rattle.definition.specs.Pyramid.{cell_count, needed, start, place_in, in_level, entry}
use Rattle.definition.specs.Quarters.{interleaved, row_of, column_of, quarter_level, quarters_from}
use Rattle.integers.specs.Lists.{tabulate_ext}
use Rattle.quadtree.specs.Levels.{start_suc, start_mono}
use Rattle.layouts.specs.Cells.{length_quarter_level}
use Rattle.layouts.specs.Filling.{Filling, one_filled, all_filled}

-- a level of its own, and one that `from` begins with
pub record LevelAsked (level from k : ℕ) : Type 0 where
  pub small : k ≤ 8
  pub whole : level ≡ cell_count k
  pub long : cell_count k ≤ from

pub record LevelsAsked (second pyramid r : ℕ) : Type 0 where
  pub small : r ≤ 8
  pub second_long : needed r ≤ second
  pub pyramid_long : needed r ≤ pyramid

-- the second pyramid once its first k levels are written
abbrev pub written : ℕ → List ℤ → List ℤ
written k pyramid = joined k (λ j. quarter_level j (entry pyramid j))

pub record Laid (r k : ℕ) (pyramid before second : List ℤ) : Type 0 where
  pub most : k ≤ suc r
  pub long : length second ≡ length before
  pub is : second ≡ written k pyramid ++ drop (start k) before

pub none_laid : (r : ℕ) (pyramid second : List ℤ) → Laid r 0 pyramid second second
unfolding joined start
none_laid r pyramid second = record { most = omega arith; long = refl; is = refl }

length_written : (k : ℕ) (pyramid : List ℤ) → length (written k pyramid) ≡ start k
unfolding joined
length_written zero pyramid = unfold start in refl
length_written (suc k) pyramid =
    omega (
      arith,
      length-append (written k pyramid) (quarter_level k (entry pyramid k)),
      length_written k pyramid,
      length_quarter_level k (entry pyramid k),
      start_suc k,
    )

-- level k of the pyramid, which begins a part of it
level_from : (k : ℕ) (pyramid : List ℤ)
    → quarter_level k (in_level k (drop (start k) pyramid)) ≡ quarter_level k (entry pyramid k)
unfolding quarter_level in_level entry
level_from k pyramid =
    tabulate_ext (2 ^ k * 2 ^ k) _ _ (λ i lt.
    get_or-drop (start k) pyramid (place_in k (row_of k i) (column_of k i)) (pos 0))

-- ---- one level; `side`, `count` and `at` are what the code has worked out
abbrev pub value_at : List ℤ → ℕ → ℤ
value_at from j = get_or from j (pos 0)

module _ (k : ℕ) (small : k ≤ 8) {side count : ℕ} (es : side ≡ 2 ^ k) (ec : count ≡ cell_count k)
    (i : ℕ) (lt : i < count) (from before level : List ℤ) (done : Filling k (value_at from) before i level)
    {at : ℕ} (ea : at ≡ interleaved 8 (i / side) (i % side)) where
  -- a word of the machine is stored
  pub one_laid : {z : ℤ} → SFits w64 z → z ≡ get_or from i (pos 0)
      → Filling k (value_at from) before (i + 1) (set level at (to_z w64 (of_z w64 z)))
  one_laid fits e = one_filled k small es ec i lt (value_at from) before level done ea (to_z-of_z fits ∙ e)

pub level_laid : (k : ℕ) {count : ℕ} → count ≡ cell_count k → (from before level : List ℤ) (i : ℕ)
    → Filling k (value_at from) before i level → count ≤ i → level ≡ quarter_level k (in_level k from)
unfolding in_level
level_laid k ec from before level i done ge = all_filled k ec (value_at from) before level i done ge

-- level starts are small numbers
pub start_few : (k : ℕ) {from : ℕ} → from ≡ start k → k ≤ 8 → from < 65536
start_few k ef h =
    let e : start 8 ≡ 21845 = unfold start in refl in
    omega (arith, ef, e, start_mono k 8 h)

-- ---- one level more; `from` and `until` are what the code has worked out
module _ (r k : ℕ) (pyramid before second : List ℤ) (asked : LevelsAsked (length before) (length pyramid) r)
    (laid : Laid r k pyramid before second) (le : k ≤ r)
    {from until : ℕ} (ef : from ≡ start k) (eu : until ≡ start (k + 1)) where
  ends : until ≡ start k + cell_count k
  ends = eu ∙ rw (add-one k) (start_suc k)

  in_needed : start k + cell_count k ≤ needed r
  in_needed = omega (arith, start_suc k, start_mono (suc k) (suc r) (omega arith))

  pub in_order : from ≤ until
  in_order = omega (arith, ends)

  pub in_second : until ≤ length second
  in_second = omega (arith, ends, in_needed, laid.long, asked.second_long)

  pub in_pyramid : from ≤ length pyramid
  in_pyramid = omega (arith, in_needed, asked.pyramid_long)

  pub level_asked : LevelAsked (length (take (until - from) (drop from second)))
      (length (take (length pyramid - from) (drop from pyramid))) k
  level_asked =
      record {
        small = omega (arith, asked.small);
        whole = omega (arith, ends, length-take (until - from) (drop from second), length-drop from second, in_second);
        long =
            omega (
              arith,
              ends,
              in_needed,
              length-take (length pyramid - from) (drop from pyramid),
              length-drop from pyramid,
              asked.pyramid_long,
            );
      }

  -- what is read is level k, and what is written goes behind the levels before it
  level_is : {level : List ℤ}
      → level ≡ quarter_level k (in_level k (take (length pyramid - from) (drop from pyramid)))
      → level ≡ quarter_level k (entry pyramid k)
  level_is e =
      e
      ∙ ap (λ (l : List ℤ). quarter_level k (in_level k l))
      (take_all (length pyramid - from) (drop from pyramid) (omega (arith, length-drop from pyramid))
      ∙ ap (λ (n : ℕ). drop n pyramid) ef)
      ∙ level_from k pyramid

  front_is : take from second ≡ written k pyramid
  front_is =
      ap₂ take ef laid.is
      ∙ take_at (written k pyramid) (drop (start k) before) (start k) (length_written k pyramid)

  rest_is : post_of from (until - from) second ≡ drop (start (suc k)) before
  rest_is =
      let size : until - from ≡ cell_count k = omega (arith, ends) in
      let next : start k + cell_count k ≡ start (suc k) = omega (arith, start_suc k) in
      ap₂ drop size
      (ap₂ drop ef laid.is
      ∙ drop_at (written k pyramid) (drop (start k) before) (start k) (length_written k pyramid))
      ∙ drop-drop (cell_count k) (start k) before
      ∙ ap (λ (n : ℕ). drop n before) next

  written_more : {level : List ℤ} → level ≡ quarter_level k (entry pyramid k)
      → written k pyramid ++ level ≡ written (suc k) pyramid
  unfolding joined
  written_more e = ap (λ (l : List ℤ). written k pyramid ++ l) e

  pub level_more : {level : List ℤ}
      → level ≡ quarter_level k (in_level k (take (length pyramid - from) (drop from pyramid)))
      → Laid r (k + 1) pyramid before (put_mid from (until - from) second level)
  level_more {level} e =
      record {
        most = omega (arith, le);
        long = same_len_mid from (until - from) second level same ∙ laid.long;
        is =
            ap₂ (λ (a b : List ℤ). a ++ (level ++ b)) front_is rest_is
            ∙ sym (append_assoc (written k pyramid) level (drop (start (suc k)) before))
            ∙ ap (λ (l : List ℤ). l ++ drop (start (suc k)) before) (written_more (level_is e))
            ∙ rw (add-one k) refl;
      }
    where
      same : length level ≡ length (take (until - from) (drop from second))
      same =
          ap length (level_is e) ∙ length_quarter_level k (entry pyramid k)
          ∙ omega (arith, ends, mid_len from until second in_second)

-- all levels
pub all_laid : (r k : ℕ) (pyramid before second : List ℤ) → Laid r k pyramid before second → r < k
    → second ≡ quarters_from r pyramid ++ drop (needed r) before
unfolding quarters_from
all_laid r k pyramid before second laid lt =
    let e : k ≡ suc r = omega (arith, laid.most) in
    rw e at laid.is
