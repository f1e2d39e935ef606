-- Tally's and Levels' two ways out: refused (`tally_refused`, `levels_refused`), and answered (`tally_dots`,
-- `levels_summed`).
use Rattle.std.specs.Prelude.{◌≡◌, cond, ◌||◌, List, ltb, eqb, length, Result, Ok, Err}
use Prim.Native.Nat.{ℕ, suc, ◌-◌, ◌^◌}
use Rattle.std.proofs.Common.{arith}
use Rattle.std.proofs.Math.Dec.{leb}
use borrow.Author.Tests.{ltb-false, leb-false, eqb-false}
use Rattle.definition.specs.Lists.{tabulate}
use Rattle.definition.specs.Answers.{value_says, done_says, levels_sums, number_of}
use Rattle.definition.specs.Blocks.{dots_in}
use Rattle.definition.specs.Pyramid.{cell_count}
use Rattle.definition.specs.Refusals.{power_of}
use Rattle.definition.specs.Survey.{tally_refusal, tally_of, level_sum, levels_refusal, levels_of}
use Rattle.definition.specs.declared.Refusal.{Refusal}
use Rattle.integers.specs.Tests.{or_false}
use Rattle.refusals.specs.Powers.{power_small}
use Rattle.refusals.specs.Lowest.{lowest_none}
use Rattle.refusals.specs.Numbers.{number_positive}
use Rattle.checks.specs.Checks.{checked, passed_none, failed_number}
use Rattle.blocks.specs.Blocks.{BlockAsked}
use Rattle.survey.specs.BlockErrors.{LevelsAsked}

module _ (side : ℕ) {r : ℕ} (er : r ≡ power_of side) where
  module _ (s : List ℕ) (k a b : ℕ) where
    pub tally_refused : (why : Refusal) {answer : Result ℕ Refusal}
        → checked (Err why) ≡ tally_refusal r (length s) k a b → answer ≡ Err why
        → value_says answer ≡ tally_of side s k a b
    unfolding tally_of value_says
    tally_refused why e ea =
        let n : tally_refusal (power_of side) (length s) k a b
        ≡ suc (number_of why - 1) = rw (← er) (failed_number why e) in
        rw (ea, n, tally_of, ← number_positive why)

    module _ (e : checked (Ok tt) ≡ tally_refusal r (length s) k a b) where
      pub tally_asked : BlockAsked (length s) r k a b
      unfolding tally_refusal
      tally_asked =
          let r₁ = lowest_none 1 (eqb r 0) _ (omega arith) (passed_none e) in
          let r₂ = lowest_none 4 (ltb (length s) (cell_count r)) _ (omega arith) r₁.1 in
          let r₃ = lowest_none 6 (ltb r k || leb (2 ^ k) a || leb (2 ^ k) b) _ (omega arith) r₂.1 in
          let o₂ = or_false (ltb r k || leb (2 ^ k) a) (leb (2 ^ k) b) r₃.0 in
          let o₁ = or_false (ltb r k) (leb (2 ^ k) a) o₂.0 in
          record {
            power = omega (arith, eqb-false r 0 r₁.0);
            powers = power_small side er;
            level = ltb-false _ _ o₁.0;
            above = leb-false _ _ o₁.1;
            before = leb-false _ _ o₂.1;
            room = ltb-false _ _ r₂.0;
          }

      pub tally_dots : {n : ℕ} → n ≡ dots_in r s k a b → value_says (Ok n) ≡ tally_of side s k a b
      unfolding tally_of value_says
      tally_dots en =
          let z : tally_refusal (power_of side) (length s) k a b ≡ 0 = rw (← er) (passed_none e) in
          rw (en, er, z, tally_of)

  module _ (g s : List ℕ) where
    pub levels_refused : (why : Refusal) {answer : Result (List ℕ) Refusal}
        → checked (Err why) ≡ levels_refusal r (length g) (length s) → answer ≡ Err why
        → record { sums = levels_sums answer; said = done_says answer } ≡ levels_of side g s
    unfolding levels_of done_says
    levels_refused why e ea =
        let n : levels_refusal (power_of side) (length g) (length s)
        ≡ suc (number_of why - 1) = rw (← er) (failed_number why e) in
        rw (ea, n, levels_of, ← number_positive why)

    module _ (e : checked (Ok tt) ≡ levels_refusal r (length g) (length s)) where
      pub levels_asked : LevelsAsked (length g) (length s) r
      unfolding levels_refusal
      levels_asked =
          let r₁ = lowest_none 1 (eqb r 0) _ (omega arith) (passed_none e) in
          let r₂ = lowest_none 2 (ltb (length g) (cell_count r)) _ (omega arith) r₁.1 in
          let r₃ = lowest_none 4 (ltb (length s) (cell_count r)) _ (omega arith) r₂.1 in
          record {
            power = omega (arith, eqb-false r 0 r₁.0);
            powers = power_small side er;
            greys_room = ltb-false _ _ r₂.0;
            serials_room = ltb-false _ _ r₃.0;
          }

      pub levels_summed : {l : List ℕ} → l ≡ tabulate 9 (λ k. cond (leb k r) (level_sum r g s k) 0)
          → record { sums = levels_sums (Ok l); said = done_says {A = List ℕ} (Ok l) } ≡ levels_of side g s
      unfolding levels_of done_says
      levels_summed el =
          let z : levels_refusal (power_of side) (length g) (length s) ≡ 0 = rw (← er) (passed_none e) in
          rw (el, er, z, levels_of)
