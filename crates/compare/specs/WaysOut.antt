-- Compare's two ways out: refused (`compare_refused`), and answered (`compare_answered`).
use Rattle.std.specs.Prelude.{◌≡◌, List, ltb, eqb, length, Result, Ok, Err}
use Rattle.std.proofs.Common.{ap, ◌∙◌, arith}
use Prim.Native.Nat.{ℕ, suc, ◌-◌}
use borrow.Author.Tests.{ltb-false, eqb-false}
use Rattle.definition.specs.Answers.{number_of, comparison, stands, compare_says}
use Rattle.definition.specs.Pyramid.{cell_count}
use Rattle.definition.specs.Refusals.{power_of}
use Rattle.definition.specs.Shelf.{compared, compare_refusal, compare_of}
use Rattle.definition.specs.declared.Refusal.{Refusal}
use Rattle.definition.specs.declared.CompareAnswer.{CompareAnswer}
use Rattle.refusals.specs.Powers.{power_small}
use Rattle.refusals.specs.Lowest.{lowest_none}
use Rattle.refusals.specs.Numbers.{number_positive}
use Rattle.checks.specs.Checks.{checked, passed_none, failed_number}
use Rattle.plate_order.specs.TwoPlates.{PlatesAsked}

module _ (side : ℕ) {r : ℕ} (er : r ≡ power_of side) (a b : List ℕ) where
  pub compare_refused : (why : Refusal) {answer : Result CompareAnswer Refusal}
      → checked (Err why) ≡ compare_refusal r (length a) (length b) → answer ≡ Err why
      → compare_says answer ≡ compare_of side a b
  unfolding compare_of compare_says
  compare_refused why e ea =
      let n : compare_refusal (power_of side) (length a) (length b) ≡ suc (number_of why - 1)
      = rw (← er) (failed_number why e) in
      rw (ea, n, compare_of, ← number_positive why)

  module _ (e : checked (Ok tt) ≡ compare_refusal r (length a) (length b)) where
    pub compare_asked : PlatesAsked (length a) (length b) r
    unfolding compare_refusal
    compare_asked =
        let r₁ = lowest_none 1 (eqb r 0) _ (omega arith) (passed_none e) in
        let r₂ = lowest_none 4 (ltb (length a) (cell_count r)) _ (omega arith) r₁.1 in
        let r₃ = lowest_none 4 (ltb (length b) (cell_count r)) _ (omega arith) r₂.1 in
        record {
          power = omega (arith, eqb-false r 0 r₁.0);
          powers = power_small side er;
          left_room = ltb-false _ _ r₂.0;
          right_room = ltb-false _ _ r₃.0;
        }

    pub compare_answered : (f : CompareAnswer) → stands f ≡ compared r a b
        → compare_says (Ok f) ≡ compare_of side a b
    unfolding compare_of compare_says
    compare_answered f h =
        let z : compare_refusal (power_of side) (length a) (length b) ≡ 0
        = rw (← er) (passed_none e) in
        ap comparison h ∙ rw (er, z, compare_of)
