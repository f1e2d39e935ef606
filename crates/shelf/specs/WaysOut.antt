-- Shelf's two ways out: refused (`shelf_refused`), and put in order (`shelf_sorted`).
use Rattle.std.specs.Prelude.{◌≡◌, List, ◌++◌, ltb, eqb, length, drop, Result, Ok, Err}
use Prim.Native.Nat.{ℕ, suc, ◌*◌, ◌-◌}
use Rattle.std.proofs.Common.{arith}
use borrow.Author.Tests.{ltb-false, eqb-false}
use Rattle.definition.specs.Answers.{number_of, done_says}
use Rattle.definition.specs.Pyramid.{cell_count}
use Rattle.definition.specs.Refusals.{power_of}
use Rattle.definition.specs.Shelf.{in_order, shelf_refusal, shelf_of}
use Rattle.definition.specs.declared.Refusal.{Refusal}
use Rattle.refusals.specs.Powers.{power_small}
use Rattle.refusals.specs.Lowest.{lowest_none}
use Rattle.refusals.specs.Numbers.{number_positive}
use Rattle.checks.specs.Checks.{checked, passed_none, failed_number}
use Rattle.shelf.specs.PlatesLent.{SortAsked}

module _ (side : ℕ) {r : ℕ} (er : r ≡ power_of side) where
  module _ (n : ℕ) (plates list : List ℕ) where
    pub shelf_refused : (why : Refusal) {answer : Result (Unit {0}) Refusal}
        → checked (Err why) ≡ shelf_refusal r n (length plates) (length list) → answer ≡ Err why
        → record { said = done_says answer; list = list } ≡ shelf_of side n plates list
    unfolding shelf_of done_says
    shelf_refused why e ea =
        let k : shelf_refusal (power_of side) n (length plates) (length list) ≡ suc (number_of why - 1)
        = rw (← er) (failed_number why e) in
        rw (ea, k, shelf_of, ← number_positive why)

    module _ (e : checked (Ok tt) ≡ shelf_refusal r n (length plates) (length list)) where
      pub sort_asked : SortAsked (length plates) (length list) r n
      unfolding shelf_refusal
      sort_asked =
          let r₁ = lowest_none 1 (eqb r 0) _ (omega arith) (passed_none e) in
          let r₂ = lowest_none 4 (ltb (length plates) (n * cell_count r)) _ (omega arith) r₁.1 in
          let r₃ = lowest_none 8 (ltb (length list) n) _ (omega arith) r₂.1 in
          record {
            power = omega (arith, eqb-false r 0 r₁.0);
            powers = power_small side er;
            room = ltb-false _ _ r₂.0;
            places = ltb-false _ _ r₃.0;
          }

      pub shelf_sorted : {after : List ℕ} → after ≡ in_order r plates n ++ drop n list
          → record { said = done_says {A = Unit {0}} (Ok tt); list = after } ≡ shelf_of side n plates list
      unfolding shelf_of done_says
      shelf_sorted h =
          let z : shelf_refusal (power_of side) n (length plates) (length list) ≡ 0
          = rw (← er) (passed_none e) in
          rw (h, er, z, shelf_of)
