-- The number that a check says, 0 if it passes (`checked`, `passed_none`, `failed_number`); what a call answers whose
-- check failed (`gives_back`); and what the tests of lengths and places tell about the rows of refusals (`short`,
-- `enough`).
use Rattle.std.specs.Prelude.{◌≡◌, true, false, ℕ, suc, ◌-◌, ◌≤◌, ◌<◌, ltb, leb, Result, Ok, Err, IsErrAnd, refl}
use Rattle.std.proofs.Math.Path.{sym, ap}
use Rattle.std.proofs.Common.{◌∙◌, arith, lt-ltb, le-ltb, le-leb}
use Rattle.std.proofs.lemmas.Bool.{lt-leb}
use Rattle.std.proofs.lemmas.Result.{err_from_is_err_and}
use Rattle.definition.specs.Answers.{number_of}
use Rattle.definition.specs.declared.Refusal.{Refusal}
use Rattle.refusals.specs.Numbers.{number_positive}

unfoldable pub checked : Result (Unit {0}) Refusal → ℕ
checked (Ok _) = 0
checked (Err why) = number_of why

-- a check that says n, told apart
pub passed_none : {n : ℕ} → checked (Ok tt) ≡ n → n ≡ 0
unfolding checked
passed_none e = sym e

pub failed_number : {n : ℕ} (why : Refusal) → checked (Err why) ≡ n → n ≡ suc (number_of why - 1)
unfolding checked
failed_number why e = sym e ∙ number_positive why

-- what a call answers whose check failed, where `?` gives it back
pub gives_back : {A : Type 0} (answer : Result A Refusal) (why : Refusal) → IsErrAnd answer (λ e. e ≡ why)
    → answer ≡ Err why
gives_back answer why h = let p = err_from_is_err_and answer h in rw (p.1, p.2) refl

-- fewer places lent than asked, or enough; `asked` is what the code has worked out for `needed`
module _ {lent asked needed : ℕ} (e : asked ≡ needed) where
  pub short : lent < asked → ltb lent needed ≡ true
  short h = lt-ltb lent needed (omega arith)

  pub enough : asked ≤ lent → ltb lent needed ≡ false
  enough h = le-ltb lent needed (omega arith)

-- a row or column past the level's last, or one of its own; `count` is what the code has worked out for `rows`
module _ {place count rows : ℕ} (e : count ≡ rows) where
  pub outside : count ≤ place → leb rows place ≡ true
  outside h = le-leb rows place (omega arith)

  pub inside : place < count → leb rows place ≡ false
  inside h = lt-leb rows place (omega arith)
