-- In the model a name keeps its sheet until it is kept again (`just_kept`, `all_still_kept`), and a return that isn't
-- refused puts that sheet back.
use Rattle.std.specs.Prelude.{◌≡◌, ◌≢◌, Bool, ℕ, ◌-◌, length}
use Rattle.std.proofs.Math.Path.{refl}
use Rattle.std.proofs.Common.{ap, ◌∙◌, arith, get_or-set_same, get_or-set_other}
use Rattle.std.proofs.Math.Bool.{true, false}
use mathlib.Core.List.{List, [], ◌∷◌, ◌++◌}
use Rattle.std.proofs.Math.Option.{some, none}
use Rattle.definition.specs.Checkpoints.{is_name}
use Rattle.definition.specs.Stages.{Action, advancing, keeping, returning, Memory, sheet_at, model_act}
use Rattle.definition.specs.Stages.{memory_after_all}
use Rattle.refusals.specs.Names.{at_least_one, at_most_eight}
use Rattle.guarantee.specs.PriceList.{Each}

-- lists of calls one after the other
pub memory_more : (knit r : ℕ) (m : Memory) (first then : List Action)
    → memory_after_all knit r m (first ++ then) ≡ memory_after_all knit r (memory_after_all knit r m first) then
unfolding memory_after_all
memory_more knit r m [] then = refl
memory_more knit r m (a ∷ rest) then = memory_more knit r (model_act knit r m a) rest then

module _ (knit r : ℕ) (name : ℕ) (is : is_name name ≡ true) where
  -- keeping the name holds the sheet there
  pub just_kept : (m : Memory) → length m.names ≡ 8
      → sheet_at (model_act knit r m (keeping name)) name ≡ some m.sheet
  unfolding model_act sheet_at
  just_kept m eight =
      rw (is, model_act)
      (get_or-set_same m.names (name - 1) (some m.sheet) none
      (omega (arith, at_least_one name is, at_most_eight name is)))

  -- every other call leaves it
  other_kept : (m : Memory) (other : ℕ) → other ≢ name
      → sheet_at (model_act knit r m (keeping other)) name ≡ sheet_at m name
  unfolding model_act sheet_at
  other_kept m other differ = go (is_name other) refl
    where
      go : (b : Bool) → is_name other ≡ b → sheet_at (model_act knit r m (keeping other)) name ≡ sheet_at m name
      go true e =
          rw (e, model_act)
          (get_or-set_other m.names (other - 1) (name - 1) (some m.sheet) none
          (λ q. differ (omega (arith, at_least_one name is, at_least_one other e))))
      go false e = rw (e, model_act)

  still_kept : (m : Memory) (a : Action) → a ≢ keeping name
      → sheet_at (model_act knit r m a) name ≡ sheet_at m name
  unfolding model_act sheet_at
  still_kept m (advancing call) differ = refl
  still_kept m (keeping other) differ = other_kept m other (λ q. differ (ap keeping q))
  still_kept m (returning b) differ = refl

  -- it is held there until the name is kept anew (S 15.9)
  pub all_still_kept : (m : Memory) (between : List Action) → Each (λ a. a ≢ keeping name) between
      → sheet_at (memory_after_all knit r m between) name ≡ sheet_at m name
  unfolding memory_after_all
  all_still_kept m [] differ = refl
  all_still_kept m (a ∷ rest) differ =
      all_still_kept (model_act knit r m a) rest differ.1 ∙ still_kept m a differ.0
