-- Every refusal has a number above 0, so 0 stands for none (`number_positive`).
use Rattle.std.specs.Prelude.{◌≡◌, refl, suc, ◌-◌}
use Rattle.definition.specs.Answers.{number_of}
use Rattle.definition.specs.declared.Refusal.{Refusal}
use Rattle.definition.specs.declared.Refusal.TheVariants.{
  SideUnknown,
  GreysShort,
  PyramidShort,
  SheetShort,
  SheetUnsound,
  BlockUnknown,
  TextMalformed,
  OutputShort,
  InputLong,
  NameUnknown,
  KnitUnknown,
  GreyHigh,
  PairFalls,
  SideSmall,
}

-- the numbers begin at 1 (S 5.1)
pub number_positive : (why : Refusal) → number_of why ≡ suc (number_of why - 1)
unfolding number_of
number_positive SideUnknown = refl
number_positive GreysShort = refl
number_positive PyramidShort = refl
number_positive SheetShort = refl
number_positive SheetUnsound = refl
number_positive BlockUnknown = refl
number_positive TextMalformed = refl
number_positive OutputShort = refl
number_positive InputLong = refl
number_positive NameUnknown = refl
number_positive KnitUnknown = refl
number_positive GreyHigh = refl
number_positive PairFalls = refl
number_positive SideSmall = refl
