-- Load's two ways out: refused, with nothing changed (`refused_is`), and loaded (`loaded_is`). Either is told of the
-- pyramid row after row first.
use Rattle.std.specs.Prelude.{◌≡◌, Bool, List, ◌++◌, length, drop, ℤ, Result, Ok, Err}
use Rattle.std.proofs.Common.{◌∙◌}
use Prim.Native.Nat.{ℕ, suc, ◌-◌}
use Rattle.definition.specs.Answers.{load_record, done_says, number_of}
use Rattle.definition.specs.Refusals.{power_of}
use Rattle.definition.specs.Pyramid.{needed}
use Rattle.definition.specs.Model.{model_start}
use Rattle.definition.specs.Load.{low_map, load_refusal, loaded, load_of}
use Rattle.definition.specs.Quarters.{quarters_from, as_rows, as_quarters}
use Rattle.definition.specs.ByQuarters.{load_by_quarters}
use Rattle.definition.specs.declared.Progress.{Progress}
use Rattle.definition.specs.declared.Refusal.{Refusal}
use Rattle.refusals.specs.Powers.{power_small}
use Rattle.refusals.specs.Lowest.{load_none}
use Rattle.refusals.specs.Numbers.{number_positive}
use Rattle.layouts.specs.Lent.{rows_length, rows_drop, as_quarters_part, quarters_rows}
use Rattle.checks.specs.Checks.{checked, passed_none, failed_number}
use Rattle.pyramid.specs.PyramidPart.{fresh_pyramid}
use Rattle.pyramid.specs.Fresh.{fresh_length}
use Rattle.fresh_sheet.specs.Filling.{FillLent, fill_lent, Filled}

module _ (side knit : ℕ) {r : ℕ} (er : r ≡ power_of side) (g : List ℕ) (p : List ℤ) (s o : List ℕ)
    {low : Bool} (el : low ≡ low_map r g) where
  abbrev rows : List ℤ
  rows = as_rows (power_of side) p

  abbrev refusal : ℕ
  refusal =
      load_refusal (power_of side) knit (length g) (length rows) (length s) (length o) (low_map (power_of side) g)

  abbrev lent : ℕ
  lent = load_refusal r knit (length g) (length p) (length s) (length o) low

  lent_rows : lent ≡ refusal
  lent_rows = rw (rows_length (power_of side) p, ← er, ← el)

  pub refused_is : (why : Refusal) {a : Result Progress Refusal} → checked (Err why) ≡ lent → a ≡ Err why
      → record { progress = load_record a; said = done_says a; pyramid = p; serials = s; order = o }
      ≡ load_by_quarters side knit g p s o
  unfolding load_by_quarters load_of done_says
  refused_is why e ea =
      let n : refusal ≡ suc (number_of why - 1) = failed_number why (e ∙ lent_rows) in
      rw (ea, load_by_quarters, n, load_of, quarters_rows (power_of side) p, ← number_positive why)

  module _ (e : checked (Ok tt) ≡ lent) where
    pub room : FillLent r (length g) (length p) (length s) (length o)
    room =
        fill_lent (power_small side er)
        ((load_none r knit (length g) (length p) (length s) (length o) low).0 (passed_none e)).0

    filled_is : as_quarters (power_of side) (fresh_pyramid (power_of side) g ++ drop (needed (power_of side)) rows)
        ≡ quarters_from (power_of side) (fresh_pyramid (power_of side) g) ++ drop (needed (power_of side)) p
    filled_is =
        as_quarters_part (power_of side) (fresh_pyramid (power_of side) g) _ (fresh_length (power_of side) g)
        ∙ rw (rows_drop (power_of side) p)

    pub loaded_is : {p' : List ℤ} {s' o' : List ℕ} → Filled r g p s o p' s' o'
        → record {
          progress = load_record (Ok (record { side = side; dots = 0; knit = knit }));
          said = done_says {A = Progress} (Ok (record { side = side; dots = 0; knit = knit }));
          pyramid = p';
          serials = s';
          order = o';
        } ≡ load_by_quarters side knit g p s o
    unfolding load_by_quarters load_of loaded model_start done_says fresh_pyramid
    loaded_is f =
        let z : refusal ≡ 0 = passed_none (e ∙ lent_rows) in
        rw (f.pyramid, f.serials, f.order, er, load_by_quarters, z, load_of, filled_is)
