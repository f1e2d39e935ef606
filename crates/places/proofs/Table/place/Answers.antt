-- `Table::place`.
use borrow.Author.Rules.{rules}
use native.Mathlib.Omega.{arith}
use Rattle.layouts.specs.Interleaved.{small_lt, place_is}
use Rattle.places.proofs.Table.place.Goals as goal

pub overflow_mul-result : goal.overflow_mul-result
overflow_mul-result c =
    record { fits = omega (arith, small_lt _ _ c.small_place-far.ensures) }

pub overflow_add-result : goal.overflow_add-result
overflow_add-result c =
    record {
      fits = omega (arith, small_lt _ _ c.small_place-far.ensures, small_lt _ _ c.small_place-near.ensures);
    }

pub returns : goal.returns
returns c =
    search (place_is, rules)
