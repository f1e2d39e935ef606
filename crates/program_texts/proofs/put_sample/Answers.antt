-- `program_texts::put_sample`.
use native.Mathlib.Omega.{arith}
use borrow.Author.Rules.{rules}
use Rattle.program_texts.specs.Sampled.{whole_lent, filled, sample_printed}
use Rattle.program_texts.proofs.put_sample.Goals as goal

pub put_map-requires : goal.put_map-requires
put_map-requires c =
    search (whole_lent, rules)

pub returns : goal.returns
returns c =
    let both = sample_printed (omega arith) (filled _ (omega arith) c.sample.ensures c.lower.ensures) c.put_map.ensures
    in
    record { out_after = both.0; upper_bound = both.1 }
