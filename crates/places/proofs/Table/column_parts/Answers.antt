use Rattle.std.proofs.Common.{◌<◌, ◌≢◌, length, ◌∙◌, arith, get_or-set_other, get_or-set_same, length-set, below_more}
use Rattle.places.proofs.Table.column_parts.Goals as goal

pub loop-b-preserved : goal.loop-b-preserved
loop-b-preserved c =
    record {
      long = simp length-set c.loop-b.invariant.long;
      found = record {
        is = below_more _ _
            (λ k h. let ne : k ≢ c.loop-b.b = omega arith in rw get_or-set_other (c.loop-b.invariant.found.is k h))
            (let lt : c.loop-b.b < length c.loop-b.columns = omega arith in
            get_or-set_same c.loop-b.columns c.loop-b.b c.column_part.result 0 lt ∙ c.column_part.ensures);
      };
    }
