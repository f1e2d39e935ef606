-- `diffusion::spread_inside`: plain cloth, or any other, which weighs as ribbed.
use borrow.Author.Rules.{rules}
use Rattle.diffusion.specs.Inside.{sum_plain, sum_ribbed, as_ribbed}
use Rattle.diffusion.proofs.spread_inside.Goals as goal

pub spread-requires : goal.spread-requires
spread-requires c =
    record { inside_asked = search rules; all_value = search (sum_plain, rules) }

pub spread-requires-2 : goal.spread-requires-2
spread-requires-2 c =
    record { inside_asked = search rules; all_value = search (sum_ribbed, rules) }

pub returns : goal.returns
returns c =
    search (as_ribbed, rules)
