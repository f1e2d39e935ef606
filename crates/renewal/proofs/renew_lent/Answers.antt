-- `renewal::renew_lent`: nothing where the renewal can't be made, and else the renewal of the needed part.
use borrow.Author.Rules.{rules}
use Rattle.refusals.specs.Powers.{power_small}
use Rattle.renewal.specs.Lent.{left_alone, part_in, length_part, around_asked, renew_asked, made}
use Rattle.renewal.proofs.renew_lent.Goals as goal

pub returns-then-not-is_renewable : goal.returns-then-not-is_renewable
returns-then-not-is_renewable c =
    search (left_alone, rules)

pub needed-needed-requires : goal.needed-needed-requires
needed-needed-requires c =
    search (power_small, rules)

pub pow2-requires : goal.pow2-requires
pow2-requires c =
    search (power_small, rules)

pub parts_around-p-requires : goal.parts_around-p-requires
parts_around-p-requires c =
    search (around_asked, rules)

pub slice_bounds-renew-end : goal.slice_bounds-renew-end
slice_bounds-renew-end c =
    search (part_in, rules)

pub slice_bounds-renew-end-2 : goal.slice_bounds-renew-end-2
slice_bounds-renew-end-2 c =
    search (length_part, rules)

pub renew-requires : goal.renew-requires
renew-requires c =
    search (renew_asked, rules)

pub returns : goal.returns
returns c =
    search (made, c.renew.auto.pyramid, rules)
