use Rattle.std.proofs.Common.{◌≡◌, ◌+◌, ◌-◌, ◌<◌, arith}
use borrow.Author.Rules.{rules}
use Rattle.renewal.specs.Upward.{place_asked, place_some, carry_asked, carried_on, top_in, carried_up}
use Rattle.renewal.proofs.carry_up.Goals as goal

pub four_apart-sum-requires : goal.four_apart-sum-requires
four_apart-sum-requires c =
    search (place_asked, rules)

pub carry-sum-requires : goal.carry-sum-requires
carry-sum-requires c =
    carry_asked c.loop-up.invariant (omega arith)

pub over-i-requires : goal.over-i-requires
over-i-requires c =
    place_some c.loop-up.invariant (omega arith)

pub loop-up-preserved : goal.loop-up-preserved
loop-up-preserved c =
    let left = c.args.level - c.loop-up._up in
    let some : 0 < left = omega arith in
    let one : c.args.level - (c.loop-up._up + 1) ≡ left - 1 = omega arith in
    search (carried_on, some, one, rules)

pub bounds-pyramid-0 : goal.bounds-pyramid-0
bounds-pyramid-0 c =
    search (top_in, rules)

pub returns : goal.returns
returns c =
    search (carried_up, rules)
