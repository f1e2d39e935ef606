-- `macroblock::work`: idle where it owes too little or its cell is on its rim, else its cell burnt.
use borrow.Author.Rules.{rules}
use Rattle.macroblock.specs.Work.{asked, descent_asked, little_idle, rim_idle, place_asked, burnt}
use Rattle.macroblock.proofs.work.Goals as goal

pub debt_of-requires : goal.debt_of-requires
debt_of-requires c =
    search (asked, rules)

pub returns-in_default : goal.returns-in_default
returns-in_default c =
    search (little_idle, rules)

pub descend-cell-requires : goal.descend-cell-requires
descend-cell-requires c =
    search (descent_asked, rules)

pub returns-then-not-lies_clear : goal.returns-then-not-lies_clear
returns-then-not-lies_clear c =
    search (rim_idle, rules)

pub place_at-requires-clause-place_at_asked : goal.place_at-requires-clause-place_at_asked
place_at-requires-clause-place_at_asked c =
    place_asked c.args.knit _ _ _ _ _ _ _ c.requires.large_sheet c.requires.fits c.requires.pyramid_len
    c.in-Some.ensures _ _ c.descend-cell.ensures c.lies_clear.ensures c.if-not-lies_clear.false

pub returns : goal.returns
returns c =
    search (burnt, rules)
