use native.Mathlib.Omega.{arith}
use Rattle.survey.specs.Walk.{deeper, quarter_asked, room_first, room_second}
use Rattle.survey.specs.Walk.{room_third, room_fourth, join_asked, block_walked}
use Rattle.survey.proofs.Map.+walk.Goals as goal

pub walk-p-requires : goal.walk-p-requires
walk-p-requires t c = (
  omega (arith, c.decreases, c.requires.level),
  deeper (quarter_asked c.requires _ _ (omega arith) (omega arith)) (room_first c.requires) c.if-below-self.false,
)

pub walk-q-requires : goal.walk-q-requires
walk-q-requires t c = (
  omega (arith, c.decreases, c.requires.level),
  deeper (quarter_asked c.requires _ _ (omega arith) (omega arith))
      (room_second c.requires c.walk-p.ensures) c.if-below-self.false,
)

pub walk-s-requires : goal.walk-s-requires
walk-s-requires t c = (
  omega (arith, c.decreases, c.requires.level),
  deeper (quarter_asked c.requires _ _ (omega arith) (omega arith))
      (room_third c.requires c.walk-p.ensures c.walk-q.ensures) c.if-below-self.false,
)

pub walk-t-requires : goal.walk-t-requires
walk-t-requires t c = (
  omega (arith, c.decreases, c.requires.level),
  deeper (quarter_asked c.requires _ _ (omega arith) (omega arith))
      (room_fourth c.requires c.walk-p.ensures c.walk-q.ensures c.walk-s.ensures) c.if-below-self.false,
)

pub join-requires : goal.join-requires
join-requires t c =
    join_asked c.requires c.walk-p.ensures c.walk-q.ensures c.walk-s.ensures
    c.walk-t.ensures

pub returns : goal.returns
returns t c =
    block_walked c.requires c.walk-p.ensures c.walk-q.ensures c.walk-s.ensures c.walk-t.ensures
    c.join.ensures
