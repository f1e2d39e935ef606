-- `survey::Map::walk_cells`: four cells, and the block itself.
use Rattle.survey.specs.Walk.{join_asked, block_walked}
use Rattle.survey.proofs.Map.walk_cells.Goals as goal

pub join-requires : goal.join-requires
join-requires c =
    join_asked c.requires
    c.walk_cell-p.ensures c.walk_cell-q.ensures c.walk_cell-s.ensures
    c.walk_cell-t.ensures

pub returns : goal.returns
returns c =
    block_walked c.requires
    c.walk_cell-p.ensures c.walk_cell-q.ensures c.walk_cell-s.ensures c.walk_cell-t.ensures
    c.join.ensures
