-- `text_cases::list_map`: a power is at most 8.
use Rattle.refusals.specs.Powers.{power_small}
use Rattle.text_cases.proofs.list_map.Goals as goal

pub needed-requires : goal.needed-requires
needed-requires g c = power_small _ c.power_of-r.ensures

pub cell_count-requires : goal.cell_count-requires
cell_count-requires g c = power_small _ c.power_of-r.ensures
