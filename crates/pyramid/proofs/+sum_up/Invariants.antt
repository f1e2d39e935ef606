-- `pyramid::sum_up`, by the level: each turn fills the level above and sums up the part before the cells.
use Rattle.pyramid.proofs.+sum_up.Given as goal

abbrev pub decreases-sum_up : goal.decreases-sum_up
decreases-sum_up l = l.k
