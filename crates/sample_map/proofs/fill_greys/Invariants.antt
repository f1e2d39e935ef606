-- `sample_map::fill_greys`: the places so far are filled.
use Rattle.sample_map.specs.Filled.{Sampled}
use Rattle.sample_map.proofs.fill_greys.Given as goal

abbrev pub invariant-loop-grey : goal.invariant-loop-grey
invariant-loop-grey l = Sampled l.seed l.grey-index l.initial.greys l.state l.greys
