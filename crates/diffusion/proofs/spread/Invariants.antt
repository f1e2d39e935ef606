-- `diffusion::spread`: after n turns the first n shares are taken.
use Rattle.diffusion.specs.Turns.{Turns}
use Rattle.diffusion.proofs.spread.Given as goal

abbrev pub invariant-loop-n : goal.invariant-loop-n
invariant-loop-n l = Turns l.initial.cells l.knit l.r l.row l.column l.d l.all l.cells l.sum l.given l.n
