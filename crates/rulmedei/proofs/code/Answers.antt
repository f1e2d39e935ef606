-- `rulmedei::code`, by cases.
use Rattle.rulmedei.specs.FromCalls.{code_with}
use Rattle.rulmedei.proofs.code.Goals as goal
use Rattle.rulmedei.proofs.code.Goals.{in-Ok, in-Err}

pub returns : goal.returns
unfolding code_with
returns g c =
    elim c.match-answer.branch [
      | in-Ok w ↦ rw (w.result-is, w.in-Ok.is)
      | in-Err w ↦ rw (w.result-is, w.in-Err.is, w.number_of.ensures)
    ]
