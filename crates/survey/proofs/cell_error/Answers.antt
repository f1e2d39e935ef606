-- `survey::cell_error`: by the two laws on a cell.
use native.Mathlib.Omega.{arith}
use Rattle.integers.specs.Totals.{read}
use Rattle.survey.specs.Errors.{error_none, error_dot}
use Rattle.survey.proofs.cell_error.Goals as goal

pub returns-then-serial-eq0 : goal.returns-then-serial-eq0
returns-then-serial-eq0 c =
    error_none (omega arith) c.if-serial-eq0.true

pub returns-else-serial-eq0 : goal.returns-else-serial-eq0
returns-else-serial-eq0 c =
    read (error_dot {grey = c.args.grey} (omega arith) c.if-serial-eq0.false) (omega arith)
