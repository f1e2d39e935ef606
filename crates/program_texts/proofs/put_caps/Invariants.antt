-- `program_texts::put_caps`: one more line in each turn.
use Rattle.program_texts.specs.Sketching.{CapsWritten}
use Rattle.program_texts.proofs.put_caps.Given as goal

abbrev pub invariant-loop-i : goal.invariant-loop-i
invariant-loop-i l = CapsWritten l.initial.out l.from l.k l.caps l.i l.at l.out
