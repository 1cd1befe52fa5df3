use Rattle.memory.proofs.Copied.{Copied}
use Rattle.memory.proofs.copies.put_all.Given as goal

abbrev pub invariant-loop-done : goal.invariant-loop-done
invariant-loop-done g l = Copied l.values l.initial.output l.at l.output l.done
