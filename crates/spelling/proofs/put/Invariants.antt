use Rattle.spelling.proofs.Fronts.{Filled}
use Rattle.spelling.proofs.put.Given as goal

abbrev pub invariant-loop-number : goal.invariant-loop-number
invariant-loop-number l = Filled l.syllables l.initial.values l.initial.starts l.values l.starts l.at l.number
