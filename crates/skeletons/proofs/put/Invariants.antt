use Rattle.skeletons.proofs.Filling.{Filled}
use Rattle.skeletons.proofs.put.Given as goal

abbrev pub invariant-loop-x : goal.invariant-loop-x
invariant-loop-x l = Filled l.word l.initial.output l.output l.next l.x-index
