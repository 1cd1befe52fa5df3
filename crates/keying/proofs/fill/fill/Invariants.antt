use Rattle.keying.specs.Filling.{Filled}
use Rattle.keying.proofs.fill.fill.Given as goal

abbrev pub invariant-loop-at : goal.invariant-loop-at
invariant-loop-at l = Filled l.word l.at l.state l.window l.bytes
