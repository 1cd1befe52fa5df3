use Rattle.recogniser.specs.Walked.{Walked}
use Rattle.recogniser.proofs.walk.walk_word.Given as goal

abbrev pub invariant-loop-at : goal.invariant-loop-at
invariant-loop-at l = Walked l.word l.at l.state l.count
