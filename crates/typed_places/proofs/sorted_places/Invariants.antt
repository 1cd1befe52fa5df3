use Rattle.typed_places.proofs.Passing.{SortedFrom}
use Rattle.typed_places.proofs.sorted_places.Given as goal

abbrev pub invariant-loop-at : goal.invariant-loop-at
invariant-loop-at l = SortedFrom l.word l.places l.at
