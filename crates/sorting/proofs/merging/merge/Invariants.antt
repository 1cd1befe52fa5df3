use Rattle.sorting.specs.Sorting.{goes_before}
use Rattle.sorting.proofs.Turns.{Halfway}
use Rattle.sorting.proofs.merging.merge.Given as goal

abbrev pub invariant-loop-next : goal.invariant-loop-next
invariant-loop-next l = Halfway (goes_before l.book) l.starts l.middle l.initial.room l.room l.first l.second l.next
