use Rattle.writing.proofs.Measuring.{Measured}
use Rattle.writing.proofs.row.measure.Given as goal

abbrev pub invariant-loop-next : goal.invariant-loop-next
invariant-loop-next l = Measured l.whole l.link l.count l.next-index
