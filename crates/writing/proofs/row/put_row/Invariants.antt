use Rattle.writing.proofs.Filling.{FilledWithin}
use Rattle.writing.proofs.row.put_row.Given as goal

abbrev pub invariant-loop-next : goal.invariant-loop-next
invariant-loop-next l = FilledWithin l.whole l.initial.output l.output l.link l.count l.next-index
