use Rattle.book_fitting.proofs.Fits.{Kept}
use Rattle.book_fitting.proofs.keep_fitting.Given as goal

abbrev pub invariant-loop-next : goal.invariant-loop-next
invariant-loop-next l = Kept l.keys l.prefix l.initial.starts l.starts l.count l.next
