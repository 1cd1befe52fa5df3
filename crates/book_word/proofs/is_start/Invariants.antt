use Prim.Native.Nat.{◌-◌}
use Rattle.lookup.proofs.Walk.{Ahead}
use Rattle.book_word.specs.WordAt.{entry_starting}
use Rattle.book_word.proofs.is_start.Given as goal

abbrev pub invariant-loop-at : goal.invariant-loop-at
invariant-loop-at l = Ahead (λ list. entry_starting list l.start) l.book l.at l.free

abbrev pub decreases-loop-at : goal.decreases-loop-at
decreases-loop-at l = l.free - l.at
