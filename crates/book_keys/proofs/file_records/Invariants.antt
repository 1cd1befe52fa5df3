use Prim.Native.Nat.{◌-◌}
use Rattle.book_keys.proofs.Collecting.{Collected}
use Rattle.book_keys.proofs.file_records.Given as goal

abbrev pub invariant-loop-at : goal.invariant-loop-at
invariant-loop-at l = Collected l.book l.free l.initial.keys l.initial.starts l.keys l.starts l.live l.at

abbrev pub decreases-loop-at : goal.decreases-loop-at
decreases-loop-at l = l.free - l.at
