use Prim.Native.Nat.{◌-◌, ◌≤◌}
use Rattle.tidying.proofs.Closing.{Closing}
use Rattle.tidying.proofs.close_gaps.Given as goal

abbrev pub invariant-loop-at : goal.invariant-loop-at
invariant-loop-at l = Closing l.initial.book l.free l.book l.at l.kept × (l.at ≤ l.free)

abbrev pub decreases-loop-at : goal.decreases-loop-at
decreases-loop-at l = l.free - l.at
