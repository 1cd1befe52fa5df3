use Prim.Native.Nat.{◌-◌, ◌≤◌}
use lib.ListN.{length}
use Rattle.entries.specs.Limits.{book_limit}
use Rattle.book_check.proofs.Passing.{Passed}
use Rattle.book_check.proofs.open.open_book.Given as goal

abbrev pub invariant-loop-at : goal.invariant-loop-at
invariant-loop-at l = (length l.book ≤ book_limit) × Passed l.book l.at l.live l.heads l.links

abbrev pub decreases-loop-at : goal.decreases-loop-at
decreases-loop-at l = length l.book - l.at
