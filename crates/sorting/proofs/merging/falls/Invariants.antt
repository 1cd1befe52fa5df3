use Rattle.std.proofs.Common.{◌≡◌, ◌≤◌, ◌-◌}
use lib.ListN.{get_or, drop}
use Rattle.sorting.specs.Sorting.{goes_before, falls, falls_behind}
use Rattle.sorting.proofs.merging.falls.Given as goal

abbrev pub invariant-loop-next : goal.invariant-loop-next
invariant-loop-next l =
    (1 ≤ l.next) × (falls (goes_before l.book) l.starts ≡ falls_behind (goes_before l.book) (get_or l.starts (l.next - 1) 0) (drop l.next l.starts))
