use mathlib.Core.List.{List}
use Prim.Native.Nat.{◌-◌}
use Rattle.entries.specs.Entries.{Entry}
use Rattle.entries.specs.Map.{lookup}
use Rattle.entries.proofs.Passed.{Passed}
use Rattle.lookup.proofs.Walk.{Ahead}
use Rattle.lookup.proofs.locate.Given as goal

abbrev pub invariant-loop-at : goal.invariant-loop-at
invariant-loop-at l = Ahead (λ list. lookup list l.word) l.book l.at l.free × ((seen : List Entry) × Passed l.book seen l.at l.free l.length)

abbrev pub decreases-loop-at : goal.decreases-loop-at
decreases-loop-at l = l.free - l.at
