use Prim.Native.Nat.{◌-◌}
use Rattle.listing.proofs.Passing.{Going}
use Rattle.listing.proofs.running.run.Given as goal

abbrev pub invariant-loop : goal.invariant-loop
invariant-loop g l = Going g.T.Task.Answers l.chunk l.pending l.out l.current (0x400000000000 - l.counter)
