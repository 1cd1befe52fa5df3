use Prim.Native.Nat.{◌-◌}
use lib.ListN.{length}
use Rattle.line_splitting.proofs.Taking.{Along}
use Rattle.line_splitting.proofs.pass_chunk.Given as goal

abbrev pub invariant-loop-reached : goal.invariant-loop-reached
invariant-loop-reached g l = Along g.T.Task.Answers l.chunk l.initial.pending l.initial.out l.initial.reached l.pending l.out l.reached

abbrev pub decreases-loop-reached : goal.decreases-loop-reached
decreases-loop-reached g l = length l.chunk - l.reached.at
